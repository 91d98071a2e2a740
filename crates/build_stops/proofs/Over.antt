-- Laws of the keys over a limit: which they are, and that a key more makes at most one more of them. Assumes nothing.
use mathlib.Core.Path.{◌≡◌, refl, sym, ap, ◌∙◌}
use mathlib.Core.Bool.{Bool, true, false, cond, ◌&&◌}
use mathlib.Core.List.{List, [], ◌∷◌, ◌++◌}
use Prim.Native.Nat.{ℕ, suc, ◌+◌, ◌≤◌, ◌<◌}
use native.Mathlib.Omega.{arith}
use lib.ListN.{length, length-append}
use lib.Dec.{eqb, ltb}
use borrow.Author.Tests.{ltb-true, eqb-true, eqb-false, eq-eqb, ne_eqb, lt-ltb, le-ltb}
use Rattle.lists.specs.Lists.{keep, some?, member, insert_key, All}
use Rattle.lists.specs.Keys.{under, Ascending, times}
use Rattle.lists.proofs.Tests.{test, not-both, both_ways}
use Rattle.lists.proofs.Keep.{keep_append, keep_one, keep-none, all-imp, all_append}
use Rattle.lists.proofs.Place.{under_none}
use Rattle.lists.proofs.Ascending.{member-insert_key, ascending-insert_key, ascending-ext}
use Rattle.build_stops.specs.Over.{keys_passing, over, over_keys, Counted}

pub ascending-passing : (t : ℕ → Bool) (l : List ℕ) → Ascending (λ k. k) (keys_passing t l)
unfolding keys_passing
ascending-passing t [] = tt
ascending-passing t (x ∷ l) = test (t x) (λ e. rw e (ascending-insert_key x (keys_passing t l) (ascending-passing t l))) (λ e. rw e (ascending-passing t l))

pub member-passing : (t : ℕ → Bool) (l : List ℕ) (k : ℕ) → member k (keys_passing t l) ≡ t k && member k l
unfolding keys_passing some?
member-passing t [] k = test (t k) (λ e. rw e) (λ e. rw e)
member-passing t (x ∷ l) k =
    let ih = member-passing t l k in
    test (t x)
    (λ e. rw (e, member-insert_key x k (keys_passing t l), ih) (test (eqb x k)
    (λ d. let s : t k ≡ true = rw (eqb-true x k d) at e in rw (d, s))
    (λ d. rw d)))
    (λ e. rw (e, ih) (test (eqb x k)
    (λ d. let s : t k ≡ false = rw (eqb-true x k d) at e in rw (d, s))
    (λ d. rw d)))

-- ---- how often

pub times-append : (k : ℕ) (l m : List ℕ) → times k (l ++ m) ≡ times k l + times k m
times-append k l m = ap length (keep_append (λ x. eqb x k) l m) ∙ length-append (under (λ x. x) k l) (under (λ x. x) k m)

times-one : (k x : ℕ) → times k (x ∷ []) ≡ cond (eqb x k) 1 0
times-one k x = ap length (keep_one (λ y. eqb y k) x) ∙ test (eqb x k) (λ e. rw e) (λ e. rw e)

pub times_more : (k : ℕ) (l : List ℕ) (x : ℕ) → times k (l ++ x ∷ []) ≡ times k l + cond (eqb x k) 1 0
times_more k l x = times-append k l (x ∷ []) ∙ ap (λ n. times k l + n) (times-one k x)

pub times_none : (k : ℕ) (l : List ℕ) → member k l ≡ false → times k l ≡ 0
times_none k l h = ap length (under_none (λ x. x) k l h)

times_below : (k : ℕ) (l : List ℕ) → All (λ y. y < k) l → times k l ≡ 0
times_below k l a = ap length (keep-none (λ y. eqb y k) l (all-imp (λ y. y < k) (λ y. eqb y k ≡ false) (λ y lt. ne_eqb y k (λ e. omega arith)) l a))

-- ---- over the limit

pub member-over : (limit : ℕ) (l : List ℕ) (k : ℕ) → member k (over_keys limit l) ≡ over limit l k
unfolding over_keys
member-over limit l k =
    member-passing (over limit l) l k
    ∙ test (over limit l k)
    (λ e. rw e (test (member k l) (λ d. d) (λ d. absurd (omega (arith, ltb-true limit (times k l) e, times_none k l d)))))
    (λ e. rw e)

pub ascending-over : (limit : ℕ) (l : List ℕ) → Ascending (λ k. k) (over_keys limit l)
unfolding over_keys
ascending-over limit l = ascending-passing (over limit l) l

-- keys that stand as often give the same
pub over-same : (limit : ℕ) (l m : List ℕ) → ((k : ℕ) → times k l ≡ times k m) → over_keys limit l ≡ over_keys limit m
over-same limit l m h = ascending-ext (over_keys limit l) (over_keys limit m) (ascending-over limit l) (ascending-over limit m)
    (λ k. member-over limit l k ∙ ap (ltb limit) (h k) ∙ sym (member-over limit m k))

length-insert_key : (k : ℕ) (l : List ℕ) → member k l ≡ false → length (insert_key k l) ≡ suc (length l)
unfolding insert_key some?
length-insert_key k [] h = refl
length-insert_key k (x ∷ xs) h =
    test (eqb x k)
    (λ e. absurd (not-both (rw e) h))
    (λ e. test (ltb k x) (λ d. rw (e, d)) (λ d. rw (e, d) (ap suc (length-insert_key k xs (rw e at h)))))

-- a key more
pub over-more : (limit : ℕ) (l : List ℕ) (x : ℕ) → length (over_keys limit (l ++ x ∷ [])) ≡ length (over_keys limit l) + cond (eqb (times x l + 1) (limit + 1)) 1 0
over-more limit l x = test (eqb (times x l + 1) (limit + 1)) yes no
  where
    yes : eqb (times x l + 1) (limit + 1) ≡ true → length (over_keys limit (l ++ x ∷ [])) ≡ length (over_keys limit l) + cond (eqb (times x l + 1) (limit + 1)) 1 0
    yes e =
        let n : times x l + 1 ≡ limit + 1 = eqb-true (times x l + 1) (limit + 1) e in
        let fresh : member x (over_keys limit l) ≡ false = member-over limit l x ∙ le-ltb limit (times x l) (omega arith) in
        let same : over_keys limit (l ++ x ∷ []) ≡ insert_key x (over_keys limit l) =
        ascending-ext (over_keys limit (l ++ x ∷ [])) (insert_key x (over_keys limit l)) (ascending-over limit (l ++ x ∷ [])) (ascending-insert_key x (over_keys limit l) (ascending-over limit l))
        (λ k. member-over limit (l ++ x ∷ []) k ∙ rw (times_more k l x) (test (eqb x k)
        (λ d. let s : x ≡ k = eqb-true x k d in
        let past : limit < times x l + 1 = omega arith in
        rw d (lt-ltb limit (times k l + 1) (rw s at past) ∙ sym (member-insert_key x k (over_keys limit l) ∙ rw d)))
        (λ d. let z : times k l + 0 ≡ times k l = omega arith in rw (d, z) (sym (member-insert_key x k (over_keys limit l) ∙ rw (d, member-over limit l k)))))) in
        rw (e, same, length-insert_key x (over_keys limit l) fresh) (omega arith)

    no : eqb (times x l + 1) (limit + 1) ≡ false → length (over_keys limit (l ++ x ∷ [])) ≡ length (over_keys limit l) + cond (eqb (times x l + 1) (limit + 1)) 1 0
    no e =
        let n = eqb-false (times x l + 1) (limit + 1) e in
        let same : over_keys limit (l ++ x ∷ []) ≡ over_keys limit l =
        ascending-ext (over_keys limit (l ++ x ∷ [])) (over_keys limit l) (ascending-over limit (l ++ x ∷ [])) (ascending-over limit l)
        (λ k. member-over limit (l ++ x ∷ []) k ∙ rw (times_more k l x) (test (eqb x k)
        (λ d. rw (d, ← (eqb-true x k d)) (unmoved n ∙ sym (member-over limit l x)))
        (λ d. let z : times k l + 0 ≡ times k l = omega arith in rw (d, z) (sym (member-over limit l k))))) in
        rw (e, same) (omega arith)
      where
        unmoved : (times x l + 1 ≡ limit + 1 → ⊥) → ltb limit (times x l + 1) ≡ ltb limit (times x l)
        unmoved n = both_ways (ltb limit (times x l + 1)) (ltb limit (times x l))
            (λ a. lt-ltb limit (times x l) (further (ltb-true limit (times x l + 1) a)))
            (λ a. lt-ltb limit (times x l + 1) (omega (arith, ltb-true limit (times x l) a)))
          where
            further : limit < times x l + 1 → limit < times x l
            further a = omega (arith, n)

-- ---- counting in key order

pub counted_none : (limit key : ℕ) → Counted limit [] key 0 0
unfolding over_keys keys_passing keep
counted_none limit key = record { run_is = refl; fresh = λ k a n. refl; many_is = refl }

pub counted-more : (limit : ℕ) (l : List ℕ) (key run many x run' many' : ℕ) → Counted limit l key run many → All (λ y. y ≤ x) l
    → run' ≡ cond (eqb x key) (run + 1) 1 → many' ≡ many + cond (eqb run' (limit + 1)) 1 0 → Counted limit (l ++ x ∷ []) x run' many'
counted-more limit l key run many x run' many' h a er em =
    let one : times x (l ++ x ∷ []) ≡ times x l + 1 = times_more x l x ∙ rw (eq-eqb x x refl) in
    let now : run' ≡ times x l + 1 = er ∙ test (eqb x key)
    (λ e. rw (e, eqb-true x key e) (ap (λ n. n + 1) h.run_is))
    (λ e. rw e (ap (λ n. n + 1) (sym (h.fresh x a (eqb-false x key e))))) in
    record {
      run_is = now ∙ sym one;
      fresh = λ k b ne. times_below k (l ++ x ∷ []) (below k b ne);
      many_is = em ∙ rw (now, h.many_is) (sym (over-more limit l x));
    }
  where
    last : (k : ℕ) (m : List ℕ) → All (λ y. y ≤ k) (m ++ x ∷ []) → x ≤ k
    last k [] b = b.0
    last k (y ∷ m) b = last k m b.1

    below : (k : ℕ) → All (λ y. y ≤ k) (l ++ x ∷ []) → (k ≡ x → ⊥) → All (λ y. y < k) (l ++ x ∷ [])
    below k b ne =
        let le : x ≤ k = last k l b in
        let lt : x < k = omega arith in
        all_append (λ y. y < k) l (x ∷ []) (all-imp (λ y. y ≤ x) (λ y. y < k) (λ y g. omega arith) l a) (lt, tt)
