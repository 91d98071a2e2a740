-- Laws of runs: the entries under one key, in a row. Assumes nothing.
use mathlib.Core.Path.{◌≡◌, refl, sym, ap, ◌∙◌}
use mathlib.Core.Bool.{Bool, true, false, cond, not, ◌||◌}
use mathlib.Core.List.{List, [], ◌∷◌, ◌++◌, append-nil}
use Prim.Native.Nat.{ℕ, ◌≤◌, ◌<◌}
use native.Mathlib.Omega.{arith}
use lib.ListN.{length, length-map}
use lib.Dec.{eqb, ltb}
use borrow.Author.Tests.{ltb-true, ltb-false, eqb-true, eqb-false, eq-eqb, ne_eqb}
use Rattle.lists.specs.Lists.{keep, some?, member, All}
use Rattle.lists.specs.Keys.{under, has_key, Ascending, times}
use Rattle.lists.specs.Entries.{key_of}
use Rattle.lists.proofs.Tests.{test}
use Rattle.lists.proofs.Keep.{keep_append, keep_all, keep-none, keep-map, all-imp, all-of-key, some-none, some-map}
use Rattle.build_stops.specs.Over.{over_keys, keys_of}
use Rattle.build_stops.proofs.Over.{times_none, member-over}

-- ---- times among entries

pub times-keys : (k : ℕ) (es : List (List ℕ)) → times k (keys_of es) ≡ length (under key_of k es)
times-keys k es = ap length (keep-map key_of (λ x. eqb x k) es) ∙ length-map (under key_of k es) key_of

some-append : {A : Type 0} (t : A → Bool) (l m : List A) → some? t (l ++ m) ≡ some? t l || some? t m
unfolding some?
some-append t [] m = refl
some-append t (x ∷ l) m = rw (some-append t l m) (test (t x) (λ e. rw e) (λ e. rw e))

below_none : (y x : ℕ) (es : List (List ℕ)) → All (λ e. key_of e < x) es → x ≤ y → has_key key_of y es ≡ false
below_none y x es a h = some-none (λ e. eqb (key_of e) y) es (all-imp (λ e. key_of e < x) (λ e. eqb (key_of e) y ≡ false) (λ e lt. ne_eqb (key_of e) y (λ d. omega arith)) es a)

run-has : (x y : ℕ) (b : List ℕ) (bs : List (List ℕ)) → All (λ e. key_of e ≡ x) (b ∷ bs) → has_key key_of y (b ∷ bs) ≡ eqb x y
unfolding some?
run-has x y b bs a =
    test (eqb x y)
    (λ d. rw (a.0, d))
    (λ d. rw (a.0, d) (some-none (λ e. eqb (key_of e) y) bs (all-imp (λ e. key_of e ≡ x) (λ e. eqb (key_of e) y ≡ false) (λ e q. rw q d) bs a.1)))

-- the stopped keys of one run more
module _ (A : List (List ℕ)) (b : List ℕ) (bs : List (List ℕ)) (x : ℕ) (lower : All (λ e. key_of e < x) A) (same : All (λ e. key_of e ≡ x) (b ∷ bs)) where
  has_more : (y : ℕ) → has_key key_of y (A ++ b ∷ bs) ≡ has_key key_of y A || eqb x y
  has_more y = some-append (λ e. eqb (key_of e) y) A (b ∷ bs) ∙ ap (λ t. has_key key_of y A || t) (run-has x y b bs same)

  above : (S : List ℕ) → All (λ y. x < y) S → (keep (λ y. has_key key_of y (A ++ b ∷ bs)) S ≡ []) × (keep (λ y. has_key key_of y A) S ≡ []) × (member x S ≡ false)
  above S a = (
    keep-none (λ y. has_key key_of y (A ++ b ∷ bs)) S (all-imp (λ y. x < y) (λ y. has_key key_of y (A ++ b ∷ bs) ≡ false)
        (λ y lt. has_more y ∙ rw (below_none y x A lower (omega arith)) (ne_eqb x y (λ d. omega arith))) S a),
    keep-none (λ y. has_key key_of y A) S (all-imp (λ y. x < y) (λ y. has_key key_of y A ≡ false) (λ y lt. below_none y x A lower (omega arith)) S a),
    some-none (λ y. eqb y x) S (all-imp (λ y. x < y) (λ y. eqb y x ≡ false) (λ y lt. ne_eqb y x (λ d. omega arith)) S a),
  )

  pub stops-more : (S : List ℕ) → Ascending (λ k. k) S
      → keep (λ y. has_key key_of y (A ++ b ∷ bs)) S ≡ keep (λ y. has_key key_of y A) S ++ cond (member x S) (x ∷ []) []
  unfolding keep some?
  stops-more [] h = refl
  stops-more (y ∷ ys) h =
      let ih = stops-more ys h.1 in
      test (ltb y x)
      (λ lt. let l = ltb-true y x lt in
      let ne : eqb y x ≡ false = ne_eqb y x (λ d. omega arith) in
      let en : eqb x y ≡ false = ne_eqb x y (λ d. omega arith) in
      rw (has_more y, en, ne, mathlib.Core.Bool.or-false (has_key key_of y A), ih) (test (has_key key_of y A) (λ e. rw e) (λ e. rw e)))
      (λ ge. let g = ltb-false y x ge in
      test (eqb y x)
      (λ d. let s : y ≡ x = eqb-true y x d in
      let a = above ys (rw s at h.0) in
      rw (has_more y, d, below_none y x A lower g, eq-eqb x y (sym s), a.0, a.1) (ap (λ z. z ∷ []) s))
      (λ d. let ne = eqb-false y x d in
      let far : x < y = strict g ne in
      let a = above (y ∷ ys) (far, all-imp (λ z. y < z) (λ z. x < z) (λ z q. omega arith) ys h.0) in
      a.0 ∙ sym (rw (a.1, a.2))))
    where
      strict : x ≤ y → (y ≡ x → ⊥) → x < y
      strict g ne = omega arith

  -- and the entries that are kept
  pub kept_more : (t : ℕ → Bool) (v : Bool) → t x ≡ v
      → keep (λ e. not (t (key_of e))) (A ++ b ∷ bs) ≡ keep (λ e. not (t (key_of e))) A ++ cond v [] (b ∷ bs)
  kept_more t v e = keep_append (λ e. not (t (key_of e))) A (b ∷ bs) ∙ ap (λ l. keep (λ e. not (t (key_of e))) A ++ l) (go v e)
    where
      go : (v : Bool) → t x ≡ v → keep (λ e. not (t (key_of e))) (b ∷ bs) ≡ cond v [] (b ∷ bs)
      go true e = keep-none (λ e. not (t (key_of e))) (b ∷ bs) (all-imp (λ e. key_of e ≡ x) (λ e. not (t (key_of e)) ≡ false) (λ z q. rw (q, e)) (b ∷ bs) same)
      go false e = keep_all (λ e. not (t (key_of e))) (b ∷ bs) (all-imp (λ e. key_of e ≡ x) (λ e. not (t (key_of e)) ≡ true) (λ z q. rw (q, e)) (b ∷ bs) same)

-- how often the key of a run stands
pub run-times : (A B C : List (List ℕ)) (x : ℕ) → All (λ e. key_of e < x) A → All (λ e. key_of e ≡ x) B → All (λ e. x < key_of e) C → times x (keys_of (A ++ (B ++ C))) ≡ length B
run-times A B C x a b c =
    let na = keep-none (λ e. eqb (key_of e) x) A (all-imp (λ e. key_of e < x) (λ e. eqb (key_of e) x ≡ false) (λ e lt. ne_eqb (key_of e) x (λ d. omega arith)) A a) in
    let nc = keep-none (λ e. eqb (key_of e) x) C (all-imp (λ e. x < key_of e) (λ e. eqb (key_of e) x ≡ false) (λ e lt. ne_eqb (key_of e) x (λ d. omega arith)) C c) in
    let yb = keep_all (λ e. eqb (key_of e) x) B (all-imp (λ e. key_of e ≡ x) (λ e. eqb (key_of e) x ≡ true) (λ e q. eq-eqb (key_of e) x q) B b) in
    let all : under key_of x (A ++ (B ++ C)) ≡ B = keep_append (λ e. eqb (key_of e) x) A (B ++ C) ∙ rw (na, keep_append (λ e. eqb (key_of e) x) B C, yb, nc, append-nil) in
    times-keys x (A ++ (B ++ C)) ∙ ap length all

-- at the end every stopped key has been seen
pub stops-all : (limit : ℕ) (es : List (List ℕ)) → keep (λ y. has_key key_of y es) (over_keys limit (keys_of es)) ≡ over_keys limit (keys_of es)
stops-all limit es = keep_all (λ y. has_key key_of y es) (over_keys limit (keys_of es))
    (all-of-key (λ y. y) (λ y. has_key key_of y es ≡ true) (over_keys limit (keys_of es))
    (λ k m. test (has_key key_of k es) (λ e. e)
    (λ e. absurd (omega (arith, ltb-true limit (times k (keys_of es)) (sym (member-over limit (keys_of es) k) ∙ m), times_none k (keys_of es) (some-map key_of (λ y. eqb y k) es ∙ e))))))

-- ---- the same for a run that is not empty

pub stops-run : (A B : List (List ℕ)) (x : ℕ) → All (λ e. key_of e < x) A → All (λ e. key_of e ≡ x) B → 0 < length B → (S : List ℕ) → Ascending (λ k. k) S
    → keep (λ y. has_key key_of y (A ++ B)) S ≡ keep (λ y. has_key key_of y A) S ++ cond (member x S) (x ∷ []) []
stops-run A [] x a b h = absurd (omega arith)
stops-run A (b ∷ bs) x a s h = stops-more A b bs x a s

pub kept_run : (A B : List (List ℕ)) (x : ℕ) → All (λ e. key_of e < x) A → All (λ e. key_of e ≡ x) B → 0 < length B → (t : ℕ → Bool) (v : Bool) → t x ≡ v
    → keep (λ e. not (t (key_of e))) (A ++ B) ≡ keep (λ e. not (t (key_of e))) A ++ cond v [] B
kept_run A [] x a b h = absurd (omega arith)
kept_run A (b ∷ bs) x a s h = kept_more A b bs x a s
