-- How often a key stands in a list decides whether it is there. Assumes nothing.
use mathlib.Core.Path.{◌≡◌, refl, sym, ap, ◌∙◌}
use mathlib.Core.Bool.{Bool, true, false, ◌||◌}
use mathlib.Core.List.{List, [], ◌∷◌}
use Prim.Native.Nat.{ℕ, suc, ◌+◌, ◌≤◌, ◌<◌}
use native.Mathlib.Omega.{arith}
use lib.ListN.{length, length-append}
use lib.Dec.{eqb, ltb}
use borrow.Author.Tests.{eqb-true, eqb-false, ne_eqb, lt-ltb, ltb-true, ltb-false}
use Rattle.lists.specs.Lists.{keep, some?, member, All}
use Rattle.lists.specs.Keys.{under, Sorted, Ascending, place_all, times}
use Rattle.lists.proofs.Tests.{test}
use Rattle.lists.proofs.Keep.{keep-none, keep_append, all-imp}
use Rattle.lists.proofs.Place.{sorted_ext, sorted-keep, sorted-place_all, under-place_all}
use Rattle.lists.proofs.Ascending.{ascending-sorted}
use Rattle.insert_merge.proofs.Runs.{times-here}

-- one passes exactly if what is kept is not empty
pub some-kept : {A : Type 0} (t : A → Bool) (l : List A) → some? t l ≡ ltb 0 (length (keep t l))
unfolding some? keep
some-kept t [] = refl
some-kept t (x ∷ l) = let ih = some-kept t l in test (t x) (λ e. rw e (sym (lt-ltb 0 (suc (length (keep t l))) (omega arith)))) (λ e. rw e ih)

-- under a key that passes, the test changes nothing
pub keep-keep : {A : Type 0} (t u : A → Bool) (l : List A) → ((x : A) → t x ≡ true → u x ≡ true) → keep t (keep u l) ≡ keep t l
unfolding keep
keep-keep t u [] h = refl
keep-keep t u (x ∷ l) h =
    let ih = keep-keep t u l h in
    test (u x)
    (λ e. test (t x) (λ d. rw (e, d) (ap (λ m. x ∷ m) ih)) (λ d. rw (e, d) ih))
    (λ e. test (t x) (λ d. let f = h x d in let z : ◌≡◌ {A = Bool} true false = sym f ∙ e in absurd (mathlib.Core.Bool.true≢false z)) (λ d. rw (e, d) ih))

pub either : (a b : ℕ) → ltb 0 (a + b) ≡ ltb 0 a || ltb 0 b
either a b = test (ltb 0 a)
    (λ e. rw (e, lt-ltb 0 (a + b) (omega (arith, ltb-true 0 a e))))
    (λ e. let z : a ≡ 0 = omega (arith, ltb-false 0 a e) in let s : a + b ≡ b = omega arith in rw (e, s))

-- ---- keys

times_more : (k x : ℕ) (l : List ℕ) → times k l ≤ times k (x ∷ l)
unfolding keep
times_more k x l = test (eqb x k) (λ e. rw e (omega arith)) (λ e. rw e (omega arith))

times_none : (k : ℕ) (l : List ℕ) → times k l ≡ 0 → All (λ y. y ≡ k → ⊥) l
unfolding keep
times_none k [] h = tt
times_none k (x ∷ l) h =
    test (eqb x k)
    (λ e. absurd (let g : suc (times k l) ≡ 0 = rw e at h in omega arith))
    (λ e. ((λ z. eqb-false x k e z), times_none k l (rw e at h)))

-- what is sorted and has no key twice ascends strictly
ascending-once : (l : List ℕ) → Sorted (λ k. k) l → ((k : ℕ) → times k l ≤ 1) → Ascending (λ k. k) l
ascending-once [] s h = tt
ascending-once (x ∷ l) s h =
    let z : times x l ≡ 0 = omega (arith, h x, times-here x l) in (
      all-imp (λ (y : ℕ). (x ≤ y) × (y ≡ x → ⊥)) (λ (y : ℕ). x < y) (λ y q. omega (arith, q.0, q.1)) l
          (Rattle.lists.proofs.Keep.all_both (λ (y : ℕ). x ≤ y) (λ (y : ℕ). y ≡ x → ⊥) l s.0 (times_none x l z)),
      ascending-once l s.1 (λ k. omega (arith, h k, times_more k x l)),
    )

times_above : (k : ℕ) (l : List ℕ) → All (λ y. k < y) l → times k l ≡ 0
times_above k l a = rw (keep-none (λ (x : ℕ). eqb x k) l (all-imp (λ (y : ℕ). k < y) (λ (y : ℕ). eqb y k ≡ false) (λ y h. ne_eqb y k (λ e. omega arith)) l a))

pub times-ascending : (k : ℕ) (l : List ℕ) → Ascending (λ k. k) l → times k l ≤ 1
unfolding keep
times-ascending k [] a = omega arith
times-ascending k (x ∷ l) a =
    let ih = times-ascending k l a.1 in
    test (eqb x k)
    (λ e. let z = times_above k l (rw (eqb-true x k e) at a.0) in rw (e, z) (omega arith))
    (λ e. rw e ih)

-- keys placed among others that they are none of
module _ (new l : List ℕ) (sl : Ascending (λ k. k) l) (sn : Ascending (λ k. k) new) (apart : (k : ℕ) → member k new ≡ true → member k l ≡ false) where
  times-place_all : (k : ℕ) → times k (place_all (λ x. x) new l) ≡ times k l + times k new
  times-place_all k = ap length (under-place_all (λ x. x) k new l (ascending-sorted (λ x. x) l sl)) ∙ length-append (under (λ x. x) k l) (under (λ x. x) k new)

  pub member-place_all : (k : ℕ) → member k (place_all (λ x. x) new l) ≡ member k l || member k new
  member-place_all k =
      some-kept (λ (x : ℕ). eqb x k) (place_all (λ x. x) new l) ∙ ap (ltb 0) (times-place_all k) ∙ either (times k l) (times k new)
      ∙ rw (some-kept (λ (x : ℕ). eqb x k) l, some-kept (λ (x : ℕ). eqb x k) new)

  pub ascending-place_all : Ascending (λ k. k) (place_all (λ x. x) new l)
  ascending-place_all = ascending-once (place_all (λ x. x) new l) (sorted-place_all (λ x. x) new l (ascending-sorted (λ x. x) l sl))
      (λ k. rw (times-place_all k) (test (member k new)
      (λ e.
      let f : ltb 0 (times k l) ≡ false = sym (some-kept (λ (x : ℕ). eqb x k) l) ∙ apart k e in
      omega (arith, ltb-false 0 (times k l) f, times-ascending k new sn))
      (λ e.
      let f : ltb 0 (times k new) ≡ false = sym (some-kept (λ (x : ℕ). eqb x k) new) ∙ e in
      omega (arith, ltb-false 0 (times k new) f, times-ascending k l sl))))

-- ---- elements placed

module _ {A : Type 0} (key : A → ℕ) where
  -- only what stands under each key of the new ones matters
  pub place_all-same : (a b l : List A) → Sorted key l → ((k : ℕ) → under key k a ≡ under key k b) → place_all key a l ≡ place_all key b l
  place_all-same a b l s h = sorted_ext key (place_all key a l) (place_all key b l) (sorted-place_all key a l s) (sorted-place_all key b l s)
      (λ k. under-place_all key k a l s ∙ rw (h k) (sym (under-place_all key k b l s)))

  -- those that pass a test may be taken before they are placed
  pub keep-place_all : (t : A → Bool) (a l : List A) → Sorted key l → keep t (place_all key a l) ≡ place_all key (keep t a) (keep t l)
  keep-place_all t a l s =
      sorted_ext key (keep t (place_all key a l)) (place_all key (keep t a) (keep t l))
      (sorted-keep key t (place_all key a l) (sorted-place_all key a l s)) (sorted-place_all key (keep t a) (keep t l) (sorted-keep key t l s))
      (λ k.
      Rattle.lists.proofs.Keep.keep-comm (λ (x : A). eqb (key x) k) t (place_all key a l)
      ∙ ap (keep t) (under-place_all key k a l s) ∙ keep_append t (under key k l) (under key k a)
      ∙ rw (Rattle.lists.proofs.Keep.keep-comm t (λ (x : A). eqb (key x) k) l, Rattle.lists.proofs.Keep.keep-comm t (λ (x : A). eqb (key x) k) a)
      (sym (under-place_all key k (keep t a) (keep t l) (sorted-keep key t l s))))
