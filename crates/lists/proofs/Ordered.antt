-- Laws of ordered lists. Assumes nothing.
use mathlib.Core.Path.{◌≡◌, refl, sym, ◌∙◌}
use mathlib.Core.Bool.{Bool, true, false, not, ◌&&◌, and-true, and-false}
use mathlib.Core.List.{List, [], ◌∷◌, ◌++◌, map}
use Prim.Native.Nat.{ℕ, zero, suc, ◌≤◌, ◌<◌}
use native.Mathlib.Omega.{arith}
use lib.ListN.{length, get_or}
use lib.Dec.{eqb}
use borrow.Author.Tests.{eq-eqb, ne_eqb}
use Rattle.lists.specs.Lists.{keep, All}
use Rattle.lists.specs.Every.{count}
use Rattle.lists.specs.Keys.{Ordered}
use Rattle.lists.proofs.Tests.{test}
use Rattle.lists.proofs.Every.{count-more}
use Rattle.lists.proofs.Keep.{all_keep, all_append, all-at, all-make, all_map, all-imp, all_both, all-unmap}

module _ {A : Type 0} (R : A → A → Type 0) where
  pub ordered-keep : (t : A → Bool) (l : List A) → Ordered R l → Ordered R (keep t l)
  unfolding keep
  ordered-keep t [] h = tt
  ordered-keep t (x ∷ xs) h = test (t x) (λ e. rw e (all_keep (R x) t xs h.0, ordered-keep t xs h.1)) (λ e. rw e (ordered-keep t xs h.1))

  pub ordered-snoc : (l : List A) (x : A) → Ordered R l → All (λ y. R y x) l → Ordered R (l ++ x ∷ [])
  ordered-snoc [] x h a = (tt, tt)
  ordered-snoc (y ∷ ys) x h a = (all_append (R y) ys (x ∷ []) h.0 (a.0, tt), ordered-snoc ys x h.1 a.1)

  -- any two, by index
  pub ordered_at : (l : List A) (d : A) → Ordered R l → (i j : ℕ) → i < j → j < length l → R (get_or l i d) (get_or l j d)
  ordered_at [] d h i j lt l = absurd (omega arith)
  ordered_at (x ∷ xs) d h i zero lt l = absurd (omega arith)
  ordered_at (x ∷ xs) d h zero (suc j) lt l = all-at (R x) xs d h.0 j (omega arith)
  ordered_at (x ∷ xs) d h (suc i) (suc j) lt l = ordered_at xs d h.1 i j (omega arith) (omega arith)

  pub ordered-pairs : (l : List A) (d : A) → ((i j : ℕ) → i < j → j < length l → R (get_or l i d) (get_or l j d)) → Ordered R l
  ordered-pairs [] d h = tt
  ordered-pairs (x ∷ xs) d h = (all-make (R x) xs d (λ j lt. h 0 (suc j) (omega arith) (omega arith)), ordered-pairs xs d (λ i j lt le. h (suc i) (suc j) (omega arith) (omega arith)))

  -- neighbours suffice
  module _ (trans : (x y z : A) → R x y → R y z → R x z) where
    all_after : (x : A) (l : List A) (d : A) → (0 < length l → R x (get_or l 0 d)) → ((i : ℕ) → suc i < length l → R (get_or l i d) (get_or l (suc i) d)) → All (R x) l
    all_after x [] d h s = tt
    all_after x (y ∷ ys) d h s = (h (omega arith), all_after x ys d (λ lt. trans x y (get_or ys 0 d) (h (omega arith)) (s 0 (omega arith))) (λ i lt. s (suc i) (omega arith)))

    pub ordered-make : (l : List A) (d : A) → ((i : ℕ) → suc i < length l → R (get_or l i d) (get_or l (suc i) d)) → Ordered R l
    ordered-make [] d h = tt
    ordered-make (x ∷ xs) d h = (all_after x xs d (λ lt. h 0 (omega arith)) (λ i lt. h (suc i) (omega arith)), ordered-make xs d (λ i lt. h (suc i) (omega arith)))

pub ordered-imp : {A : Type 0} (R Q : A → A → Type 0) → ((x y : A) → R x y → Q x y) → (l : List A) → Ordered R l → Ordered Q l
ordered-imp R Q f [] h = tt
ordered-imp R Q f (x ∷ xs) h = (all-imp (R x) (Q x) (f x) xs h.0, ordered-imp R Q f xs h.1)

-- images
module _ {A B : Type 0} (R : B → B → Type 0) (f : A → B) where
  pub ordered-map : (l : List A) → Ordered (λ x y. R (f x) (f y)) l → Ordered R (map f l)
  ordered-map [] h = tt
  ordered-map (x ∷ xs) h = (all_map f (R (f x)) xs h.0, ordered-map xs h.1)

  pub ordered-unmap : (l : List A) → Ordered R (map f l) → Ordered (λ x y. R (f x) (f y)) l
  ordered-unmap [] h = tt
  ordered-unmap (x ∷ xs) h = (all-unmap f (R (f x)) xs h.0, ordered-unmap xs h.1)

-- ---- no two the same

abbrev pub Distinct : List ℕ → Type 0
Distinct l = Ordered (λ x y. x ≡ y → ⊥) l

-- distinct numbers that pass a test are at most as many as pass it
pub distinct-le : (l : List ℕ) (n : ℕ) (t : ℕ → Bool) → Distinct l → All (λ x. (x < n) × (t x ≡ true)) l → length l ≤ count n t
distinct-le [] n t d a = omega arith
distinct-le (x ∷ xs) n t d a =
    let ih = distinct-le xs n (λ y. t y && not (eqb y x)) d.1 rest in
    omega (arith, ih, count-more (λ y. t y && not (eqb y x)) t x here a.0.1 other n a.0.0)
  where
    here : t x && not (eqb x x) ≡ false
    here = rw (eq-eqb x x refl, and-false)

    other : (j : ℕ) → (j ≡ x → ⊥) → t j ≡ t j && not (eqb j x)
    other j ne = rw (ne_eqb j x ne, and-true)

    rest : All (λ y. (y < n) × (t y && not (eqb y x) ≡ true)) xs
    rest = all-imp (λ (y : ℕ). ((y < n) × (t y ≡ true)) × (x ≡ y → ⊥)) (λ y. (y < n) × (t y && not (eqb y x) ≡ true))
        (λ y h. (h.0.0, sym (other y (λ e. h.1 (sym e))) ∙ h.0.1)) xs (all_both (λ y. (y < n) × (t y ≡ true)) (λ y. x ≡ y → ⊥) xs a.1 d.0)
