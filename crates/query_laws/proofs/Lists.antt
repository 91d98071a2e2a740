-- Laws of lists that this crate's proofs share. Assumes nothing.
use mathlib.Core.Path.{◌≡◌, refl}
use mathlib.Core.Bool.{Bool, true, ◌&&◌}
use mathlib.Core.List.{List, [], ◌∷◌, map}
use native.Mathlib.Nat.{zero-add}
use Rattle.lists.specs.Lists.{keep, All}
use Rattle.lists.proofs.Keep.{all_keep, all-kept}
use Rattle.lists.proofs.Tests.{test}
use Rattle.maps.specs.Lists.{count_if}

module _ {A : Type 0} where
  -- how many of the images of those that pass t pass p
  pub count_kept : {B : Type 0} (f : A → B) (t : A → Bool) (p : B → Bool) (l : List A) → count_if p (map f (keep t l)) ≡ count_if (λ x. t x && p (f x)) l
  unfolding keep count_if
  count_kept f t p [] = refl
  count_kept f t p (x ∷ xs) = let ih = count_kept f t p xs in test (t x)
      (λ e. rw (e, ih))
      (λ e. rw (e, ih) (rw zero-add))

  -- an element that passes a test, where there is one
  pub some-kept : {C : Type 0} (t : A → Bool) (P : A → Type 0) (l : List A) → All P l → (keep t l ≡ [] → C) → ((x : A) → P x → t x ≡ true → C) → C
  some-kept {C} t P l h f g = go (keep t l) refl (all_keep P t l h) (all-kept t l)
    where
      go : (k : List A) → keep t l ≡ k → All P k → All (λ x. t x ≡ true) k → C
      go [] e a b = f e
      go (x ∷ k) e a b = g x a.0 b.0
