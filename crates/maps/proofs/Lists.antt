-- Laws of counting the elements that pass a test. Assumes nothing.
use Prim.Native.Nat.{ℕ, zero, suc, ◌+◌, ◌≤◌, ◌<◌}
use mathlib.Core.Path.{◌≡◌, refl, ap, ◌∙◌}
use mathlib.Core.Bool.{Bool}
use mathlib.Core.List.{List, [], ◌∷◌, ◌++◌}
use native.Mathlib.Omega.{arith}
use lib.ListN.{length, get_or, take}
use lib.Seq.{take-suc}
use Rattle.maps.specs.Sums.{sum_to, when}
use Rattle.maps.specs.Lists.{count_if}
use Rattle.maps.proofs.Tests.{when-le}

module _ {A : Type 0} where
  pub count-append : (p : A → Bool) (xs ys : List A) → count_if p (xs ++ ys) ≡ count_if p xs + count_if p ys
  unfolding count_if
  count-append p [] ys = omega arith
  count-append p (x ∷ xs) ys = let ih = count-append p xs ys in omega arith

  -- no more than there are
  pub count-le : (p : A → Bool) (xs : List A) → count_if p xs ≤ length xs
  unfolding count_if
  count-le p [] = omega arith
  count-le p (x ∷ xs) = let h = count-le p xs in omega (arith, when-le (p x))

  -- counted by index
  pub sum-count : (p : A → Bool) (d : A) (xs : List A) (n : ℕ) → n ≤ length xs → sum_to (λ i. when (p (get_or xs i d)) 1) n ≡ count_if p (take n xs)
  unfolding sum_to count_if
  sum-count p d xs zero h = refl
  sum-count p d xs (suc n) h =
      let ih = sum-count p d xs n (omega arith) in
      let a = ap (count_if p) (take-suc xs n d h) ∙ count-append p (take n xs) (get_or xs n d ∷ []) in
      omega (arith, a, ih)

  -- a walk that counts
  pub count-start : (p : A → Bool) (xs : List A) → 0 ≡ count_if p (take 0 xs)
  unfolding count_if
  count-start p xs = refl

  pub count-step : (p : A → Bool) (d : A) (xs : List A) (i n b : ℕ) → i < length xs → n ≡ count_if p (take i xs) → b ≡ when (p (get_or xs i d)) 1 → n + b ≡ count_if p (take (i + 1) xs)
  unfolding count_if
  count-step p d xs i n b h e q =
      let k : i + 1 ≡ suc i = omega arith in
      let a = ap (count_if p) (take-suc xs i d h) ∙ count-append p (take i xs) (get_or xs i d ∷ []) in
      rw k (omega (arith, a))
