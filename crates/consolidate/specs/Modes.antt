-- The mode of offsets with counts. Definitions only. Assumes nothing.
use Rattle.std.specs.Prelude.{ℕ, suc, ◌+◌, ◌-◌, ◌*◌, ◌/◌, Bool, cond, Option, Some, None, ℤ, pos, negsuc, neg_ℤ, ◌-ℤ◌, ◌*ℤ◌, eqb}
use Rattle.maps.specs.Sums.{sum_to, sum_to_ℤ, greatest, when, when_ℤ}

-- ⌈ num / den ⌉; proofs/Ceiling.antt proves that it is
abbrev pub ceil : ℤ → ℕ → ℤ
ceil (pos a) den = pos ((a + (den - 1)) / den)
ceil (negsuc a) den = neg_ℤ (pos (suc a / den))

-- "mean .. rounded to nearest, halves to the lower", of m numbers with the sum z: ⌈ z / m − 1 / 2 ⌉
abbrev pub nearest_mean : ℤ → ℕ → ℤ
nearest_mean z m = ceil (pos 2 *ℤ z -ℤ pos m) (2 * m)

-- x is one of the offsets "with the greatest count", of k offsets with the counts m 0, .., m (k - 1)
abbrev pub tied : (ℕ → ℕ) → ℕ → ℕ → Bool
tied m k x = eqb (m x) (greatest m k)

-- the mode of the offsets z 0, .., z (k - 1) with the counts m 0, .., m (k - 1):
-- "mean of the offsets with the greatest count .., rounded to nearest, halves to the lower; none if no count is positive"
unfoldable pub mode : (ℕ → ℕ) → (ℕ → ℤ) → ℕ → Option ℤ
mode m z k =
    cond (eqb (greatest m k) 0) None
    (Some (nearest_mean (sum_to_ℤ (λ x. when_ℤ (tied m k x) (z x)) k) (sum_to (λ x. when (tied m k x) 1) k)))

-- the mode, and another offset if there is none
abbrev pub mode_or : ℤ → Option ℤ → ℤ
mode_or other None = other
mode_or other (Some d) = d
