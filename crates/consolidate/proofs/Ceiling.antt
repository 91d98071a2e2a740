-- `ceil` is the ceiling, and `nearest_mean` the nearest whole number, halves to the lower. Assumes nothing.
use Prim.Native.Nat.{ℕ, zero, suc, ◌+◌, ◌-◌, ◌*◌, ◌/◌, ◌≤◌, ◌<◌}
use mathlib.Core.Path.{◌≡◌, refl, ap, ◌∙◌, subst}
use native.Mathlib.Omega.{arith}
use native.Mathlib.Nat.{div-mul-le_self, lt-div-mul-add, zero-mul}
use native.Mathlib.Decide.{dec_lt}
use lib.IntN.{ℤ, pos, negsuc, neg_ℤ, sub_ℕ, ◌+ℤ◌, ◌-ℤ◌, ◌*ℤ◌, +ℤ_assoc}
use lib.Signed.{le_z, lt_z}
use lib.Dec.{T, le→leb, lt→ltb}
use borrow.Author.Tests.{lt-ltb, le-ltb}
use Rattle.consolidate.specs.Modes.{ceil, nearest_mean}

neg-mul : (q d : ℕ) → neg_ℤ (pos q) *ℤ pos d ≡ neg_ℤ (pos (q * d))
neg-mul zero d = rw (zero-mul d) refl
neg-mul (suc q) d = refl

below-neg : (a m : ℕ) → m ≤ suc a → T (le_z (negsuc a) (neg_ℤ (pos m)))
below-neg a zero h = tt
below-neg a (suc m) h = le→leb m a (omega arith)

neg-below : (a m d : ℕ) → suc a < m + d → T (lt_z (neg_ℤ (pos m)) (sub_ℕ d (suc a)))
neg-below a zero d h = rw (le-ltb d (suc a) (omega arith)) (lt→ltb 0 (d - suc a) (omega arith))
neg-below a (suc m) d h = go (dec_lt d (suc a))
  where
    go : Dec (d < suc a) → T (lt_z (negsuc m) (sub_ℕ d (suc a)))
    go (yes p) = rw (lt-ltb d (suc a) p) (lt→ltb (suc a - suc d) m (omega arith))
    go (no q) = rw (le-ltb d (suc a) (omega arith)) tt

-- z ≤ den · ⌈ z / den ⌉ < z + den
pub ceiling : (z : ℤ) (den : ℕ) → 0 < den → T (le_z z (ceil z den *ℤ pos den)) × T (lt_z (ceil z den *ℤ pos den) (z +ℤ pos den))
ceiling (pos a) den h =
    let lo = div-mul-le_self (a + (den - 1)) den in
    let hi = lt-div-mul-add {a = a + (den - 1)} h in
    (le→leb a ((a + (den - 1)) / den * den) (omega arith), lt→ltb ((a + (den - 1)) / den * den) (a + den) (omega arith))
ceiling (negsuc a) den h =
    rw (neg-mul (suc a / den) den)
    (below-neg a (suc a / den * den) (div-mul-le_self (suc a) den), neg-below a (suc a / den * den) den (lt-div-mul-add h))

less-twice : (m : ℕ) → neg_ℤ (pos m) +ℤ pos (2 * m) ≡ pos m
less-twice zero = refl
less-twice (suc m) = rw (le-ltb (2 * suc m) (suc m) (omega arith)) (ap pos (half m))
  where
    half : (m : ℕ) → 2 * suc m - suc m ≡ suc m
    half m = omega arith

-- with q = nearest_mean z m: 2 z − m ≤ 2 m q < 2 z + m, so z / m is above q − 1 / 2 and at most q + 1 / 2
pub nearest : (z : ℤ) (m : ℕ) → 0 < m
    → T (le_z (pos 2 *ℤ z -ℤ pos m) (nearest_mean z m *ℤ pos (2 * m))) × T (lt_z (nearest_mean z m *ℤ pos (2 * m)) (pos 2 *ℤ z +ℤ pos m))
nearest z m h =
    let c = ceiling (pos 2 *ℤ z -ℤ pos m) (2 * m) (omega arith) in
    let e : pos 2 *ℤ z -ℤ pos m +ℤ pos (2 * m) ≡ pos 2 *ℤ z +ℤ pos m = +ℤ_assoc (pos 2 *ℤ z) (neg_ℤ (pos m)) (pos (2 * m)) ∙ ap (λ (y : ℤ). pos 2 *ℤ z +ℤ y) (less-twice m) in
    (c.0, subst (λ (y : ℤ). T (lt_z (nearest_mean z m *ℤ pos (2 * m)) y)) e c.1)
