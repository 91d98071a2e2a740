-- A quotient rounded up is the ceiling where the number is above zero, and a quotient toward zero is no further from it than the number. Assumes nothing.
use Prim.Native.Nat.{ℕ, suc, ◌+◌, ◌-◌, ◌/◌, ◌%◌, ◌≤◌, ◌<◌, min}
use mathlib.Core.Path.{◌≡◌, sym, ap}
use mathlib.Core.Bool.{true}
use native.Mathlib.Omega.{arith}
use native.Mathlib.Nat.{div-le_self, div-eq_of_lt-le}
use lib.IntN.{ℤ, pos, negsuc, nat_abs}
use lib.Signed.{lt_z, quot_z}
use Rattle.std.proofs.lemmas.Grind.{div_ceil_times}
use Rattle.signed.proofs.Sizes.{abs_neg}
use Rattle.signed.proofs.Order.{never}
use Rattle.consolidate.specs.Modes.{ceil}

-- a quotient rounded up
div_ceil-is : (a den : ℕ) → 0 < den → (a + (den - 1)) / den ≡ a / den + min 1 (a % den)
div_ceil-is a den h =
    let b = div_ceil_times a den h in
    div-eq_of_lt-le {k = a / den + min 1 (a % den)} den {m = a + (den - 1)} (omega (arith, b.1)) (omega (arith, b.0))

pub ceil-above : (z : ℤ) (den : ℕ) → 0 < den → lt_z (pos 0) z ≡ true → pos (nat_abs z / den + min 1 (nat_abs z % den)) ≡ ceil z den
ceil-above (pos n) den h e = ap pos (sym (div_ceil-is n den h))
ceil-above (negsuc n) den h e = never e

pub quot_le : (z : ℤ) (den : ℕ) → nat_abs (quot_z z (pos den)) ≤ nat_abs z
quot_le (pos n) den = div-le_self n den
quot_le (negsuc n) den = rw abs_neg (div-le_self (suc n) den)
