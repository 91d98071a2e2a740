-- Laws of how far a word lies above a low end. Assumes nothing.
use mathlib.Core.Path.{◌≡◌, refl, ap}
use mathlib.Core.Bool.{true, false}
use Prim.Native.Nat.{ℕ, suc, ◌+◌, ◌-◌, ◌≤◌, zero-le}
use native.Mathlib.Omega.{arith}
use lib.IntN.{ℤ, pos, negsuc, nat_abs, ◌-ℤ◌}
use lib.Signed.{le_z, mag}
use borrow.Author.Tests.{le-leb, leb-true, le-ltb}
use Rattle.bins.specs.Votes.{above}

-- a word from 0 on
pub above-up : (low : ℕ) (z : ℤ) → le_z (pos 0) z ≡ true → low + nat_abs z ≡ above low z
above-up low (pos n) t = refl
above-up low (negsuc n) t = let e : ◌≡◌ {A = ℕ} 0 1 = cc in absurd (omega arith)

-- one below 0
pub under-zero : (z : ℤ) → le_z (pos 0) z ≡ false → negsuc 0 -ℤ z ≡ pos (mag z)
under-zero (pos n) t = let e : ◌≡◌ {A = ℕ} 0 1 = cc (le-leb 0 n zero-le) in absurd (omega arith)
under-zero (negsuc n) t = let e : suc n - 1 ≡ n = omega arith in rw (le-ltb (suc n) 1 (omega arith)) (ap pos e)

pub above-under : (low : ℕ) (z : ℤ) → le_z (pos 0) z ≡ false → above low z ≡ low - (mag z + 1)
above-under low (pos n) t = let e : ◌≡◌ {A = ℕ} 0 1 = cc (le-leb 0 n zero-le) in absurd (omega arith)
above-under low (negsuc n) t = omega arith

-- the order of words is that of their places above a low end
pub above-le : (low : ℕ) (y z : ℤ) → le_z y z ≡ true → above low y ≤ above low z
above-le low (pos m) (pos n) t = omega (arith, leb-true m n t)
above-le low (pos m) (negsuc n) t = let e : ◌≡◌ {A = ℕ} 0 1 = cc in absurd (omega arith)
above-le low (negsuc m) (pos n) t = omega arith
above-le low (negsuc m) (negsuc n) t = omega (arith, leb-true n m t)
