-- Laws of signed numbers: how large sums, differences and twice a number are, and that what is small enough fits a word. Assumes nothing.
use Prim.Native.Nat.{ℕ, zero, suc, ◌+◌, ◌-◌, ◌*◌, ◌^◌, ◌≤◌, ◌<◌}
use mathlib.Core.Path.{◌≡◌, refl}
use native.Mathlib.Omega.{arith}
use native.Mathlib.Decide.{dec_lt}
use borrow.Author.Tests.{lt-ltb, le-ltb}
use lib.IntN.{ℤ, pos, negsuc, neg_ℤ, nat_abs, sub_ℕ, ◌+ℤ◌, ◌-ℤ◌, ◌*ℤ◌}
use lib.Signed.{mag}
use mir.Syntax.{w64}
use mir.Val.{SFits}

pub mag-le : (z : ℤ) → mag z ≤ nat_abs z
mag-le (pos n) = omega arith
mag-le (negsuc n) = omega arith

pub fits-abs : (z : ℤ) → nat_abs z < 2 ^ 63 → SFits w64 z
fits-abs z h = record { sfits = omega (arith, mag-le z) }

pub sub-dist : (a b : ℕ) → nat_abs (sub_ℕ a b) ≡ (a - b) + (b - a)
sub-dist a b = go (dec_lt a b)
  where
    go : Dec (a < b) → nat_abs (sub_ℕ a b) ≡ (a - b) + (b - a)
    go (yes p) = rw (lt-ltb a b p) (omega arith)
    go (no q) = rw (le-ltb a b (omega arith)) (omega arith)

sub-abs : (a b : ℕ) → nat_abs (sub_ℕ a b) ≤ a + b
sub-abs a b = omega (arith, sub-dist a b)

pub abs-add : (a b : ℤ) → nat_abs (a +ℤ b) ≤ nat_abs a + nat_abs b
abs-add (pos a) (pos b) = omega arith
abs-add (pos a) (negsuc b) = sub-abs a (suc b)
abs-add (negsuc a) (pos b) = omega (arith, sub-abs b (suc a))
abs-add (negsuc a) (negsuc b) = omega arith

pub abs_neg : (n : ℕ) → nat_abs (neg_ℤ (pos n)) ≡ n
abs_neg zero = refl
abs_neg (suc n) = refl

pub abs-neg-is : (z : ℤ) → nat_abs (neg_ℤ z) ≡ nat_abs z
abs-neg-is (pos n) = abs_neg n
abs-neg-is (negsuc n) = refl

pub abs-sub : (a b : ℤ) → nat_abs (a -ℤ b) ≤ nat_abs a + nat_abs b
abs-sub a b = omega (arith, abs-add a (neg_ℤ b), abs-neg-is b)

pub abs-twice : (z : ℤ) → nat_abs (pos 2 *ℤ z) ≡ 2 * nat_abs z
abs-twice (pos n) = refl
abs-twice (negsuc n) = abs_neg (2 * suc n)
