-- Laws of the order and the sign of signed numbers. Assumes nothing.
use Prim.Native.Nat.{ℕ}
use mathlib.Core.Path.{◌≡◌, subst}
use mathlib.Core.Bool.{Bool, true, false, cond}
use native.Mathlib.Omega.{arith}
use lib.IntN.{ℤ, pos, negsuc}
use lib.Signed.{non_neg, lt_z, le_z}
use lib.Dec.{T, leb→le, le→leb}
use borrow.Author.Tests.{leb-false, lt-ltb}

-- ---- the order

pub le_z-trans : (a b c : ℤ) → T (le_z a b) → T (le_z b c) → T (le_z a c)
le_z-trans (pos a) (pos b) (pos c) h k = le→leb a c (omega (arith, leb→le a b h, leb→le b c k))
le_z-trans (pos a) (pos b) (negsuc c) h k = absurd k
le_z-trans (pos a) (negsuc b) c h k = absurd h
le_z-trans (negsuc a) b (pos c) h k = tt
le_z-trans (negsuc a) (pos b) (negsuc c) h k = absurd k
le_z-trans (negsuc a) (negsuc b) (negsuc c) h k = le→leb c a (omega (arith, leb→le b a h, leb→le c b k))

pub le_z-lt_z : (a b : ℤ) → le_z b a ≡ false → T (lt_z a b)
le_z-lt_z (pos a) (pos b) e = rw (lt-ltb a b (leb-false b a e)) tt
le_z-lt_z (pos a) (negsuc b) e = let z : ◌≡◌ {A = ℕ} 0 1 = cc in absurd (omega arith)
le_z-lt_z (negsuc a) (pos b) e = tt
le_z-lt_z (negsuc a) (negsuc b) e = rw (lt-ltb b a (leb-false a b e)) tt

-- ---- the sign

pub never : {X : Type 0} → false ≡ true → X
never e = absurd (subst (λ (b : Bool). cond b ⊥ (Unit {0})) e tt)

pub above-non_neg : (z : ℤ) → lt_z (pos 0) z ≡ true → T (non_neg z)
above-non_neg (pos n) e = tt
above-non_neg (negsuc n) e = never e
