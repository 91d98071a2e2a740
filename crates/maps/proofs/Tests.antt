-- Cases of tests and of the order of numbers. Assumes nothing.
use mathlib.Core.Path.{◌≡◌, refl, sym, subst}
use mathlib.Core.Bool.{Bool, true, false, cond}
use lib.Dec.{T}
use Prim.Native.Nat.{ℕ, ◌+◌, ◌≤◌, ◌<◌}
use native.Mathlib.Decide.{dec_le}
use native.Mathlib.Omega.{arith}
use Rattle.maps.specs.Sums.{when}

pub cond-by : {A : Type 0} (P : A → Type 0) (b : Bool) {x y : A} → (b ≡ true → P x) → (b ≡ false → P y) → P (cond b x y)
cond-by P true f g = f refl
cond-by P false f g = g refl

-- what holds from a below n, and at n, holds from a below n + 1
pub next-from : (P : ℕ → Type 0) (a n : ℕ) → ((i : ℕ) → a ≤ i → i < n → P i) → P n → (i : ℕ) → a ≤ i → i < n + 1 → P i
next-from P a n all here i h l = go (dec_le n i)
  where
    go : Dec (n ≤ i) → P i
    go (yes q) = let e : n ≡ i = omega arith in subst P e here
    go (no q) = all i h (omega arith)

-- 1 where a test holds
pub when-le : (b : Bool) → when b 1 ≤ 1
when-le true = omega arith
when-le false = omega arith

pub holds : {b : Bool} → b ≡ true → T b
holds e = subst T (sym e) tt

pub is_true : (b : Bool) → T b → b ≡ true
is_true true t = refl
is_true false t = absurd t
