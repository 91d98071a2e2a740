-- A signed span, counted from its low end. Assumes nothing.
use Prim.Native.Nat.{ℕ, zero, suc, ◌+◌, ◌-◌, ◌^◌, ◌≤◌, ◌<◌}
use mathlib.Core.Path.{◌≡◌, refl, sym, ap, ap₂, ◌∙◌, subst, fun_ext}
use mathlib.Core.Bool.{Bool, false, ◌&&◌}
use mathlib.Core.List.{List}
use native.Mathlib.Omega.{arith}
use native.Mathlib.Decide.{dec_lt, dec_le}
use lib.IntN.{ℤ, pos, negsuc, nat_abs, sub_ℕ, ◌+ℤ◌, ◌-ℤ◌, +ℤ_assoc, +ℤ_comm, -ℤ-+ℤ_cancel}
use lib.Signed.{non_neg, mag, lt_z, le_z, pos-nat_abs}
use lib.Dec.{T, leb, leb→le, ltb→lt}
use borrow.Author.Tests.{le-leb, lt-leb, lt-ltb, le-ltb, leb-false}
use mir.Syntax.{w64}
use mir.Val.{Fits, SFits}
use Rattle.maps.specs.Bins.{offset, votes, place}
use Rattle.maps.specs.Sums.{when}
use Rattle.consolidate.specs.Box.{within, window}
use Rattle.consolidate.specs.Limits.{Span}
use Rattle.consolidate.specs.Windows.{withinℕ, window_sum}
use Rattle.consolidate.specs.Sweeping.{Placed}
use Rattle.maps.proofs.Sums.{sum-cong}
use Rattle.signed.proofs.Sizes.{abs-sub}
use Rattle.signed.proofs.Order.{le_z-trans}
use Rattle.consolidate.proofs.Sliding.{climbs}

pub leb-same : (a b c d : ℕ) → (a ≤ b → c ≤ d) → (b < a → d < c) → leb a b ≡ leb c d
leb-same a b c d f g = go (dec_le a b)
  where
    go : Dec (a ≤ b) → leb a b ≡ leb c d
    go (yes p) = le-leb a b p ∙ sym (le-leb c d (f p))
    go (no q) = lt-leb a b (omega arith) ∙ sym (lt-leb c d (g (omega arith)))

-- ---- a difference that is not negative

sub-non_neg : (a b : ℕ) → b ≤ a → T (non_neg (sub_ℕ a b))
sub-non_neg a b h = rw (le-ltb a b h) tt

pub up-non_neg : (low d : ℤ) → T (le_z low d) → T (non_neg (d -ℤ low))
up-non_neg (pos zero) (pos b) h = tt
up-non_neg (pos (suc a)) (pos b) h = sub-non_neg b (suc a) (leb→le (suc a) b h)
up-non_neg (pos a) (negsuc b) h = absurd h
up-non_neg (negsuc a) (pos b) h = tt
up-non_neg (negsuc a) (negsuc b) h = sub-non_neg (suc a) (suc b) (omega (arith, leb→le b a h))

pub back-up : (low d : ℤ) → T (non_neg (d -ℤ low)) → low +ℤ pos (nat_abs (d -ℤ low)) ≡ d
back-up low d h = rw (pos-nat_abs (d -ℤ low) h) (+ℤ_comm low (d -ℤ low) ∙ -ℤ-+ℤ_cancel d low)

-- ---- the order, counted from the low end

pub le-shift : (low : ℤ) (x y : ℕ) → le_z (low +ℤ pos x) (low +ℤ pos y) ≡ leb x y
le-shift (pos a) x y = leb-same (a + x) (a + y) x y (λ h. omega arith) (λ h. omega arith)
le-shift (negsuc a) x y = go (dec_lt x (suc a)) (dec_lt y (suc a))
  where
    go : Dec (x < suc a) → Dec (y < suc a) → le_z (sub_ℕ x (suc a)) (sub_ℕ y (suc a)) ≡ leb x y
    go (yes p) (yes q) =
        rw (lt-ltb x (suc a) p, lt-ltb y (suc a) q)
        (leb-same (suc a - suc y) (suc a - suc x) x y (λ h. omega arith) (λ h. omega arith))
    go (yes p) (no q) = rw (lt-ltb x (suc a) p, le-ltb y (suc a) (omega arith)) (sym (le-leb x y (omega arith)))
    go (no p) (yes q) = rw (le-ltb x (suc a) (omega arith), lt-ltb y (suc a) q) (sym (lt-leb x y (omega arith)))
    go (no p) (no q) =
        rw (le-ltb x (suc a) (omega arith), le-ltb y (suc a) (omega arith))
        (leb-same (x - suc a) (y - suc a) x y (λ h. omega arith) (λ h. omega arith))

pub within-is : (low : ℤ) (tol a b p : ℕ) → within tol (low +ℤ pos a) (low +ℤ pos b) (low +ℤ pos p) ≡ withinℕ tol a b p
within-is low tol a b p =
    ap₂ ◌&&◌ (ap (le_z (low +ℤ pos a)) (+ℤ_assoc low (pos p) (pos tol)) ∙ le-shift low a (p + tol))
    (ap (le_z (low +ℤ pos p)) (+ℤ_assoc low (pos b) (pos tol)) ∙ le-shift low p (b + tol))

lt-le_z : (a b : ℤ) → T (lt_z a b) → le_z b a ≡ false
lt-le_z (pos a) (pos b) h = lt-leb b a (ltb→lt a b h)
lt-le_z (pos a) (negsuc b) h = absurd h
lt-le_z (negsuc a) (pos b) h = refl
lt-le_z (negsuc a) (negsuc b) h = lt-leb a b (ltb→lt b a h)

-- ---- bins

mag_is : (z : ℤ) → T (non_neg z) → mag z ≡ nat_abs z
mag_is (pos n) t = refl
mag_is (negsuc n) t = absurd t

module _ (l : List ℤ) (low : ℤ) (n : ℕ) (b : Placed l low n) where
  pub place-small : (i : ℕ) → i < n → SFits w64 (offset l i -ℤ low)
  place-small i h = record { sfits = omega (arith, mag_is (offset l i -ℤ low) (b.above i h), b.near i h) }

  pub place-fits : (i : ℕ) → i < n → Fits w64 (nat_abs (offset l i -ℤ low))
  place-fits i h = record { fits = omega (arith, b.near i h) }

  pub near-is : (tol a e i : ℕ) → i < n → within tol (low +ℤ pos a) (low +ℤ pos e) (offset l i) ≡ withinℕ tol a e (place l low i)
  near-is tol a e i h =
      subst (λ (z : ℤ). within tol (low +ℤ pos a) (low +ℤ pos e) z ≡ withinℕ tol a e (place l low i)) (back-up low (offset l i) (b.above i h))
      (within-is low tol a e (place l low i))

  pub window-is : (tol : ℕ) → (λ (x : ℕ). window l n tol (low +ℤ pos x)) ≡ window_sum (place l low) (votes l) n tol
  unfolding window window_sum
  window-is tol =
      fun_ext (λ x. sum-cong (λ i. when (within tol (low +ℤ pos x) (low +ℤ pos x) (offset l i)) (votes l i)) (λ i. when (withinℕ tol x x (place l low i)) (votes l i)) n
      (λ i h. ap (λ (t : Bool). when t (votes l i)) (near-is tol x x i h)))

module _ (l : List ℤ) (n tol : ℕ) (low high : ℤ) (S : Span l n tol low high) where
  above : (i : ℕ) → i < n → T (non_neg (offset l i -ℤ low))
  above i h = up-non_neg low (offset l i) (S.up i h)

  at : (i : ℕ) → i < n → low +ℤ pos (place l low i) ≡ offset l i
  at i h = back-up low (offset l i) (above i h)

  -- where there is a bin, the low end is not above the high one
  pub span-up : 0 < n → T (non_neg (high -ℤ low))
  span-up h = up-non_neg low high (le_z-trans low (offset l 0) high (S.up 0 h) (S.down 0 h))

  pub span-wide : nat_abs (high -ℤ low) < 2 ^ 33
  span-wide = omega (arith, abs-sub high low, S.bottom, S.top)

  near : (i : ℕ) → i < n → place l low i ≤ nat_abs (high -ℤ low)
  near i h = leb→le (place l low i) (nat_abs (high -ℤ low)) (subst T (le-shift low (place l low i) (nat_abs (high -ℤ low))) (rw (at i h, back-up low high (span-up (omega arith))) (S.down i h)))

  rise : (i : ℕ) → i + 1 < n → place l low i < place l low (i + 1)
  rise i h =
      leb-false (place l low (i + 1)) (place l low i)
      (sym (le-shift low (place l low (i + 1)) (place l low i)) ∙ rw (at (i + 1) h, at i (omega arith)) (lt-le_z (offset l i) (offset l (i + 1)) (S.ascend i h)))

  pub span-placed : Placed l low n
  span-placed =
      record {
        bins = S.bins;
        some = S.some;
        above = above;
        near = λ i h. omega (arith, near i h, span-wide);
        ascend = climbs (place l low) n rise;
        sum = S.sum;
      }
