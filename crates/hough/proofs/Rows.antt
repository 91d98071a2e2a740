-- Rows of keys: which keys lie within the tolerance of a place in a row. All on natural numbers. Assumes nothing.
use Prim.Native.Nat.{ℕ, ◌+◌, ◌-◌, ◌*◌, ◌≤◌, ◌<◌}
use mathlib.Core.Path.{◌≡◌, refl, sym}
use mathlib.Core.Bool.{Bool, true, false, ◌&&◌, and-false}
use native.Mathlib.Omega.{arith}
use native.Mathlib.Decide.{dec_lt, dec_le}
use lib.Dec.{leb, eqb}
use borrow.Author.Tests.{le-leb, lt-leb, eq-eqb, ne_eqb}
use Rattle.maps.specs.Sums.{when}
use Rattle.consolidate.specs.Windows.{withinℕ}
use Rattle.consolidate.proofs.Spans.{leb-same}
use Rattle.hough.specs.Hough.{dist}
use Rattle.hough.specs.Keys.{row}

pub dist-is : (p q tol : ℕ) → leb (dist p q) tol ≡ (leb p (q + tol) && leb q (p + tol))
dist-is p q tol = go (dec_le p (q + tol)) (dec_le q (p + tol))
  where
    go : Dec (p ≤ q + tol) → Dec (q ≤ p + tol) → leb (dist p q) tol ≡ (leb p (q + tol) && leb q (p + tol))
    go (yes a) (yes b) = rw (le-leb (dist p q) tol (omega arith), le-leb p (q + tol) a, le-leb q (p + tol) b) refl
    go (yes a) (no b) = rw (lt-leb (dist p q) tol (omega arith), le-leb p (q + tol) a, lt-leb q (p + tol) (omega arith)) refl
    go (no a) b = rw (lt-leb (dist p q) tol (omega arith), lt-leb p (q + tol) (omega arith)) refl

-- a place in a row, and far enough from its ends
abbrev pub Inside : ℕ → Type 0
Inside p = (65536 ≤ p) × (p ≤ 2199023124480)

in_row : (R S p q tol : ℕ) → Inside p → Inside q → tol ≤ 65535 → withinℕ tol (R * row + p) (R * row + p) (S * row + q) ≡ (eqb R S && leb (dist p q) tol)
in_row R S p q tol P Q T = go (dec_lt R S) (dec_lt S R)
  where
    go : Dec (R < S) → Dec (S < R) → withinℕ tol (R * row + p) (R * row + p) (S * row + q) ≡ (eqb R S && leb (dist p q) tol)
    go (yes a) b = rw (ne_eqb R S (λ e. omega arith), lt-leb (S * row + q) (R * row + p + tol) (omega arith)) (and-false (leb (R * row + p) (S * row + q + tol)))
    go (no a) (yes b) = rw (ne_eqb R S (λ e. omega arith), lt-leb (R * row + p) (S * row + q + tol) (omega arith)) refl
    go (no a) (no b) =
        let e : R ≡ S = omega arith in
        rw (eq-eqb R S e, leb-same (R * row + p) (S * row + q + tol) p (q + tol) (λ h. omega arith) (λ h. omega arith), leb-same (S * row + q) (R * row + p + tol) q (p + tol) (λ h. omega arith) (λ h. omega arith))
        (sym (dist-is p q tol))

-- within one row of S is one of three rows, S' being counted from 1
pub three : (S S' : ℕ) (Q : Bool) (v : ℕ) → when (leb (dist S S') 1 && Q) v ≡ when (eqb S (S' + 1) && Q) v + when (eqb (S + 1) (S' + 1) && Q) v + when (eqb (S + 2) (S' + 1) && Q) v
three S S' false v = rw (and-false (leb (dist S S') 1), and-false (eqb S (S' + 1)), and-false (eqb (S + 1) (S' + 1)), and-false (eqb (S + 2) (S' + 1))) refl
three S S' true v = go (dec_lt S' S) (dec_lt (S' + 1) S) (dec_lt S S') (dec_lt (S + 1) S')
  where
    go : Dec (S' < S) → Dec (S' + 1 < S) → Dec (S < S') → Dec (S + 1 < S') → when (leb (dist S S') 1 && true) v ≡ when (eqb S (S' + 1) && true) v + when (eqb (S + 1) (S' + 1) && true) v + when (eqb (S + 2) (S' + 1) && true) v
    go a (yes b) c d = rw (lt-leb (dist S S') 1 (omega arith), ne_eqb S (S' + 1) (λ e. omega arith), ne_eqb (S + 1) (S' + 1) (λ e. omega arith), ne_eqb (S + 2) (S' + 1) (λ e. omega arith)) refl
    go (yes a) (no b) c d = rw (le-leb (dist S S') 1 (omega arith), eq-eqb S (S' + 1) (omega arith), ne_eqb (S + 1) (S' + 1) (λ e. omega arith), ne_eqb (S + 2) (S' + 1) (λ e. omega arith)) (omega arith)
    go (no a) (no b) c (yes d) = rw (lt-leb (dist S S') 1 (omega arith), ne_eqb S (S' + 1) (λ e. omega arith), ne_eqb (S + 1) (S' + 1) (λ e. omega arith), ne_eqb (S + 2) (S' + 1) (λ e. omega arith)) refl
    go (no a) (no b) (yes c) (no d) = rw (le-leb (dist S S') 1 (omega arith), ne_eqb S (S' + 1) (λ e. omega arith), ne_eqb (S + 1) (S' + 1) (λ e. omega arith), eq-eqb (S + 2) (S' + 1) (omega arith)) (omega arith)
    go (no a) (no b) (no c) (no d) = rw (le-leb (dist S S') 1 (omega arith), ne_eqb S (S' + 1) (λ e. omega arith), eq-eqb (S + 1) (S' + 1) (omega arith), ne_eqb (S + 2) (S' + 1) (λ e. omega arith)) (omega arith)

-- the neighbours of the place p in row S + 1, by the three windows
pub spread : (S S' p q tol v : ℕ) → Inside p → Inside q → tol ≤ 65535
    → when (leb (dist S S') 1 && leb (dist p q) tol) v
    ≡ when (withinℕ tol ((S + 1) * row + p - row) ((S + 1) * row + p - row) ((S' + 1) * row + q)) v
    + when (withinℕ tol ((S + 1) * row + p) ((S + 1) * row + p) ((S' + 1) * row + q)) v
    + when (withinℕ tol ((S + 1) * row + p + row) ((S + 1) * row + p + row) ((S' + 1) * row + q)) v
spread S S' p q tol v P Q T =
    let a : (S + 1) * row + p - row ≡ S * row + p = omega arith in
    let b : (S + 1) * row + p + row ≡ (S + 2) * row + p = omega arith in
    rw (a, b, in_row S (S' + 1) p q tol P Q T, in_row (S + 1) (S' + 1) p q tol P Q T, in_row (S + 2) (S' + 1) p q tol P Q T) (three S S' (leb (dist p q) tol) v)
