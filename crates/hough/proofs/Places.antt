-- Offsets as places in a row, and the keys of bins. Assumes nothing.
use Prim.Native.Nat.{ℕ, zero, suc, ◌+◌, ◌-◌, ◌^◌, ◌≤◌, ◌<◌}
use mathlib.Core.Path.{◌≡◌, refl, sym, ap, ◌∙◌}
use mathlib.Core.Bool.{false, ◌&&◌}
use mathlib.Core.List.{List}
use native.Mathlib.Omega.{arith}
use lib.IntN.{ℤ, pos, negsuc, nat_abs, sub_ℕ, ◌+ℤ◌}
use lib.Signed.{non_neg, lt_z}
use lib.Dec.{T, ltb, eqb, ltb→lt}
use borrow.Author.Tests.{ltb-true, eqb-true, le-ltb}
use mir.Syntax.{w64}
use mir.Val.{SFits}
use Rattle.lists.proofs.Tests.{test, or_else, and_left, and_right}
use Rattle.maps.specs.Sums.{sum_to, when}
use Rattle.consolidate.specs.Windows.{withinℕ, window_sum}
use Rattle.maps.proofs.Sums.{sum-zero, sum-cong, sum-add, sum_mono, sum-term, sum_kept}
use Rattle.signed.proofs.Sizes.{fits-abs, sub-dist}
use Rattle.maps.proofs.Tests.{holds, is_true}
use Rattle.consolidate.proofs.Sliding.{Ascend, climbs}
use Rattle.hough.specs.Hough.{scale, offset, votes, dist, gap, neighbour, hough_sum}
use Rattle.hough.specs.Limits.{before, Bins}
use Rattle.hough.specs.Keys.{row, place, key}
use Rattle.hough.proofs.Rows.{Inside, spread}

-- ---- numbers moved up by B

down : (a b : ℕ) → b ≤ a → nat_abs (sub_ℕ a b) ≡ a - b
down a b h = rw (le-ltb a b h) refl

pub gap_is : (a b : ℤ) (B : ℕ) → nat_abs a ≤ B → nat_abs b ≤ B → gap a b ≡ dist (nat_abs (a +ℤ pos B)) (nat_abs (b +ℤ pos B))
gap_is (pos a) (pos zero) B h k = omega arith
gap_is (pos a) (pos (suc b)) B h k = rw (sub-dist a (suc b)) (omega arith)
gap_is (pos a) (negsuc b) B h k = rw (down B (suc b) k) (omega arith)
gap_is (negsuc a) (pos zero) B h k = rw (sub-dist 0 (suc a), down B (suc a) h) (omega arith)
gap_is (negsuc a) (pos (suc b)) B h k = rw (down B (suc a) h) (omega arith)
gap_is (negsuc a) (negsuc b) B h k = rw (sub-dist (suc b) (suc a), down B (suc a) h, down B (suc b) k) (omega arith)

above : (a : ℤ) (H B : ℕ) → nat_abs a ≤ H → H ≤ B → T (non_neg (a +ℤ pos B)) × (nat_abs (a +ℤ pos B) ≤ B + H) × (B ≤ nat_abs (a +ℤ pos B) + H)
above (pos a) H B h k = (tt, omega arith, omega arith)
above (negsuc a) H B h k = (rw (le-ltb B (suc a) (omega arith)) tt, rw (sub-dist B (suc a)) (omega arith), rw (sub-dist B (suc a)) (omega arith))

up : (a b : ℤ) (B : ℕ) → nat_abs a ≤ B → nat_abs b ≤ B → T (lt_z a b) → nat_abs (a +ℤ pos B) < nat_abs (b +ℤ pos B)
up (pos a) (pos b) B h k t = omega (arith, ltb→lt a b t)
up (pos a) (negsuc b) B h k t = absurd t
up (negsuc a) (pos b) B h k t = rw (sub-dist B (suc a)) (omega arith)
up (negsuc a) (negsuc b) B h k t = rw (sub-dist B (suc a), sub-dist B (suc b)) (omega (arith, ltb→lt b a t))

-- ---- bins

-- the sums of the three windows around the key x
abbrev pub three_sums : List ℤ → ℕ → ℕ → ℕ → ℕ
three_sums l n tol x = window_sum (key l) (votes l) n tol (x - row) + window_sum (key l) (votes l) n tol x + window_sum (key l) (votes l) n tol (x + row)

module _ (l : List ℤ) (n : ℕ) (b : Bins l n) where
  pub offset-small : (i : ℕ) → i < n → SFits w64 (offset l i)
  offset-small i h = fits-abs (offset l i) (omega (arith, b.close i h))

  pub place-fits : (i : ℕ) → i < n → T (non_neg (offset l i +ℤ pos (2 ^ 40))) × (place l i ≤ 2 ^ 40 + 2 ^ 39) × (2 ^ 39 ≤ place l i)
  unfolding place
  place-fits i h = let a = above (offset l i) (2 ^ 39) (2 ^ 40) (b.close i h) (omega arith) in (a.0, omega (arith, a.1), omega (arith, a.2))

  pub place-small : (i : ℕ) → i < n → SFits w64 (offset l i +ℤ pos (2 ^ 40))
  unfolding place
  place-small i h = fits-abs (offset l i +ℤ pos (2 ^ 40)) (omega (arith, (place-fits i h).1))

  pub vote-small : (i : ℕ) → i < n → votes l i ≤ 1000000
  vote-small i h = omega (arith, sum-term (votes l) n i h, b.sum)

  pub inside : (i : ℕ) → i < n → Inside (place l i)
  inside i h = let p = place-fits i h in (omega (arith, p.2), omega (arith, p.1))

  pub keys : (i : ℕ) → i < n → (key l i ≤ 2 ^ 54) × (2 ^ 41 + 2 ^ 39 ≤ key l i)
  unfolding key
  keys i h = let p = place-fits i h in let s = b.scales i h in (omega (arith, p.1), omega (arith, p.2))

  rise : (i : ℕ) → i + 1 < n → key l i < key l (i + 1)
  unfolding key place
  rise i h = test (ltb (scale l i) (scale l (i + 1))) (λ e. omega (arith, ltb-true (scale l i) (scale l (i + 1)) e, (place-fits i hi).1, (place-fits (i + 1) h).2)) same
    where
      hi : i < n
      hi = omega arith

      same : ltb (scale l i) (scale l (i + 1)) ≡ false → key l i < key l (i + 1)
      same e =
          let q = eqb (scale l i) (scale l (i + 1)) in
          let t = lt_z (offset l i) (offset l (i + 1)) in
          let r = or_else (ltb (scale l i) (scale l (i + 1))) (q && t) (is_true (before l i (i + 1)) (b.ascend i h)) e in
          omega (arith, eqb-true (scale l i) (scale l (i + 1)) (and_left q t r), up (offset l i) (offset l (i + 1)) (2 ^ 40) (omega (arith, b.close i hi)) (omega (arith, b.close (i + 1) h)) (holds (and_right q t r)))

  pub keys_up : Ascend (key l) n
  keys_up = climbs (key l) n rise

  pub apart-is : (i j : ℕ) → i < n → j < n → gap (offset l i) (offset l j) ≡ dist (place l i) (place l j)
  unfolding place
  apart-is i j h u = gap_is (offset l i) (offset l j) (2 ^ 40) (omega (arith, b.close i h)) (omega (arith, b.close j u))

  -- the sum of bin i is that of three windows
  pub hough-is : (tol i : ℕ) → tol ≤ 65535 → i < n → hough_sum l n tol i ≡ three_sums l n tol (key l i)
  unfolding hough_sum window_sum key
  hough-is tol i T h =
      let x = key l i in
      let f : ℕ → ℕ → ℕ = λ c j. when (withinℕ tol c c (key l j)) (votes l j) in
      sum-cong (λ j. when (neighbour l tol i j) (votes l j)) (λ j. f (x - row) j + f x j + f (x + row) j) n
      (λ j u. rw (apart-is i j h u) (spread (scale l i) (scale l j) (place l i) (place l j) tol (votes l j) (inside i h) (inside j u) T))
      ∙ sym (sum-add (λ j. f (x - row) j + f x j) (f (x + row)) n)
      ∙ ap (λ (z : ℕ). z + sum_to (f (x + row)) n) (sym (sum-add (f (x - row)) (f x) n))

  pub hough-small : (tol i j : ℕ) → j ≤ n → hough_sum l j tol i ≤ 1000000
  unfolding hough_sum
  hough-small tol i j h = omega (arith, sum_kept (neighbour l tol i) (votes l) j, sum_mono (votes l) j n h, b.sum)

pub hough-none : (l : List ℤ) (tol i : ℕ) → hough_sum l 0 tol i ≡ 0
unfolding hough_sum
hough-none l tol i = sum-zero (λ j. when (neighbour l tol i j) (votes l j))
