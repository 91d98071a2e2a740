-- The test says what the record says: it accepts every argument that the record holds for, and no other. Assumes nothing.
use Prim.Native.Nat.{ℕ, ◌+◌, ◌*◌, ◌/◌, ◌^◌, ◌≤◌, ◌<◌}
use mathlib.Core.Path.{◌≡◌, refl}
use mathlib.Core.Bool.{true, ◌&&◌, ◌||◌}
use mathlib.Core.List.{List, [], ◌∷◌}
use native.Mathlib.Omega.{arith}
use lib.IntN.{ℤ, pos, nat_abs}
use lib.Signed.{non_neg}
use lib.Dec.{T, leb, ltb}
use lib.ListN.{length, take}
use borrow.Author.Tests.{leb-true, ltb-true, le-leb}
use Rattle.maps.specs.Sums.{sum_to}
use Rattle.lists.specs.Every.{every}
use Rattle.lists.proofs.Tests.{and_left, and_right}
use Rattle.lists.proofs.Every.{every-at, every-make}
use Rattle.maps.proofs.Tests.{holds, is_true}
use Rattle.consolidate.proofs.Checks.{next_of, next-ok, fitting-of, fitting-ok}
use Rattle.hough.specs.Hough.{scale_word, offset, count_of, scale, votes}
use Rattle.hough.specs.Limits.{before, Bins, Roomy, bin_ok, bins_ok, hough_ok}

-- what one bin's test shows
record One (l : List ℤ) (n i : ℕ) : Type 0 where
  scaled : T (non_neg (scale_word l i))
  scales : scale l i ≤ 4095
  close : nat_abs (offset l i) ≤ 2 ^ 39
  counted : T (non_neg (count_of l i))
  rises : i + 1 < n → T (before l i (i + 1))

one : (l : List ℤ) (n i : ℕ) → bin_ok l n i ≡ true → One l n i
one l n i e =
    let a = non_neg (scale_word l i) in
    let b = leb (scale l i) 4095 in
    let c = leb (nat_abs (offset l i)) (2 ^ 39) in
    let d = non_neg (count_of l i) in
    let r = leb n (i + 1) || before l i (i + 1) in
    let e₁ = and_left (a && b) (c && (d && r)) e in
    let e₂ = and_right (a && b) (c && (d && r)) e in
    let e₃ = and_right c (d && r) e₂ in
    record {
      scaled = holds (and_left a b e₁);
      scales = leb-true (scale l i) 4095 (and_right a b e₁);
      close = leb-true (nat_abs (offset l i)) (2 ^ 39) (and_left c (d && r) e₂);
      counted = holds (and_left d r e₃);
      rises = next_of n i (before l i (i + 1)) (and_right d r e₃);
    }

pub bins-of : (l : List ℤ) (n : ℕ) → bins_ok l n ≡ true → Bins l n
unfolding bins_ok
bins-of l n e =
    let all = every n (bin_ok l n) in
    let sum = leb (sum_to (votes l) n) 1000000 in
    let f = fitting-of l n 3 (all && sum) e in
    let at : (i : ℕ) → i < n → One l n i = λ i h. one l n i (every-at (bin_ok l n) n i (and_left all sum f.2) h) in
    record {
      few = f.0;
      room = f.1;
      scaled = λ i h. (at i h).scaled;
      scales = λ i h. (at i h).scales;
      close = λ i h. (at i h).close;
      counted = λ i h. (at i h).counted;
      ascend = λ i h. (at i (omega arith)).rises h;
      sum = leb-true (sum_to (votes l) n) 1000000 (and_right all sum f.2);
    }

pub bins-ok : (l : List ℤ) (n : ℕ) → Bins l n → bins_ok l n ≡ true
unfolding bins_ok
bins-ok l n b =
    fitting-ok l n 3 (every n (bin_ok l n) && leb (sum_to (votes l) n) 1000000) b.few b.room
    (rw (every-make (bin_ok l n) n at, le-leb (sum_to (votes l) n) 1000000 b.sum) refl)
  where
    at : (i : ℕ) → i < n → bin_ok l n i ≡ true
    at i h =
        rw (is_true (non_neg (scale_word l i)) (b.scaled i h), le-leb (scale l i) 4095 (b.scales i h), le-leb (nat_abs (offset l i)) (2 ^ 39) (b.close i h), is_true (non_neg (count_of l i)) (b.counted i h))
        (next-ok n i (before l i (i + 1)) (b.ascend i))

-- what the checked function asks
pub hough-of : (s : List ℤ) (n tol : ℕ) → hough_ok s n tol ≡ true → Roomy s n × (0 < n) × (tol ≤ 65535)
hough-of s n tol e =
    let a = leb n (length s / 4) in
    let b = ltb 0 n in
    let c = leb tol 65535 in
    let d = bins_ok (take (3 * n) s) n in
    let f = and_right a (b && (c && d)) e in
    let g = and_right b (c && d) f in
    let r = leb-true n (length s / 4) (and_left a (b && (c && d)) e) in (
      record { bins = bins-of (take (3 * n) s) n (and_right c d g); room = omega arith },
      ltb-true 0 n (and_left b (c && d) f),
      leb-true tol 65535 (and_left c d g),
    )

-- there are such bins: the example of document 01
pub shown : Bins (pos 4 ∷ pos 10 ∷ pos 2 ∷ pos 5 ∷ pos 10 ∷ pos 3 ∷ pos 9 ∷ pos 10 ∷ pos 1 ∷ []) 3
unfolding sum_to every bins_ok
shown = bins-of (pos 4 ∷ pos 10 ∷ pos 2 ∷ pos 5 ∷ pos 10 ∷ pos 3 ∷ pos 9 ∷ pos 10 ∷ pos 1 ∷ []) 3 refl
