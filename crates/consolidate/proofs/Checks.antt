-- The tests say what the records say: they accept every argument that a record holds for, and no other. Assumes nothing.
use Prim.Native.Nat.{ℕ, ◌+◌, ◌*◌, ◌^◌, ◌≤◌, ◌<◌}
use mathlib.Core.Path.{◌≡◌, refl}
use mathlib.Core.Bool.{Bool, true, ◌&&◌, ◌||◌}
use mathlib.Core.List.{List, [], ◌∷◌}
use native.Mathlib.Omega.{arith}
use native.Mathlib.Decide.{dec_le}
use lib.IntN.{ℤ, pos, nat_abs}
use lib.Signed.{non_neg, le_z, lt_z}
use lib.Dec.{T, leb, ltb}
use lib.ListN.{length}
use borrow.Author.Tests.{leb-true, ltb-true, le-leb, lt-leb, lt-ltb}
use Rattle.maps.specs.Bins.{offset, votes}
use Rattle.maps.specs.Sums.{sum_to}
use Rattle.lists.specs.Every.{every}
use Rattle.lists.proofs.Tests.{and_left, and_right, or_else, or_right}
use Rattle.lists.proofs.Every.{every-at, every-make}
use Rattle.consolidate.specs.Box.{count_of}
use Rattle.consolidate.specs.Limits.{Bins, bin_ok, bins_ok, Span, ends_ok, in_span, span_ok}
use Rattle.maps.proofs.Tests.{holds, is_true}

-- ---- a test of each bin but the last

pub next_of : (n i : ℕ) (b : Bool) → (leb n (i + 1) || b) ≡ true → i + 1 < n → T b
next_of n i b e h = holds (or_else (leb n (i + 1)) b e (lt-leb n (i + 1) h))

pub next-ok : (n i : ℕ) (b : Bool) → (i + 1 < n → T b) → (leb n (i + 1) || b) ≡ true
next-ok n i b h = go (dec_le n (i + 1))
  where
    go : Dec (n ≤ i + 1) → (leb n (i + 1) || b) ≡ true
    go (yes p) = rw (le-leb n (i + 1) p) refl
    go (no q) = or_right (leb n (i + 1)) b (is_true b (h (omega arith)))

-- ---- n entries of w words that are all there: what both kinds of bins ask first

pub fitting-of : (l : List ℤ) (n w : ℕ) (b : Bool) → (leb n 1000000 && (leb (w * n) (length l) && b)) ≡ true → (n ≤ 1000000) × (w * n ≤ length l) × (b ≡ true)
fitting-of l n w b e =
    let few = leb n 1000000 in
    let room = leb (w * n) (length l) in
    let r = and_right few (room && b) e in
    (leb-true n 1000000 (and_left few (room && b) e), leb-true (w * n) (length l) (and_left room b r), and_right room b r)

pub fitting-ok : (l : List ℤ) (n w : ℕ) (b : Bool) → n ≤ 1000000 → w * n ≤ length l → b ≡ true → (leb n 1000000 && (leb (w * n) (length l) && b)) ≡ true
fitting-ok l n w b few room e = rw (le-leb n 1000000 few, le-leb (w * n) (length l) room) e

-- ---- the mode's bins

pub bins-of : (l : List ℤ) (n : ℕ) → bins_ok l n ≡ true → Bins l n
unfolding bins_ok
bins-of l n e =
    let f = fitting-of l n 2 (every n (bin_ok l)) e in
    record {
      few = f.0;
      room = f.1;
      close = λ i h. leb-true (nat_abs (offset l i)) (2 ^ 33) (and_left (leb (nat_abs (offset l i)) (2 ^ 33)) (non_neg (count_of l i) && ltb (votes l i) (2 ^ 32)) (every-at (bin_ok l) n i f.2 h));
      counted = λ i h. holds (and_left (non_neg (count_of l i)) (ltb (votes l i) (2 ^ 32)) (one i h f.2));
      small = λ i h. ltb-true (votes l i) (2 ^ 32) (and_right (non_neg (count_of l i)) (ltb (votes l i) (2 ^ 32)) (one i h f.2));
    }
  where
    one : (i : ℕ) → i < n → every n (bin_ok l) ≡ true → (non_neg (count_of l i) && ltb (votes l i) (2 ^ 32)) ≡ true
    one i h all = and_right (leb (nat_abs (offset l i)) (2 ^ 33)) (non_neg (count_of l i) && ltb (votes l i) (2 ^ 32)) (every-at (bin_ok l) n i all h)

pub bins-ok : (l : List ℤ) (n : ℕ) → Bins l n → bins_ok l n ≡ true
unfolding bins_ok
bins-ok l n b =
    fitting-ok l n 2 (every n (bin_ok l)) b.few b.room
    (every-make (bin_ok l) n (λ i h. rw (le-leb (nat_abs (offset l i)) (2 ^ 33) (b.close i h), is_true (non_neg (count_of l i)) (b.counted i h), lt-ltb (votes l i) (2 ^ 32) (b.small i h)) refl))

-- ---- the span

pub span_of : (l : List ℤ) (n tol : ℕ) (low high : ℤ) → span_ok l n tol low high ≡ true → Span l n tol low high
unfolding span_ok
span_of l n tol low high e =
    let sum = leb (sum_to (votes l) n) 1000000 in
    let all = every n (in_span l n low high) in
    let ends = ends_ok tol low high in
    let e₁ = and_right (bins_ok l n) (ends && (all && sum)) e in
    let e₂ = and_right ends (all && sum) e₁ in
    let ok = and_left ends (all && sum) e₁ in
    let ok₂ = and_right (leb tol 65535) (ltb (nat_abs low) (2 ^ 32) && ltb (nat_abs high) (2 ^ 32)) ok in
    record {
      bins = bins-of l n (and_left (bins_ok l n) (ends && (all && sum)) e);
      some = λ i h. (one i h (and_left all sum e₂)).0;
      up = λ i h. (one i h (and_left all sum e₂)).1;
      down = λ i h. (one i h (and_left all sum e₂)).2;
      ascend = λ i h. (one i (omega arith) (and_left all sum e₂)).3 h;
      sum = leb-true (sum_to (votes l) n) 1000000 (and_right all sum e₂);
      reach = leb-true tol 65535 (and_left (leb tol 65535) (ltb (nat_abs low) (2 ^ 32) && ltb (nat_abs high) (2 ^ 32)) ok);
      bottom = ltb-true (nat_abs low) (2 ^ 32) (and_left (ltb (nat_abs low) (2 ^ 32)) (ltb (nat_abs high) (2 ^ 32)) ok₂);
      top = ltb-true (nat_abs high) (2 ^ 32) (and_right (ltb (nat_abs low) (2 ^ 32)) (ltb (nat_abs high) (2 ^ 32)) ok₂);
    }
  where
    one : (i : ℕ) → i < n → every n (in_span l n low high) ≡ true
        → (0 < votes l i) × T (le_z low (offset l i)) × T (le_z (offset l i) high) × (i + 1 < n → T (lt_z (offset l i) (offset l (i + 1))))
    one i h all =
        let a = ltb 0 (votes l i) in
        let b = le_z low (offset l i) in
        let c = le_z (offset l i) high in
        let d = leb n (i + 1) || lt_z (offset l i) (offset l (i + 1)) in
        let e = every-at (in_span l n low high) n i all h in
        let e₁ = and_right a (b && (c && d)) e in
        let e₂ = and_right b (c && d) e₁ in (
          ltb-true 0 (votes l i) (and_left a (b && (c && d)) e),
          holds (and_left b (c && d) e₁),
          holds (and_left c d e₂),
          next_of n i (lt_z (offset l i) (offset l (i + 1))) (and_right c d e₂),
        )

pub span-ok : (l : List ℤ) (n tol : ℕ) (low high : ℤ) → Span l n tol low high → span_ok l n tol low high ≡ true
unfolding span_ok
span-ok l n tol low high S =
    rw (
      bins-ok l n S.bins,
      le-leb tol 65535 S.reach,
      lt-ltb (nat_abs low) (2 ^ 32) S.bottom,
      lt-ltb (nat_abs high) (2 ^ 32) S.top,
      every-make (in_span l n low high) n at,
      le-leb (sum_to (votes l) n) 1000000 S.sum,
    ) refl
  where
    at : (i : ℕ) → i < n → in_span l n low high i ≡ true
    at i h = rw (lt-ltb 0 (votes l i) (S.some i h), is_true (le_z low (offset l i)) (S.up i h), is_true (le_z (offset l i) high) (S.down i h)) (next-ok n i (lt_z (offset l i) (offset l (i + 1))) (S.ascend i))

-- there are such arguments: the first example of document 01
pub shown : Span (pos 3 ∷ pos 2 ∷ pos 5 ∷ pos 2 ∷ []) 2 1 (pos 0) (pos 8)
unfolding sum_to every bins_ok span_ok
shown = span_of (pos 3 ∷ pos 2 ∷ pos 5 ∷ pos 2 ∷ []) 2 1 (pos 0) (pos 8) refl
