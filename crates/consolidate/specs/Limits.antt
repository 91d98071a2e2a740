-- What the exported functions ask of their arguments: a record for those who prove it, and the test that the code decides. The two
-- say the same (proofs/Checks.antt). Definitions only. Assumes nothing.
use Rattle.std.specs.Prelude.{ℕ, ◌+◌, ◌*◌, ◌^◌, ◌≤◌, ◌<◌, Bool, cond, ◌&&◌, ◌||◌, Option, Some, None, List, ℤ, nat_abs, T, leb, ltb, length}
use Rattle.std.specs.Int.Signed.{non_neg, le_z, lt_z}
use Rattle.maps.specs.Bins.{offset, votes}
use Rattle.maps.specs.Sums.{sum_to}
use Rattle.lists.specs.Every.{every}
use Rattle.consolidate.specs.Modes.{mode}
use Rattle.consolidate.specs.Box.{count_of, box_peak}
use Rattle.consolidate.specs.declared.Peak.{Peak}

-- n bins of l, in any order; a million votes are the most that a scratch holds
pub record Bins (l : List ℤ) (n : ℕ) : Type 0 where
  pub few : n ≤ 1000000
  pub room : 2 * n ≤ length l
  pub close : (i : ℕ) → i < n → nat_abs (offset l i) ≤ 2 ^ 33
  pub counted : (i : ℕ) → i < n → T (non_neg (count_of l i))
  pub small : (i : ℕ) → i < n → votes l i < 2 ^ 32

abbrev pub bin_ok : List ℤ → ℕ → Bool
bin_ok l i = leb (nat_abs (offset l i)) (2 ^ 33) && (non_neg (count_of l i) && ltb (votes l i) (2 ^ 32))

unfoldable pub bins_ok : List ℤ → ℕ → Bool
bins_ok l n = leb n 1000000 && (leb (2 * n) (length l) && every n (bin_ok l))

-- "bins ascend, lie in the span and count at least 1"; the span's ends are anchors of 32 bits, the low one with its sign changed
pub record Span (l : List ℤ) (n tol : ℕ) (low high : ℤ) : Type 0 where
  pub bins : Bins l n
  pub some : (i : ℕ) → i < n → 0 < votes l i
  pub up : (i : ℕ) → i < n → T (le_z low (offset l i))
  pub down : (i : ℕ) → i < n → T (le_z (offset l i) high)
  pub ascend : (i : ℕ) → i + 1 < n → T (lt_z (offset l i) (offset l (i + 1)))
  pub sum : sum_to (votes l) n ≤ 1000000
  pub reach : tol ≤ 65535
  pub bottom : nat_abs low < 2 ^ 32
  pub top : nat_abs high < 2 ^ 32

abbrev pub in_span : List ℤ → ℕ → ℤ → ℤ → ℕ → Bool
in_span l n low high i =
    ltb 0 (votes l i) && (le_z low (offset l i) && (le_z (offset l i) high && (leb n (i + 1) || lt_z (offset l i) (offset l (i + 1)))))

abbrev pub ends_ok : ℕ → ℤ → ℤ → Bool
ends_ok tol low high = leb tol 65535 && (ltb (nat_abs low) (2 ^ 32) && ltb (nat_abs high) (2 ^ 32))

unfoldable pub span_ok : List ℤ → ℕ → ℕ → ℤ → ℤ → Bool
span_ok l n tol low high = bins_ok l n && (ends_ok tol low high && (every n (in_span l n low high) && leb (sum_to (votes l) n) 1000000))

-- ---- for any arguments: none where the test fails

-- the mode of n bins, if they have one
unfoldable pub checked_mode : List ℤ → ℕ → Option (Option ℤ)
checked_mode l n = cond (bins_ok l n) (Some (mode (votes l) (offset l) n)) None

unfoldable pub checked_peak : List ℤ → ℕ → ℕ → ℤ → ℤ → Option Peak
checked_peak l n tol low high = cond (span_ok l n tol low high) (Some (box_peak l n tol low high)) None
