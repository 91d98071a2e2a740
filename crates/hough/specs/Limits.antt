-- What the exported functions ask of their bins: a record for those who prove it, and the test that the code decides. The two say the
-- same (proofs/Checks.antt). Then the sums, which stand behind the bins. Definitions only. Assumes nothing.
use Rattle.std.specs.Prelude.{ℕ, ◌+◌, ◌*◌, ◌/◌, ◌^◌, ◌≤◌, ◌<◌, ◌≡◌, Bool, cond, ◌&&◌, ◌||◌, Option, Some, None, List, ℤ, pos, nat_abs, T, leb, ltb, eqb, length, get_or, take, drop}
use Rattle.std.specs.Int.Signed.{non_neg, lt_z}
use Rattle.maps.specs.Sums.{sum_to}
use Rattle.lists.specs.Every.{every}
use Rattle.hough.specs.Hough.{scale_word, offset, count_of, scale, votes, hough_sum, hough_peak, peak_offset, prominence}
use Rattle.hough.specs.declared.Peak.{Peak}
use Rattle.hough.specs.declared.Answer.{Answer}

-- "(scale, offset) order"
abbrev pub before : List ℤ → ℕ → ℕ → Bool
before l i j = ltb (scale l i) (scale l j) || (eqb (scale l i) (scale l j) && lt_z (offset l i) (offset l j))

-- n bins of l in order; scale_bins is at most 4,096, and a million votes are the most that a scratch holds
pub record Bins (l : List ℤ) (n : ℕ) : Type 0 where
  pub few : n ≤ 1000000
  pub room : 3 * n ≤ length l
  pub scaled : (i : ℕ) → i < n → T (non_neg (scale_word l i))
  pub scales : (i : ℕ) → i < n → scale l i ≤ 4095
  pub close : (i : ℕ) → i < n → nat_abs (offset l i) ≤ 2 ^ 39
  pub counted : (i : ℕ) → i < n → T (non_neg (count_of l i))
  pub ascend : (i : ℕ) → i + 1 < n → T (before l i (i + 1))
  pub sum : sum_to (votes l) n ≤ 1000000

abbrev pub bin_ok : List ℤ → ℕ → ℕ → Bool
bin_ok l n i =
    (non_neg (scale_word l i) && leb (scale l i) 4095)
    && (leb (nat_abs (offset l i)) (2 ^ 39) && (non_neg (count_of l i) && (leb n (i + 1) || before l i (i + 1))))

unfoldable pub bins_ok : List ℤ → ℕ → Bool
bins_ok l n = leb n 1000000 && (leb (3 * n) (length l) && (every n (bin_ok l n) && leb (sum_to (votes l) n) 1000000))

-- ---- the sums: n words behind the n bins, one for each in their order

-- n bins in the words s, and room behind them
pub record Roomy (s : List ℤ) (n : ℕ) : Type 0 where
  pub bins : Bins (take (3 * n) s) n
  pub room : 4 * n ≤ length s

-- the first i values of f stand from word e on
abbrev pub Written : (ℕ → ℕ) → ℕ → List ℤ → ℕ → Type 0
Written f i s e = (k : ℕ) → k < i → get_or s (e + k) (pos 0) ≡ pos (f k)

-- the bins' sums do
abbrev pub Summed : List ℤ → ℕ → ℕ → Type 0
Summed s n tol = Written (hough_sum (take (3 * n) s) n tol) n s (3 * n)

-- bins and what lies behind the room are as they were
pub record Kept (s₀ s : List ℤ) (n : ℕ) : Type 0 where
  pub bins : take (3 * n) s ≡ take (3 * n) s₀
  pub rest : drop (4 * n) s ≡ drop (4 * n) s₀

-- the words s₀, with the sums
pub record WithSums (s₀ s : List ℤ) (n tol : ℕ) : Type 0 where
  pub kept : Kept s₀ s n
  pub sums : Summed s n tol

-- ---- for any arguments: none where the test fails

-- the peak, its frames and its prominence
abbrev pub answer_at : List ℤ → ℕ → ℕ → Peak → Answer
answer_at l n tol p = record { peak = p; offset = peak_offset l n tol p.at; prominence = prominence l n tol p.votes p.at }

-- the first n bins of s are taken, and there is room for their sums
abbrev pub hough_ok : List ℤ → ℕ → ℕ → Bool
hough_ok s n tol = leb n (length s / 4) && (ltb 0 n && (leb tol 65535 && bins_ok (take (3 * n) s) n))

unfoldable pub checked_answer : List ℤ → ℕ → ℕ → Option Answer
checked_answer s n tol = cond (hough_ok s n tol) (let l = take (3 * n) s in Some (answer_at l n tol (hough_peak l n tol))) None

-- what an answer leaves of the words s₀
abbrev pub LeftAfter : Option Answer → List ℤ → List ℤ → ℕ → ℕ → Type 0
LeftAfter None s₀ s n tol = s ≡ s₀
LeftAfter (Some a) s₀ s n tol = WithSums s₀ s n tol
