-- What the parts of the Hough walk say of each other, on natural numbers. Assumes nothing.
use Rattle.std.specs.Prelude.{ℕ, zero, suc, ◌+◌, ◌-◌, ◌*◌, ◌^◌, ◌≤◌, ◌<◌, Bool, cond, ◌&&◌, ◌||◌, List, ℤ, pos, nat_abs, ◌+ℤ◌, leb, ltb, eqb}
use Rattle.maps.specs.Sums.{sum_to, when}
use Rattle.consolidate.specs.Windows.{Slides, Covers}
use Rattle.consolidate.specs.declared.Window.{Window}
use Rattle.consolidate.specs.Tallies.{tally_of}
use Rattle.consolidate.specs.declared.Tally.{Tally}
use Rattle.hough.specs.Hough.{scale, offset, votes, dist, frame, merged}
use Rattle.hough.specs.declared.Peak.{Peak}
use Rattle.hough.specs.declared.Windows.{Windows}
use Rattle.hough.specs.declared.Background.{Background}

-- up to so many bins the code looks at every pair of them, and up to so small a tolerance at every offset within it; for more, the work
-- of these two ways would grow faster than the bins
abbrev pub few_bins : ℕ
few_bins = 24

abbrev pub small_tolerance : ℕ
small_tolerance = 4

-- a row of keys for each scale bin
abbrev pub row : ℕ
row = 2 ^ 41

-- the offset's place in a row: the offset 0 stands in the middle
unfoldable pub place : List ℤ → ℕ → ℕ
place l i = nat_abs (offset l i +ℤ pos (2 ^ 40))

unfoldable pub key : List ℤ → ℕ → ℕ
key l i = (scale l i + 1) * row + place l i

-- the keys of n bins ascend, which those of any bins do (proofs/Places.antt)
abbrev pub KeysAscend : List ℤ → ℕ → Type 0
KeysAscend l n = (i j : ℕ) → i < j → j < n → key l i < key l j

-- keys that lie d apart are those of neighbours
abbrev pub near_by : ℕ → ℕ → Bool
near_by tol d = leb d tol || (leb d (row + tol) && leb (row - tol) d)

-- the three windows around the key x, one row down, in its row and one row up: ready to move there, and there
pub record Ready (l : List ℤ) (n tol x : ℕ) (t : Windows) : Type 0 where
  pub under : Slides (key l) (votes l) n tol (x - row) t.under
  pub here : Slides (key l) (votes l) n tol x t.here
  pub over : Slides (key l) (votes l) n tol (x + row) t.over

pub record Around (l : List ℤ) (n tol x : ℕ) (t : Windows) : Type 0 where
  pub under : Covers (key l) (votes l) n tol (x - row) t.under
  pub here : Covers (key l) (votes l) n tol x t.here
  pub over : Covers (key l) (votes l) n tol (x + row) t.over

abbrev pub closed : Window
closed = record { enter = 0; leave = 0; sum = 0 }

abbrev pub at_start : Windows
at_start = record { under = closed; here = closed; over = closed; sum = 0 }

-- the peak with the sum v of bin i
abbrev pub better_of : Peak → ℕ → ℕ → Peak
better_of p i v = cond (ltb p.votes v) (record { votes = v; at = i }) p

-- the background with a bin's sum v, if that bin is far
abbrev pub more_of : Background → Bool → ℕ → Background
more_of b far v = cond far (record { sum = b.sum + v; count = b.count + 1 }) b

-- no bin from `at` on has a key from x to before x + r
pub record Ahead (d : ℕ → ℕ) (n at x most r : ℕ) : Type 0 where
  pub some : 0 < r
  pub few : r ≤ most
  pub free : (j : ℕ) → at ≤ j → j < n → x + r ≤ d j

-- none in the three windows' rows
pub record Clear (l : List ℤ) (n x : ℕ) (t : Windows) (most r : ℕ) : Type 0 where
  pub some : 0 < r
  pub few : r ≤ most
  pub under : (j : ℕ) → t.under.enter ≤ j → j < n → x - row + r ≤ key l j
  pub here : (j : ℕ) → t.here.enter ≤ j → j < n → x + r ≤ key l j
  pub over : (j : ℕ) → t.over.enter ≤ j → j < n → x + row + r ≤ key l j

-- the counts at place x, within one scale bin of k
unfoldable pub count_at : List ℤ → ℕ → ℕ → ℕ → ℕ
count_at l n k x = sum_to (λ j. when (leb (dist k (scale l j)) 1 && eqb (place l j) x) (votes l j)) n

-- the tally of the first x offsets near that of bin i, each with the counts of bin i's neighbours there
unfoldable pub frame_tally : List ℤ → ℕ → ℕ → ℕ → ℕ → Tally
frame_tally l n tol i zero = record { best = 0; count = 0; sum = pos 0 }
frame_tally l n tol i (suc x) = tally_of (frame_tally l n tol i x) (merged l n tol i x) (frame l tol i x)
