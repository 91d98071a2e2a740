-- Panako's Hough consolidation. A bin is three words of a slice: its scale bin, its offset, its count. The bins ascend by scale bin,
-- then by offset. Definitions only. Assumes nothing.
use Rattle.std.specs.Prelude.{ℕ, ◌+◌, ◌-◌, ◌*◌, Bool, cond, ◌&&◌, ◌||◌, List, ℤ, pos, nat_abs, ◌+ℤ◌, ◌-ℤ◌, eqb, leb, ltb, get_or, Float}
use Rattle.std.specs.Float.{binary32}
use Rattle.std.specs.Float.Ieee.{div}
use Rattle.floats.specs.Selection.{zero}
use Rattle.matching.specs.Scores.{whole, over_mean}
use Rattle.maps.specs.Sums.{sum_to, greatest, when}
use Rattle.consolidate.specs.Runs.{first_greatest}
use Rattle.consolidate.specs.Modes.{mode, mode_or}
use Rattle.hough.specs.declared.Peak.{Peak}

abbrev pub scale_word : List ℤ → ℕ → ℤ
scale_word l i = get_or l (3 * i) (pos 0)

abbrev pub offset : List ℤ → ℕ → ℤ
offset l i = get_or l (3 * i + 1) (pos 0)

abbrev pub count_of : List ℤ → ℕ → ℤ
count_of l i = get_or l (3 * i + 2) (pos 0)

-- the scale bin and the count as natural numbers
abbrev pub scale : List ℤ → ℕ → ℕ
scale l i = nat_abs (scale_word l i)

abbrev pub votes : List ℤ → ℕ → ℕ
votes l i = nat_abs (count_of l i)

-- how far apart two scale bins are, and two offsets
abbrev pub dist : ℕ → ℕ → ℕ
dist a b = (a - b) + (b - a)

abbrev pub gap : ℤ → ℤ → ℕ
gap a b = nat_abs (a -ℤ b)

-- ---- the peak

-- bin j lies within "scale bins ± 1 and offsets ± tolerance" of bin i
abbrev pub neighbour : List ℤ → ℕ → ℕ → ℕ → Bool
neighbour l tol i j = leb (dist (scale l i) (scale l j)) 1 && leb (gap (offset l i) (offset l j)) tol

-- "an occupied bin's sum": the counts of its neighbours, itself among them
unfoldable pub hough_sum : List ℤ → ℕ → ℕ → ℕ → ℕ
hough_sum l n tol i = sum_to (λ j. when (neighbour l tol i j) (votes l j)) n

-- "the first greatest in (scale, offset) order wins"
unfoldable pub hough_peak : List ℤ → ℕ → ℕ → Peak
hough_peak l n tol = record { votes = greatest (hough_sum l n tol) n; at = first_greatest (hough_sum l n tol) n }

-- ---- its frames: "counts of those same neighbours merged by offset, then the mode"

-- the offsets from tol below that of bin i on
abbrev pub frame : List ℤ → ℕ → ℕ → ℕ → ℤ
frame l tol i x = offset l i -ℤ pos tol +ℤ pos x

-- the counts of bin i's neighbours at one offset
unfoldable pub merged : List ℤ → ℕ → ℕ → ℕ → ℕ → ℕ
merged l n tol i x = sum_to (λ j. when (neighbour l tol i j && eqb (gap (frame l tol i x) (offset l j)) 0) (votes l j)) n

-- where no neighbour has a count, the bin's own offset, as in the Rust
unfoldable pub peak_offset : List ℤ → ℕ → ℕ → ℕ → ℤ
peak_offset l n tol i = mode_or (offset l i) (mode (merged l n tol i) (frame l tol i) (2 * tol + 1))

-- ---- its prominence: "mean of the sums of bins more than 2 scales or more than 2 × tolerance away, 0 if none; peak / (mean + 1)"

abbrev pub far : List ℤ → ℕ → ℕ → ℕ → Bool
far l tol i j = ltb 2 (dist (scale l i) (scale l j)) || ltb (2 * tol) (gap (offset l i) (offset l j))

unfoldable pub far_sum : List ℤ → ℕ → ℕ → ℕ → ℕ
far_sum l n tol i = sum_to (λ j. when (far l tol i j) (hough_sum l n tol j)) n

unfoldable pub far_count : List ℤ → ℕ → ℕ → ℕ → ℕ
far_count l n tol i = sum_to (λ j. when (far l tol i j) 1) n

-- the sum and the number are each rounded to f32 first
abbrev pub mean_of : ℕ → ℕ → Float
mean_of sum number = cond (eqb number 0) zero (div binary32 (whole sum) (whole number))

unfoldable pub prominence : List ℤ → ℕ → ℕ → ℕ → ℕ → Float
prominence l n tol peak i = over_mean peak (mean_of (far_sum l n tol i) (far_count l n tol i))
