-- Scores, prominences and thresholds, each step one rounded f32 operation. Definitions only. Assumes nothing.
use Rattle.std.specs.Prelude.{ℕ, ◌-◌, max, Bool, cond, not, pos, is_nan, Float}
use Rattle.std.specs.Float.{binary32}
use Rattle.std.specs.Float.Ieee.{add, sub, div, le, of_int}
use Rattle.floats.specs.Selection.{zero, one, maximum, clamp}

-- "held to 0 .. 1", a NaN to 0
unfoldable pub clamp_score : Float → Float
clamp_score s = cond (is_nan s) zero (clamp zero one s)

-- "`below_threshold` bars whatever isn't ≥ the threshold, so NaN bars all and equality passes"
abbrev pub below_threshold : Float → Float → Bool
below_threshold value threshold = not (le threshold value)

-- a whole number, rounded to f32 first
abbrev pub whole : ℕ → Float
whole n = of_int binary32 (pos n)

-- "mean = (total − peak) / max(width − 1, 1), in f32; total − peak is exact, then it, peak and width are each rounded to f32 first"
abbrev pub wang_mean : ℕ → ℕ → ℕ → Float
wang_mean peak total width = div binary32 (whole (total - peak)) (maximum (sub binary32 (whole width) one) one)

-- "peak / (mean + 1)"
abbrev pub over_mean : ℕ → Float → Float
over_mean peak mean = div binary32 (whole peak) (add binary32 mean one)

unfoldable pub wang_prominence : ℕ → ℕ → ℕ → Float
wang_prominence peak total width = over_mean peak (wang_mean peak total width)

-- "over query hashes. Both are f32, held to 0 .. 1"; the Rust divides by 1 where there are none
unfoldable pub score_of : ℕ → ℕ → Float
score_of n hashes = clamp_score (div binary32 (whole n) (whole (max hashes 1)))
