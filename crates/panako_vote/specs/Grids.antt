-- The scale grid: what the settings decide of every vote. Each step is one rounded f64 operation. Definitions only. Assumes nothing.
use Rattle.std.specs.Prelude.{◌≡◌, ℕ, ◌-◌, ◌<◌, Bool, false, not, ◌||◌, T, pos, Float}
use Rattle.std.specs.Float.{fin, binary64}
use Rattle.std.specs.Float.Ieee.{add, sub, mul, div, lt, le, of_int, to_unsigned}
use Rattle.floats.specs.Selection.{zero, one, clamp}
use Rattle.matching.specs.Scales.{half, per_bin}
use Rattle.panako_vote.specs.declared.PanakoMatchConfig.{PanakoMatchConfig}
use Rattle.panako_vote.specs.declared.ScaleGrid.{ScaleGrid}

-- a whole number as an f64
abbrev pub whole : ℕ → Float
whole n = of_int binary64 (pos n)

-- ---- a scale on a grid, by the grid's parts

-- "no vote if s < scale_min − per × 0.5 or s > scale_max + per × 0.5"
abbrev pub not_between : Float → Float → Float → Bool
not_between low high s = lt s low || lt high s

-- "held to 0 .. scale_bins − 1, whole part": the last bin is scale_bins − 1
unfoldable pub bin_at : Float → ℕ → ℕ
bin_at x last = to_unsigned 32 (clamp zero (whole last) x)

-- "Scale bin: (s − scale_min) / per, held to 0 .. scale_bins − 1, whole part."
abbrev pub bin_by : Float → Float → ℕ → Float → ℕ
bin_by min per last s = bin_at (div binary64 (sub binary64 s min) per) last

-- ---- the same on a grid

abbrev pub outside : ScaleGrid → Float → Bool
outside g s = not_between g.low g.high s

abbrev pub scale_bin : ScaleGrid → Float → ℕ
scale_bin g s = bin_by g.scale_min g.scale_per_bin g.last_bin s

-- ---- the grid of these settings

-- "per = (scale_max − scale_min) / scale_bins"
abbrev pub per : PanakoMatchConfig → Float
per cfg = per_bin cfg.scale_min cfg.scale_max cfg.scale_bins

-- the lowest scale with a vote, "scale_min − per × 0.5", and the highest, "scale_max + per × 0.5"
abbrev pub lowest : PanakoMatchConfig → Float
lowest cfg = sub binary64 cfg.scale_min (mul binary64 (per cfg) half)

abbrev pub highest : PanakoMatchConfig → Float
highest cfg = add binary64 cfg.scale_max (mul binary64 (per cfg) half)

-- the last scale bin, "scale_bins − 1"
abbrev pub last_bin : PanakoMatchConfig → ℕ
last_bin cfg = cfg.scale_bins - 1

-- the scale bin of scale 1, and whether scale 1 votes: what every pair of equal spans asks
abbrev pub one_bin : PanakoMatchConfig → ℕ
one_bin cfg = bin_by cfg.scale_min (per cfg) (last_bin cfg) one

abbrev pub one_votes : PanakoMatchConfig → Bool
one_votes cfg = not (not_between (lowest cfg) (highest cfg) one)

unfoldable pub grid_of : PanakoMatchConfig → ScaleGrid
grid_of cfg =
    record {
      scale_min = cfg.scale_min;
      scale_per_bin = per cfg;
      low = lowest cfg;
      high = highest cfg;
      last_bin = last_bin cfg;
      unit_bin = one_bin cfg;
      unit_votes = one_votes cfg;
    }

-- 128 is 2 ^ 7
abbrev pub one_twenty_eight : Float
one_twenty_eight = fin false 1 (pos 7)

-- what holds of the grid of accepted settings, and a vote needs: no scale above 128 votes, there are 4,096 bins at most, and what the grid says of scale 1 is right
pub record Limited (g : ScaleGrid) : Type 0 where
  pub high : T (le g.high one_twenty_eight)
  pub last : g.last_bin < 4096
  pub unit_bin : g.unit_bin ≡ scale_bin g one
  pub unit_votes : g.unit_votes ≡ not (outside g one)
