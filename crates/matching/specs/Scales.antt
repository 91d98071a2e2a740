-- Panako's scale bins and the time scale, each step one rounded f64 operation. Definitions only. Assumes nothing.
use Rattle.std.specs.Prelude.{ℕ, false, cond, pos, negsuc, from_bits, Float}
use Rattle.std.specs.Float.{fin, binary64}
use Rattle.std.specs.Float.Ieee.{add, sub, mul, div, lt, of_int}
use Rattle.floats.specs.Rounding.{narrow}
use Rattle.floats.specs.Selection.{one, abs, clamp}

abbrev pub half : Float
half = fin false 1 (negsuc 0)

abbrev pub two : Float
two = fin false 1 (pos 1)

-- 1e-6 as an f64
abbrev pub tiny : Float
tiny = from_bits binary64 0x3eb0_c6f7_a0b5_ed8d

-- "per = (scale_max − scale_min) / scale_bins"
unfoldable pub per_bin : Float → Float → ℕ → Float
per_bin min max bins = div binary64 (sub binary64 max min) (of_int binary64 (pos bins))

-- "c = scale_min + (bin + 0.5) × per"
unfoldable pub bin_centre : Float → Float → ℕ → Float
bin_centre min per bin = add binary64 min (mul binary64 (add binary64 (of_int binary64 (pos bin)) half) per)

-- "1/c held to 0.5 .. 2.0, as f32; 1.0 if |c| ≤ 1e-6"; a NaN c gives 1.0 too
unfoldable pub time_scale : Float → Float
time_scale c = cond (lt tiny (abs c)) (narrow (clamp half two (div binary64 one c))) one
