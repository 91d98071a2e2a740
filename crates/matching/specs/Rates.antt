-- The gate on rates. Definitions only. Assumes nothing.
use Rattle.std.specs.Prelude.{Bool, false, ◌&&◌, negsuc, Float}
use Rattle.std.specs.Float.{fin, binary32}
use Rattle.std.specs.Float.Ieee.{sub, mul, le}
use Rattle.std.specs.Float.Ieee.Positive.{positive}
use Rattle.floats.specs.Selection.{abs, maximum}

-- 0.001 as an f32: 8589935 * 2 ^ -33
abbrev pub thousandth : Float
thousandth = fin false 8589935 (negsuc 32)

-- "Rates a, b: finite, positive, |a − b| ≤ 0.001 × the larger, in f32"
unfoldable pub rates_agree : Float → Float → Bool
rates_agree a b = (positive a && positive b) && le (abs (sub binary32 a b)) (mul binary32 thousandth (maximum a b))
