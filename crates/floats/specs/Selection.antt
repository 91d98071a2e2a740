-- Rust's `abs`, `max` and `clamp` of floats, none of which rounds. Definitions only. Assumes nothing.
use Rattle.std.specs.Prelude.{false, cond, pos, is_nan, Float}
use Rattle.std.specs.Float.{nan, inf, fin}
use Rattle.std.specs.Float.Ieee.{lt}

abbrev pub zero : Float
zero = fin false 0 (pos 0)

abbrev pub one : Float
one = fin false 1 (pos 0)

-- the sign is cleared, a zero's too
unfoldable pub abs : Float → Float
abs nan = nan
abs (inf s) = inf false
abs (fin s m e) = fin false m e

-- the larger, and the number where the other is a NaN
unfoldable pub maximum : Float → Float → Float
maximum a b = cond (is_nan a) b (cond (lt a b) b a)

-- x held to lo .. hi
abbrev pub clamp : Float → Float → Float → Float
clamp lo hi x = cond (lt x lo) lo (cond (lt hi x) hi x)
