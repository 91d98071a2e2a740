-- `TimeOffset`. Definitions only. Assumes nothing.
use Rattle.std.specs.Prelude.{Bool, true, false, cond, ◌&&◌, ℤ, pos, Float, Option, Some, None}
use Rattle.std.specs.Float.{fin, binary64}
use Rattle.std.specs.Float.Ieee.{mul, div, of_int, le, lt}
use Rattle.std.specs.Float.Ieee.Positive.{positive}
use Rattle.floats.specs.Rounding.{round_to_i64}
use Rattle.matching.specs.declared.TimeOffset.{TimeOffset}

-- 1000 is 125 * 2 ^ 3
abbrev pub thousand : Float
thousand = fin false 125 (pos 3)

-- "ms = frames × 1000 / rate in f64", before it is rounded
abbrev pub unrounded : ℤ → Float → Float
unrounded frames rate = div binary64 (mul binary64 (of_int binary64 frames) thousand) rate

-- "halves away from zero, held to the i64 range; ms is 0 for a rate not finite or not above 0"
unfoldable pub millis : ℤ → Float → ℤ
millis frames rate = cond (positive rate) (round_to_i64 (unrounded frames rate)) (pos 0)

abbrev pub from_frames : ℤ → Float → TimeOffset
from_frames frames rate = record { frames = frames; ms = millis frames rate }

-- −2^63 ≤ x < 2^63
unfoldable pub in_i64 : Float → Bool
in_i64 x = le (fin true 1 (pos 63)) x && lt x (fin false 1 (pos 63))

-- The Rust's `try_from_frames`: none where the rate isn't finite and above 0, or where the milliseconds don't fit in an i64.
-- From 2^52 on every f64 is whole, so the rounding moves no number over an end.
unfoldable pub try_from_frames : ℤ → Float → Option TimeOffset
try_from_frames frames rate = cond (positive rate && in_i64 (unrounded frames rate)) (Some (from_frames frames rate)) None

abbrev pub zero_offset : TimeOffset
zero_offset = record { frames = pos 0; ms = pos 0 }
