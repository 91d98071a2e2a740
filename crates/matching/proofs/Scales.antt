-- What the proof of `time_scale` cites. Assumes nothing.
use Rattle.std.proofs.Common.{◌≡◌, true, false}
use lib.Ieee.{Float, binary64, div, lt}
use Rattle.floats.specs.Rounding.{narrow}
use Rattle.floats.specs.Selection.{one, abs}
use Rattle.std.specs.Float.{float_clamp}
use Rattle.matching.specs.Scales.{tiny, half, two, time_scale}

pub small : (x : Float) → lt tiny (abs x) ≡ false → one ≡ time_scale x
unfolding time_scale
small x h = rw h

-- y is 1 / x held to 0.5 .. 2
pub held : (x : Float) → lt tiny (abs x) ≡ true → (y : Float) → y ≡ float_clamp (div binary64 one x) half two → narrow y ≡ time_scale x
unfolding time_scale
held x h y e = rw (e, h)
