-- The definition makes the same tests, and the library's `abs` is the definition's: the sign is cleared.
use Rattle.std.proofs.Common.{◌≡◌, false, refl}
use Rattle.std.specs.Float.{float_with_sign}
use lib.Ieee.{Float, nan, inf, fin, of_bits}
use Rattle.floats.specs.Selection.{abs}
use Rattle.panako_vote.specs.Settings.{within_limits}
use Rattle.panako_vote.proofs.within_limits.Goals as goal

cleared : (x : Float) → float_with_sign false x ≡ abs x
unfolding float_with_sign abs
cleared nan = refl
cleared (inf s) = refl
cleared (fin s m e) = refl

pub returns : goal.returns
unfolding within_limits of_bits
returns c = rw (c.abs.ensures.value, c.abs-2.ensures.value, cleared c.args.cfg.scale_min, cleared c.args.cfg.scale_max)
