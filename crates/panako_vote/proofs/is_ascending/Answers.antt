-- The library's `is_finite` is the definition's: neither a NaN nor an infinity is finite.
use Rattle.std.proofs.Common.{◌≡◌, refl}
use Rattle.std.specs.Float.{float_is_finite}
use lib.Ieee.{Float, nan, inf, fin}
use lib.Ieee.Scale.{finite}
use Rattle.panako_vote.proofs.is_ascending.Goals as goal

same : (x : Float) → float_is_finite x ≡ finite x
unfolding float_is_finite
same nan = refl
same (inf s) = refl
same (fin s m e) = refl

pub returns : goal.returns
returns c = rw (c.is_finite.ensures.value, c.is_finite-2.ensures.value, same, same)
