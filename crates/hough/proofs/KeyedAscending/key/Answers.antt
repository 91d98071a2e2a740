use mathlib.Core.Path.{refl}
use Rattle.hough.specs.Keys.{key}
use Rattle.hough.proofs.KeyedAscending.key.Goals as goal

pub returns : goal.returns
unfolding key
returns c = rw (c.scale-row.ensures.0, c.place.ensures.0) refl
