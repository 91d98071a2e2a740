-- `matching::scale_per_bin` meets its contract. Assumes nothing.
use Rattle.matching.specs.Scales.{per_bin}
use Rattle.matching.proofs.scale_per_bin.Goals as goal

pub returns : goal.returns
unfolding per_bin
returns c = rw c.from.ensures
