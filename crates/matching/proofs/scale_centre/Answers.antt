-- `matching::scale_centre` meets its contract. Assumes nothing.
use lib.Ieee.{of_bits}
use Rattle.matching.specs.Scales.{bin_centre}
use Rattle.matching.proofs.scale_centre.Goals as goal

pub returns : goal.returns
unfolding bin_centre of_bits
returns c = rw c.from.ensures
