-- `matching::is_i64` meets its contract. Assumes nothing.
use Rattle.std.proofs.Common.{refl}
use lib.Ieee.{of_bits, neg}
use Rattle.matching.specs.Offsets.{in_i64}
use Rattle.matching.proofs.is_i64.Goals as goal

pub returns : goal.returns
unfolding in_i64 of_bits neg
returns c = refl
