-- `sheet_card::zero_scratch` meets its contract. Assumes nothing.
use Rattle.std.proofs.Common.{refl}
use Rattle.sheet_kinds.specs.Kinds.{zero_scratch}
use Rattle.sheet_card.proofs.zero_scratch.Goals as goal

pub returns : goal.returns
unfolding zero_scratch
returns c = refl
