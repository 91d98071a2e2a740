use Rattle.std.proofs.Common.{◌∙◌}
use Rattle.floats.proofs.Library.{signless-abs}
use Rattle.floats.proofs.abs_f32.Goals as goal

pub returns : goal.returns
returns c = c.abs.ensures.value ∙ signless-abs c.args.x
