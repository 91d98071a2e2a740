-- `matching::time_scale` meets its contract: `proofs/Scales.antt` has each way. Assumes nothing.
use Rattle.std.proofs.Common.{sym, ap, ◌∙◌}
use lib.Ieee.{Float, le, lt, of_bits}
use Rattle.floats.proofs.Library.{signless-abs}
use Rattle.matching.specs.Scales.{tiny}
use Rattle.matching.proofs.Scales.{small, held}
use Rattle.matching.proofs.time_scale.Goals as goal

pub clamp-requires : goal.clamp-requires
unfolding of_bits le
clamp-requires c = tt

pub returns-then-abs : goal.returns-then-abs
unfolding of_bits
returns-then-abs c = c.f64_to_f32.ensures ∙ held c.args.c (sym (ap (λ (z : Float). lt tiny z) (c.abs.ensures.value ∙ signless-abs c.args.c)) ∙ c.if-abs.true) c.clamp.result c.clamp.ensures.value

pub returns-else-abs : goal.returns-else-abs
unfolding of_bits
returns-else-abs c = small c.args.c (sym (ap (λ (z : Float). lt tiny z) (c.abs.ensures.value ∙ signless-abs c.args.c)) ∙ c.if-abs.false)
