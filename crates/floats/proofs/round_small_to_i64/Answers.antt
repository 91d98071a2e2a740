-- `floats::round_small_to_i64` meets its contract: `proofs/Whole.antt` has the two signs. Assumes nothing.
use Rattle.std.proofs.Common.{◌∙◌, w64}
use lib.Ieee.{of_bits}
use mir.ValLaws.{to_z_pos}
use Rattle.floats.proofs.Away.{cast_fits, negated_fits, negated}
use Rattle.floats.proofs.Whole.{size_in, size_small, away-below, away-above}
use Rattle.floats.proofs.round_small_to_i64.Goals as goal

pub small_half_up-n-requires : goal.small_half_up-n-requires
small_half_up-n-requires c =
    let w = size_in c.args.x c.requires.fact_1 c.requires.fact_2 c.magnitude.result c.magnitude.ensures in
    record { fact_1 = w.0; fact_2 = w.1 }

pub overflow_cast-n : goal.overflow_cast-n
overflow_cast-n c =
    cast_fits c.small_half_up-n.result (size_small c.args.x c.requires.fact_1 c.requires.fact_2 c.magnitude.result c.magnitude.ensures c.small_half_up-n.result c.small_half_up-n.ensures)

pub overflow_sub-result : goal.overflow_sub-result
overflow_sub-result c =
    negated_fits c.small_half_up-n.result (size_small c.args.x c.requires.fact_1 c.requires.fact_2 c.magnitude.result c.magnitude.ensures c.small_half_up-n.result c.small_half_up-n.ensures)

pub returns-then-x : goal.returns-then-x
unfolding of_bits
returns-then-x c =
    negated c.small_half_up-n.result (size_small c.args.x c.requires.fact_1 c.requires.fact_2 c.magnitude.result c.magnitude.ensures c.small_half_up-n.result c.small_half_up-n.ensures)
    ∙ away-below c.args.x c.requires.fact_1 c.requires.fact_2 c.magnitude.result c.magnitude.ensures c.small_half_up-n.result c.small_half_up-n.ensures c.if-x.true

pub returns-else-x : goal.returns-else-x
unfolding of_bits
returns-else-x c =
    to_z_pos w64 c.small_half_up-n.result (size_small c.args.x c.requires.fact_1 c.requires.fact_2 c.magnitude.result c.magnitude.ensures c.small_half_up-n.result c.small_half_up-n.ensures)
    ∙ away-above c.args.x c.requires.fact_1 c.requires.fact_2 c.magnitude.result c.magnitude.ensures c.small_half_up-n.result c.small_half_up-n.ensures c.if-x.false
