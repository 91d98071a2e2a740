-- `proofs/Bins.antt` has x held to 0 .. last.
use Rattle.std.proofs.Common.{◌∙◌, arith, rules}
use Rattle.panako_vote.proofs.Bins.{held_low, held_cut}
use Rattle.panako_vote.proofs.scale_bin.Goals as goal

pub small_whole_part-requires : goal.small_whole_part-requires
small_whole_part-requires c =
    let p = held_low c.args.x c.args.last (search rules) c.at_most.result c.at_most.ensures c.at_least_zero.result c.at_least_zero.ensures in
    record { fact_1 = p.0; fact_2 = p.1 }

pub overflow_cast-result : goal.overflow_cast-result
overflow_cast-result c =
    let b = held_cut c.args.x c.args.last (search rules) c.at_most.result c.at_most.ensures c.at_least_zero.result c.at_least_zero.ensures in
    omega (arith, c.small_whole_part.ensures)

pub returns : goal.returns
returns c =
    c.small_whole_part.ensures
    ∙ (held_cut c.args.x c.args.last (search rules) c.at_most.result c.at_most.ensures c.at_least_zero.result c.at_least_zero.ensures).1
