-- `floats::small_half_up` meets its contract: `proofs/Whole.antt` has what the nearest whole number says of halves up. Assumes nothing.
use Rattle.std.proofs.Common.{◌∙◌, arith}
use Rattle.floats.proofs.Library.{flag-is}
use Rattle.floats.proofs.Whole.{half-up-small, half-up-few}
use Rattle.floats.proofs.small_half_up.Goals as goal

pub overflow_add-result : goal.overflow_add-result
overflow_add-result c =
    let e = half-up-small c.args.x c.requires.fact_1 c.requires.fact_2 c.nearest_whole-near.result.n c.from.result c.nearest_whole-near.result.float c.nearest_whole-near.ensures.n_value c.nearest_whole-near.ensures.float_value (c.from.ensures ∙ flag-is _) in
    omega (arith, e, half-up-few c.args.x c.requires.fact_1 c.requires.fact_2)

pub returns : goal.returns
returns c = half-up-small c.args.x c.requires.fact_1 c.requires.fact_2 c.nearest_whole-near.result.n c.from.result c.nearest_whole-near.result.float c.nearest_whole-near.ensures.n_value c.nearest_whole-near.ensures.float_value (c.from.ensures ∙ flag-is _)
