-- `floats::small_whole_part` meets its contract: `proofs/Whole.antt` has what the nearest whole number says of the whole part. Assumes nothing.
use Rattle.std.proofs.Common.{◌∙◌}
use Rattle.floats.proofs.Library.{flag-is}
use Rattle.floats.proofs.Whole.{whole-part-is}
use Rattle.floats.proofs.small_whole_part.Goals as goal

pub overflow_sub-result : goal.overflow_sub-result
overflow_sub-result c =
    (whole-part-is c.args.x c.requires.fact_1 c.requires.fact_2 c.nearest_whole-near.result.n c.from.result c.nearest_whole-near.result.float c.nearest_whole-near.ensures.n_value c.nearest_whole-near.ensures.float_value (c.from.ensures ∙ flag-is _)).0

pub returns : goal.returns
returns c =
    (whole-part-is c.args.x c.requires.fact_1 c.requires.fact_2 c.nearest_whole-near.result.n c.from.result c.nearest_whole-near.result.float c.nearest_whole-near.ensures.n_value c.nearest_whole-near.ensures.float_value (c.from.ensures ∙ flag-is _)).1
