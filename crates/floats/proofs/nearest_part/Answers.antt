-- `floats::nearest_part` meets its contract: `proofs/Cut.antt` has its arithmetic. Assumes nothing.
use Rattle.std.proofs.Common.{arith}
use Rattle.floats.proofs.Cut.{half_pos, kept-fits, carry-fits, cut-is}
use Rattle.floats.proofs.nearest_part.Goals as goal

pub overflow_sub-result : goal.overflow_sub-result
overflow_sub-result c = half_pos c.args.n c.args.cut c.requires.0 c.requires.1

pub overflow_add-result-3 : goal.overflow_add-result-3
overflow_add-result-3 c = omega (arith, kept-fits c.args.n c.args.cut c.requires.0 c.requires.1 c.ranges.n.fits, carry-fits c.args.n c.args.cut c.requires.0 c.requires.1)

pub returns : goal.returns
returns c = cut-is c.args.n c.args.cut c.requires.0 c.requires.1
