-- `query_search::step`: the difference is a mask. Assumes nothing.
use Rattle.std.proofs.Common.{arith}
use Rattle.query_search.proofs.Steps.{masked}
use Rattle.query_search.proofs.step.Goals as goal

pub returns : goal.returns
returns c =
    masked c.args.x c.args.key c.args.half _ c.ranges.x.fits c.ranges.key.fits c.ranges.half.fits (omega arith) (omega arith)
