-- `build_entries::fill_part` meets its contract. Assumes nothing.
use Rattle.std.proofs.Common.{◌+◌, arith}
use Rattle.build_entries.proofs.Prefix.{fill_none, fill_more}
use Rattle.build_entries.proofs.fill_part.Goals as goal

pub loop-j-init : goal.loop-j-init
loop-j-init c = fill_none (λ j. c.args.base + j) c.args.posts.now c.args.to

pub loop-j-preserved : goal.loop-j-preserved
loop-j-preserved c = fill_more (λ j. c.args.base + j) c.args.posts.now c.loop-j.posts c.args.to c.loop-j.j (omega arith) c.loop-j.invariant
