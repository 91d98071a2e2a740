-- `rows::largest_anchor` meets its contract. Assumes nothing.
use Rattle.std.proofs.Common.{◌∙◌, arith}
use Rattle.rows.proofs.RowWords.{largest-none, largest-more}
use Rattle.rows.proofs.largest_anchor.Goals as goal

pub loop-j-init : goal.loop-j-init
loop-j-init c = largest-none 2 c.args.hashes.now

pub loop-j-preserved : goal.loop-j-preserved
loop-j-preserved c = c.max-top.ensures ∙ (rw (c.loop-j.invariant) (largest-more 2 c.args.hashes.now c.loop-j.j (omega arith)))
