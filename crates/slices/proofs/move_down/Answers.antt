-- `slices::move_down` meets its contract. Assumes nothing.
use Rattle.std.proofs.Common.{◌≡◌, arith}
use Rattle.slices.proofs.Pasted.{pasted-none}
use Rattle.slices.proofs.Moved.{moved_same, moved_more}
use Rattle.slices.proofs.move_down.Goals as goal

pub loop-j-init : goal.loop-j-init
loop-j-init c = pasted-none _ _ _ _

pub loop-j-preserved : goal.loop-j-preserved
loop-j-preserved c = rw c.loop-j.invariant (moved_more c.args.s.now c.args.to c.args.from c.args.n c.requires.0 c.requires.1 c.loop-j.j (omega arith))

pub returns-after-loop-j : goal.returns-after-loop-j
returns-after-loop-j c = let e : c.loop-j.j ≡ c.args.n = omega arith in rw e at c.loop-j.invariant

pub returns-else-to-from : goal.returns-else-to-from
returns-else-to-from c = let e : c.args.to ≡ c.args.from = omega arith in rw e (moved_same c.args.s.now c.args.from c.args.n)
