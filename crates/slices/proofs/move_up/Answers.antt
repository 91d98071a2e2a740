-- `slices::move_up` meets its contract. Assumes nothing.
use Rattle.std.proofs.Common.{◌≡◌, ◌-◌, arith}
use Rattle.slices.proofs.Moved.{moving-none, moving-all, moving-more}
use Rattle.slices.proofs.move_up.Goals as goal

pub loop-j-init : goal.loop-j-init
loop-j-init c = moving-none _ _ _ _

pub loop-j-preserved : goal.loop-j-preserved
loop-j-preserved c =
    moving-more c.args.s.now c.loop-j.s c.args.to c.args.from c.args.n c.loop-j.j (c.loop-j.j - 1) c.requires.0 c.requires.1 (omega arith) c.loop-j.invariant

pub returns : goal.returns
returns c =
    let e : c.loop-j.j ≡ 0 = omega arith in
    moving-all c.args.s.now c.loop-j.s c.args.to c.args.from c.args.n (rw e at c.loop-j.invariant)
