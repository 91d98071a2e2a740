use Prim.Native.Nat.{◌+◌}
use mathlib.Core.Path.{sym}
use native.Mathlib.Omega.{arith}
use Rattle.hough.proofs.Frames.{count_none, count-more, count_small}
use Rattle.hough.proofs.Keyed.direct_at.Goals as goal

pub loop-j-init : goal.loop-j-init
loop-j-init c = sym (count_none _ _ _)

pub overflow_add-sum : goal.overflow_add-sum
overflow_add-sum c =
    let b = c.args.self in
    omega (arith, c.loop-j.invariant, count-more b.s.now c.args.k c.args.x c.loop-j.j c.votes_there-sum.result c.votes_there-sum.ensures, count_small b.s.now b.n b.bins c.args.k c.args.x (c.loop-j.j + 1) (omega arith))

pub loop-j-preserved : goal.loop-j-preserved
loop-j-preserved c =
    let b = c.args.self in
    omega (arith, c.loop-j.invariant, count-more b.s.now c.args.k c.args.x c.loop-j.j c.votes_there-sum.result c.votes_there-sum.ensures)
