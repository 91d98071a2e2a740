use native.Mathlib.Omega.{arith}
use Rattle.consolidate.proofs.Sliding.{passing-fits, passing-more}
use Rattle.consolidate.proofs.advance.Goals as goal

pub overflow_add-sum : goal.overflow_add-sum
overflow_add-sum g c = omega (arith, passing-fits c.loop-i.invariant (g.met.B.Ascending.few c.args.b) (omega arith), c.votes-sum.ensures)

pub loop-i-preserved : goal.loop-i-preserved
loop-i-preserved g c = rw c.votes-sum.ensures (passing-more c.loop-i.invariant (omega arith) (omega arith))
