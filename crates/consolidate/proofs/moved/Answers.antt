use native.Mathlib.Omega.{arith}
use Rattle.consolidate.proofs.Sliding.{slide-fits, slid}
use Rattle.consolidate.proofs.moved.Goals as goal

pub overflow_add-result : goal.overflow_add-result
overflow_add-result g c = omega (arith, slide-fits (g.met.B.Ascending.few c.args.b) c.requires.2 c.advance-entered.ensures (rw c.saturating_sub.ensures at c.advance-left.ensures))

pub overflow_sub-result : goal.overflow_sub-result
overflow_sub-result g c = omega (arith, slide-fits (g.met.B.Ascending.few c.args.b) c.requires.2 c.advance-entered.ensures (rw c.saturating_sub.ensures at c.advance-left.ensures))

pub returns : goal.returns
returns g c =
    let few = g.met.B.Ascending.few c.args.b in
    let outs = rw c.saturating_sub.ensures at c.advance-left.ensures in
    (slid few c.requires.2 c.advance-entered.ensures outs, omega (arith, slide-fits few c.requires.2 c.advance-entered.ensures outs))
