use native.Mathlib.Omega.{arith}
use Rattle.consolidate.proofs.Peaks.{step-sums, step_small, stepped}
use Rattle.consolidate.proofs.Sweep.step.Goals as goal

pub overflow_add-result : goal.overflow_add-result
overflow_add-result c =
    let few = c.args.self.bins.placed.sum in
    let S = c.requires.1 in
    let C = c.moved-window.ensures.0 in
    let N = c.next_event-next.ensures in
    omega (arith, step-sums few S C N, step_small few S C N, N.most)

pub returns : goal.returns
returns c =
    let N = c.next_event-next.ensures in
    (rw c.with.ensures (stepped c.args.self.bins.placed.sum c.requires.1 c.moved-window.ensures.0 N), N.on)
