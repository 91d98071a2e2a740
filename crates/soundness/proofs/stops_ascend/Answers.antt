-- `soundness::stops_ascend` meets its contract. Assumes nothing.
use Rattle.std.proofs.Common.{◌≡◌, ◌+◌, ◌-◌, ◌≤◌, ◌<◌, true, sym, arith, length, get_or, subst}
use Rattle.lists.specs.Every.{every}
use Rattle.lists.proofs.Every.{every-none, every_more, every-fail}
use Rattle.model.specs.Soundness.{stopped_step}
use Rattle.soundness.specs.Scan.{stops_ascend}
use Rattle.soundness.proofs.Stopped.{step-yes, step-no}
use Rattle.soundness.proofs.stops_ascend.Goals as goal

pub returns-then-stops-i : goal.returns-then-stops-i
unfolding stops_ascend
returns-then-stops-i c =
    let i = c.loop-i.i in
    let e : i - 1 + 1 ≡ i = omega arith in
    let h : get_or c.args.stops.now (i - 1 + 1) 0 ≤ get_or c.args.stops.now (i - 1) 0 = rw e c.if-stops-i.true in
    sym (every-fail (stopped_step c.args.stops.now) _ (i - 1) (omega arith) (step-no _ _ h))

pub loop-i-preserved : goal.loop-i-preserved
loop-i-preserved c =
    let i = c.loop-i.i in
    let e : i - 1 + 1 ≡ i = omega arith in
    let h : get_or c.args.stops.now (i - 1) 0 < get_or c.args.stops.now (i - 1 + 1) 0 = rw e c.if-stops-i.false in
    let f : i - 1 + 1 ≡ i + 1 - 1 = omega arith in
    (subst (λ m. every m (stopped_step c.args.stops.now) ≡ true) f (every_more (stopped_step c.args.stops.now) (i - 1) c.loop-i.invariant.0 (step-yes _ _ h)), omega arith)

pub returns : goal.returns
unfolding stops_ascend
returns c =
    let e : c.loop-i.i - 1 ≡ length c.args.stops.now - 1 = omega (arith, c.loop-i.invariant.1, c.loop-i-test.false) in
    sym (subst (λ m. every m (stopped_step c.args.stops.now) ≡ true) e c.loop-i.invariant.0)

pub loop-i-init : goal.loop-i-init
loop-i-init c = (every-none _, omega arith)
