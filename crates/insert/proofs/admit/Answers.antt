-- `insert::admit` meets its contract. Assumes nothing.
use Rattle.std.proofs.Common.{◌≤◌, refl, sym, arith}
use Rattle.std.proofs.lemmas.List.{length-take-le}
use Rattle.std.proofs.lemmas.Result.{err_from_is_err_and}
use Rattle.soundness.specs.Scan.{words}
use Rattle.insert.proofs.Admission.{rooms, plannable, none-at-rows, none-of-them}
use Rattle.insert.proofs.Admitted.{plan-left, plan-refuses, plan-order, plan-overs, plan-allows, plan-stores}
use Rattle.insert.proofs.admit.Goals as goal

pub header-h-requires : goal.header-h-requires
header-h-requires c =
    let s = c.args in
    let D = c.requires in
    let w2 : 2 ≤ s.w = omega (arith, D.wide) in
    omega (arith, (rooms s.w (words s.refs.now s.posts.now s.stops.now) w2 D.is-listed D.is-sound).references)

pub overflow_cast-h : goal.overflow_cast-h
overflow_cast-h c =
    let s = c.args in
    let D = c.requires in
    let w2 : 2 ≤ s.w = omega (arith, D.wide) in
    let R = rooms s.w (words s.refs.now s.posts.now s.stops.now) w2 D.is-listed D.is-sound in
    omega (arith, c.header-h.ensures.rows, R.rows_fit, R.rows)

pub plan_insertion-requires-clause-plannable : goal.plan_insertion-requires-clause-plannable
plan_insertion-requires-clause-plannable c =
    let s = c.args in
    let D = c.requires in
    plannable s.w (words s.refs.now s.posts.now s.stops.now) (omega (arith, D.wide)) D.is-listed D.is-sound s.hashes.now D.formed c.header-h.result c.header-h.ensures

pub plan_insertion-requires-clause-others_value : goal.plan_insertion-requires-clause-others_value
plan_insertion-requires-clause-others_value c =
    let s = c.args in
    let D = c.requires in
    none-of-them s.w (words s.refs.now s.posts.now s.stops.now) (omega (arith, D.wide)) D.is-listed D.is-sound c.header-h.result c.header-h.ensures

pub returns-in_err-plan : goal.returns-in_err-plan
returns-in_err-plan c =
    let s = c.args in
    let m = words s.refs.now s.posts.now s.stops.now in
    let D = c.requires in
    let w2 : 2 ≤ s.w = omega (arith, D.wide) in
    let h = c.header-h in
    let P = plan-left h.result.postings h.result.rows s.posts.now s.refs.now s.posts.now s.stops.now
    (sym (none-at-rows s.w m w2 D.is-listed D.is-sound h.result h.ensures)) refl (sym h.ensures.stopped) c.in_err-plan.ensures in
    let p = err_from_is_err_and c.from_residual.result c.from_residual.ensures.1 in
    rw (p.1, p.2) (sym (plan-refuses s.rate D P c.in_err-plan.field-0.0 refl))

pub slice_bounds-write_recording-end : goal.slice_bounds-write_recording-end
slice_bounds-write_recording-end c =
    let s = c.args in
    let m = words s.refs.now s.posts.now s.stops.now in
    let D = c.requires in
    let w2 : 2 ≤ s.w = omega (arith, D.wide) in
    let h = c.header-h in
    let P = plan-left h.result.postings h.result.rows s.posts.now s.refs.now s.posts.now s.stops.now
    (sym (none-at-rows s.w m w2 D.is-listed D.is-sound h.result h.ensures)) refl (sym h.ensures.stopped) c.in_ok-plan.ensures in
    sym (length-take-le c.in_ok-plan.plan.hashes c.plan_insertion.new.order (plan-order s.rate D P c.in_ok-plan.plan refl))

pub slice_bounds-write_recording-end-2 : goal.slice_bounds-write_recording-end-2
slice_bounds-write_recording-end-2 c =
    let s = c.args in
    let m = words s.refs.now s.posts.now s.stops.now in
    let D = c.requires in
    let w2 : 2 ≤ s.w = omega (arith, D.wide) in
    let h = c.header-h in
    let P = plan-left h.result.postings h.result.rows s.posts.now s.refs.now s.posts.now s.stops.now
    (sym (none-at-rows s.w m w2 D.is-listed D.is-sound h.result h.ensures)) refl (sym h.ensures.stopped) c.in_ok-plan.ensures in
    sym (length-take-le c.in_ok-plan.plan.keys c.plan_insertion.new.overs (plan-overs s.rate D P c.in_ok-plan.plan refl))

pub write_recording-requires : goal.write_recording-requires
write_recording-requires c =
    let s = c.args in
    let m = words s.refs.now s.posts.now s.stops.now in
    let D = c.requires in
    let w2 : 2 ≤ s.w = omega (arith, D.wide) in
    let h = c.header-h in
    let P = plan-left h.result.postings h.result.rows s.posts.now s.refs.now s.posts.now s.stops.now
    (sym (none-at-rows s.w m w2 D.is-listed D.is-sound h.result h.ensures)) refl (sym h.ensures.stopped) c.in_ok-plan.ensures in
    (plan-allows s.rate D P c.in_ok-plan.plan refl, omega arith)

pub returns : goal.returns
returns c =
    let s = c.args in
    let m = words s.refs.now s.posts.now s.stops.now in
    let D = c.requires in
    let w2 : 2 ≤ s.w = omega (arith, D.wide) in
    let h = c.header-h in
    let P = plan-left h.result.postings h.result.rows s.posts.now s.refs.now s.posts.now s.stops.now
    (sym (none-at-rows s.w m w2 D.is-listed D.is-sound h.result h.ensures)) refl (sym h.ensures.stopped) c.in_ok-plan.ensures in
    let k = c.write_recording.ensures in
    plan-stores s.rate D P c.in_ok-plan.plan refl _ _ _ _ k.value k.refs_after k.posts_after k.stops_after
