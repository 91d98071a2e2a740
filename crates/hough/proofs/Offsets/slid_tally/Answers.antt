use Prim.Native.Nat.{◌+◌, ◌-◌, ◌*◌}
use mathlib.Core.Path.{◌≡◌, ◌∙◌}
use native.Mathlib.Omega.{arith}
use Rattle.hough.specs.Hough.{merged}
use Rattle.hough.specs.Keys.{key, Around, Clear}
use Rattle.hough.proofs.Places.{keys}
use Rattle.hough.proofs.Walking.{ready-none, ready_on}
use Rattle.hough.proofs.Merging.{frame-close, around-merged, merged-none}
use Rattle.hough.proofs.Frames.{frames-none, frames-more, frames-gap, frames_small, frame_is}
use Rattle.hough.proofs.Offsets.slid_tally.Goals as goal

pub overflow_sub-start : goal.overflow_sub-start
overflow_sub-start c = let f = c.args.self in omega (arith, keys f.bins.s.now f.bins.n f.bins.bins f.i f.inside, c.key.ensures)

pub loop-x-init : goal.loop-x-init
loop-x-init c = (omega arith, (λ h. rw c.at_start-t.ensures (ready-none _ _ _ _)), c.none-y.ensures ∙ frames-none _ _ _ _)

pub overflow_add-start : goal.overflow_add-start
overflow_add-start c = let f = c.args.self in omega (arith, keys f.bins.s.now f.bins.n f.bins.bins f.i f.inside, c.key.ensures)

pub around-t-requires : goal.around-t-requires
around-t-requires c =
    let f = c.args.self in
    let k = keys f.bins.s.now f.bins.n f.bins.bins f.i f.inside in
    let u = c.loop-x-test.true in
    rw c.key.ensures (omega arith, omega arith, omega arith, c.loop-x.invariant.1 u)

pub with-y-requires : goal.with-y-requires
with-y-requires c =
    let f = c.args.self in
    let b = f.bins in
    let u = c.loop-x-test.true in
    let s = frames_small b.s.now b.n b.bins f.tol f.i f.reach f.inside c.loop-x.x c.loop-x.y c.loop-x.invariant.0 c.loop-x.invariant.2 in
    let z = frame-close b.s.now b.n b.bins f.tol f.i f.reach f.inside c.loop-x.x u in
    rw (frame_is b.s.now b.n b.bins f.tol f.i f.reach f.inside c.offset.result (record { sfits = c.offset.type_inv }) c.offset.ensures c.loop-x.x u)
    (omega arith, omega arith, omega arith)

pub overflow_add-start-in-loop-x : goal.overflow_add-start-in-loop-x
overflow_add-start-in-loop-x c = let f = c.args.self in omega (arith, keys f.bins.s.now f.bins.n f.bins.bins f.i f.inside, c.key.ensures)

pub next_step-x-requires : goal.next_step-x-requires
next_step-x-requires c =
    let f = c.args.self in
    let k = keys f.bins.s.now f.bins.n f.bins.bins f.i f.inside in
    let u = c.loop-x-test.true in
    let e = c.key.ensures in
    (omega arith, omega arith, omega arith, c.around-t.ensures.0)

pub loop-x-preserved : goal.loop-x-preserved
loop-x-preserved c =
    let f = c.args.self in
    let n = f.bins.n in
    let b = f.bins.bins in
    let l = f.bins.s.now in
    let x = c.loop-x.x in
    let r = c.next_step-x.result in
    let u = c.loop-x-test.true in
    let t = c.around-t.result in
    let v : Around l n 0 (key l f.i - f.tol + x) t = rw c.key.ensures at c.around-t.ensures.0 in
    let g : Clear l n (key l f.i - f.tol + x) t (2 * f.tol + 1 - x) r = rw c.key.ensures at c.next_step-x.ensures in
    let m : t.sum ≡ merged l n f.tol f.i x = c.around-t.ensures.1 ∙ around-merged l n b f.tol f.i f.reach f.inside x t u v in
    let z = frame_is l n b f.tol f.i f.reach f.inside c.offset.result (record { sfits = c.offset.type_inv }) c.offset.ensures x u in (
      omega (arith, g.few, u),
      (λ w. ready_on l n 0 (key l f.i - f.tol + x) (key l f.i - f.tol + (x + r)) t (omega arith) v),
      frames-gap l n f.tol f.i (x + 1) (x + r) c.with-y.result (omega (arith, g.some))
          (λ y h e. merged-none l n b f.tol f.i f.reach f.inside x r (2 * f.tol + 1 - x) y t v g (omega arith) e (omega (arith, g.few)))
          (frames-more l n f.tol f.i x _ _ c.loop-x.y c.with-y.result c.loop-x.invariant.2 m z c.with-y.ensures),
    )
