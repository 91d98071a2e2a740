use mathlib.Core.Path.{◌∙◌}
use native.Mathlib.Omega.{arith}
use Rattle.hough.proofs.Merging.{frame-close}
use Rattle.hough.proofs.Frames.{frames-none, frames-more, frames_small, frame_is, count-merged}
use Rattle.hough.proofs.Offsets.direct_tally.Goals as goal

pub loop-x-init : goal.loop-x-init
loop-x-init c = c.none-y.ensures ∙ frames-none _ _ _ _

pub with-y-requires : goal.with-y-requires
with-y-requires c =
    let f = c.args.self in
    let b = f.bins in
    let u = c.loop-x-test.true in
    let s = frames_small b.s.now b.n b.bins f.tol f.i f.reach f.inside c.loop-x.x c.loop-x.y (omega arith) c.loop-x.invariant in
    let z = frame-close b.s.now b.n b.bins f.tol f.i f.reach f.inside c.loop-x.x u in
    rw (frame_is b.s.now b.n b.bins f.tol f.i f.reach f.inside c.offset.result (record { sfits = c.offset.type_inv }) c.offset.ensures c.loop-x.x u)
    (omega arith, omega arith, omega arith)

pub loop-x-preserved : goal.loop-x-preserved
loop-x-preserved c =
    let f = c.args.self in
    let b = f.bins in
    let u = c.loop-x-test.true in
    let m = count-merged b.s.now b.n b.bins f.tol f.i f.reach f.inside c.loop-x.x c.scale-k.result c.place.result c.direct_at.result u c.scale-k.ensures.0 c.place.ensures.0 c.direct_at.ensures in
    let z = frame_is b.s.now b.n b.bins f.tol f.i f.reach f.inside c.offset.result (record { sfits = c.offset.type_inv }) c.offset.ensures c.loop-x.x u in
    frames-more b.s.now b.n f.tol f.i c.loop-x.x _ _ c.loop-x.y c.with-y.result c.loop-x.invariant m z c.with-y.ensures
