use Prim.Native.Nat.{◌+◌, ◌-◌, min}
use mathlib.Core.Path.{◌≡◌}
use native.Mathlib.Omega.{arith}
use Rattle.maps.specs.Bins.{votes, place}
use Rattle.consolidate.proofs.Sliding.{next-is}
use Rattle.consolidate.proofs.Sweep.next_event.Goals as goal

pub returns : goal.returns
returns c =
    let p = c.place_or in
    let q = c.place_or-2 in
    let t = c.args.self in
    let b = t.bins in
    let e : c.min-2.result ≡ min (min (p.result - t.tol) (q.result + t.tol + 1)) t.width = omega arith in
    rw e
    (next-is (place b.s.now b.low) (votes b.s.now) b.n t.tol c.args.at t.width p.result q.result c.args.w b.placed.ascend c.requires.0 c.requires.1
    p.ensures.0.0 p.ensures.0.1 q.ensures.0.0 q.ensures.0.1)
