use Prim.Native.Nat.{◌+◌, ◌-◌, ◌*◌, ◌≤◌, ◌<◌}
use mathlib.Core.Path.{◌≡◌}
use Rattle.hough.specs.Keys.{key, Ready, frame_tally}
use Rattle.hough.proofs.Offsets.slid_tally.Given as goal

abbrev pub invariant-loop-x : goal.invariant-loop-x
invariant-loop-x l =
    (l.x ≤ 2 * l.tol + 1)
    × (l.x < 2 * l.tol + 1 → Ready l.bins.s.now l.bins.n 0 (key l.bins.s.now l.self.i - l.tol + l.x) l.t)
    × (l.y ≡ frame_tally l.bins.s.now l.bins.n l.tol l.self.i l.x)

abbrev pub decreases-loop-x : goal.decreases-loop-x
decreases-loop-x l = 2 * l.tol + 1 - l.x
