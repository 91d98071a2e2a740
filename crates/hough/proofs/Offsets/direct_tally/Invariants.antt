use mathlib.Core.Path.{◌≡◌}
use Rattle.hough.specs.Keys.{frame_tally}
use Rattle.hough.proofs.Offsets.direct_tally.Given as goal

abbrev pub invariant-loop-x : goal.invariant-loop-x
invariant-loop-x l = l.y ≡ frame_tally l.bins.s.now l.bins.n l.tol l.self.i l.x
