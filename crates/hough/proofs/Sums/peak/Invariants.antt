use Prim.Native.Nat.{◌*◌}
use lib.ListN.{take}
use Rattle.consolidate.specs.Runs.{Leads}
use Rattle.hough.specs.Hough.{hough_sum}
use Rattle.hough.proofs.Sums.peak.Given as goal

abbrev pub invariant-loop-i : goal.invariant-loop-i
invariant-loop-i l = Leads (hough_sum (take (3 * l.self.n) l.self.s.now) l.self.n l.self.tol) l.i l.best.votes l.best.at
