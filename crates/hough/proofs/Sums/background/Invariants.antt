use Prim.Native.Nat.{◌*◌}
use lib.ListN.{take}
use Rattle.hough.proofs.Walking.{Behind}
use Rattle.hough.proofs.Sums.background.Given as goal

abbrev pub invariant-loop-i : goal.invariant-loop-i
invariant-loop-i l = Behind (take (3 * l.self.n) l.self.s.now) l.self.n l.self.tol l.a l.i l.b
