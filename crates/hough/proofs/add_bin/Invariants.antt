use Prim.Native.Nat.{◌*◌}
use lib.ListN.{take}
use Rattle.hough.specs.Limits.{Kept}
use Rattle.hough.proofs.Pairs.{Turned}
use Rattle.hough.proofs.add_bin.Given as goal

abbrev pub invariant-loop-j : goal.invariant-loop-j
invariant-loop-j l = Kept l.fn.s l.s l.n × Turned (take (3 * l.n) l.fn.s) l.tol l.i l.j l.s (3 * l.n) l.sum
