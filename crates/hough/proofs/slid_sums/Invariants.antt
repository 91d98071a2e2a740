use Prim.Native.Nat.{◌*◌, ◌<◌}
use lib.ListN.{take}
use Rattle.hough.specs.Hough.{hough_sum}
use Rattle.hough.specs.Limits.{Written, Kept}
use Rattle.hough.specs.Keys.{key, Ready}
use Rattle.hough.proofs.slid_sums.Given as goal

abbrev pub invariant-loop-i : goal.invariant-loop-i
invariant-loop-i l =
    Kept l.fn.s l.s l.n
    × (l.i < l.n → Ready (take (3 * l.n) l.fn.s) l.n l.tol (key (take (3 * l.n) l.fn.s) l.i) l.t)
    × Written (hough_sum (take (3 * l.n) l.fn.s) l.n l.tol) l.i l.s (3 * l.n)
