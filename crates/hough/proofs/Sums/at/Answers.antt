use Prim.Native.Nat.{◌*◌}
use native.Mathlib.Omega.{arith}
use mathlib.Core.Path.{refl, ap, ◌∙◌}
use lib.ListN.{take}
use lib.IntN.{pos}
use Rattle.maps.proofs.Words.{word, read_is}
use Rattle.hough.specs.Hough.{hough_sum}
use Rattle.hough.proofs.Places.{hough-small}
use Rattle.hough.proofs.Sums.at.Goals as goal

pub returns : goal.returns
returns c =
    let b = c.args.self in
    let l = take (3 * b.n) b.s.now in
    let small = hough-small l b.n b.roomy.bins b.tol c.args.i b.n (omega arith) in
    rw (ap word (b.summed c.args.i c.requires) ∙ read_is (pos (hough_sum l b.n b.tol c.args.i)) (omega arith)) (refl, small)
