use mathlib.Core.Path.{◌∙◌}
use native.Mathlib.Omega.{arith}
use Rattle.hough.proofs.Places.{keys, hough-small}
use Rattle.hough.proofs.Walking.{around-sum}
use Rattle.hough.proofs.Keyed.stepped.Goals as goal

pub around-requires : goal.around-requires
around-requires c =
    let b = c.args.self in
    let k = keys b.s.now b.n b.bins c.args.i c.requires.1 in
    rw c.key.ensures (c.requires.0, omega arith, omega arith, c.requires.2)

pub returns : goal.returns
returns c =
    let b = c.args.self in
    let v = rw c.key.ensures at c.around.ensures.0 in
    let e = c.around.ensures.1 ∙ around-sum b.s.now b.n c.args.tol b.bins c.args.i c.around.result c.requires.0 c.requires.1 v in
    (v, e, omega (arith, e, hough-small b.s.now b.n b.bins c.args.tol c.args.i b.n (omega arith)))
