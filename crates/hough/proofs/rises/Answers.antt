use Prim.Native.Nat.{◌+◌, ◌*◌}
use mathlib.Core.Path.{refl}
use borrow.Author.Rules.{rules}
use borrow.Author.Tests.{lt-leb}
use lib.IntN.{pos}
use lib.ListN.{get_or}
use mir.Syntax.{w64}
use mir.Val.{SFits}
use mir.ValLaws.{to_z-of_z}
use Rattle.hough.proofs.rises.Goals as goal

pub returns : goal.returns
returns c =
    let l = c.args.s.now in
    let i = c.args.i in
    let a : SFits w64 (get_or l (3 * i) (pos 0)) = search rules in
    let b : SFits w64 (get_or l (3 * (i + 1)) (pos 0)) = search rules in
    let d : SFits w64 (get_or l (3 * i + 1) (pos 0)) = search rules in
    let e : SFits w64 (get_or l (3 * (i + 1) + 1) (pos 0)) = search rules in
    rw (c.unsigned_abs-a.ensures.value, c.unsigned_abs-b.ensures.value, to_z-of_z w64 _ a, to_z-of_z w64 _ b, to_z-of_z w64 _ d, to_z-of_z w64 _ e, lt-leb _ _ c.if-n-next.false) refl
