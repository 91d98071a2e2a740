use Prim.Native.Nat.{◌+◌, ◌*◌}
use mathlib.Core.Path.{refl}
use borrow.Author.Rules.{rules}
use lib.IntN.{pos}
use lib.ListN.{get_or}
use mir.Syntax.{w64}
use mir.Val.{SFits}
use mir.ValLaws.{to_z-of_z}
use Rattle.consolidate.proofs.in_span.Goals as goal

pub returns : goal.returns
returns c =
    let l = c.args.s.now in
    let i = c.args.i in
    let d : SFits w64 (get_or l (2 * i) (pos 0)) = search rules in
    let v : SFits w64 (get_or l (2 * i + 1) (pos 0)) = search rules in
    rw (c.rises.ensures, c.unsigned_abs-v.ensures.value, to_z-of_z w64 _ d, to_z-of_z w64 _ v, to_z-of_z w64 c.args.low c.ranges.low, to_z-of_z w64 c.args.high c.ranges.high) refl
