use Prim.Native.Nat.{◌+◌, ◌*◌}
use mathlib.Core.Path.{◌≡◌, refl}
use native.Mathlib.Omega.{arith}
use borrow.Author.Rules.{rules}
use borrow.Author.Tests.{le-leb}
use lib.IntN.{ℤ, pos, negsuc}
use lib.Signed.{non_neg, le_z}
use lib.ListN.{get_or}
use mir.Syntax.{w64}
use mir.Val.{SFits}
use mir.ValLaws.{to_z-of_z}
use Rattle.hough.proofs.bin_ok.Goals as goal

natural : (z : ℤ) → le_z (pos 0) z ≡ non_neg z
natural (pos n) = le-leb 0 n (omega arith)
natural (negsuc n) = refl

pub returns : goal.returns
returns c =
    let l = c.args.s.now in
    let i = c.args.i in
    let a : SFits w64 (get_or l (3 * i) (pos 0)) = search rules in
    let d : SFits w64 (get_or l (3 * i + 1) (pos 0)) = search rules in
    let v : SFits w64 (get_or l (3 * i + 2) (pos 0)) = search rules in
    rw (
      c.rises.ensures,
      c.unsigned_abs-close.ensures.value,
      c.unsigned_abs.ensures.value,
      to_z-of_z w64 _ a,
      to_z-of_z w64 _ d,
      to_z-of_z w64 _ v,
      natural (get_or l (3 * i) (pos 0)),
      natural (get_or l (3 * i + 2) (pos 0)),
    ) refl
