use mathlib.Core.Path.{◌∙◌}
use native.Mathlib.Omega.{arith}
use lib.IntN.{pos, ◌*ℤ◌, ◌-ℤ◌}
use mir.Syntax.{w64}
use mir.Val.{SFits}
use mir.ValLaws.{to_z-of_z, to_z_pos}
use Rattle.signed.proofs.Sizes.{fits-abs, abs-sub, abs-twice}
use Rattle.consolidate.proofs.nearest_mean.Goals as goal

pub returns : goal.returns
returns c =
    let z = c.args.sum in
    let m = c.args.m in
    let twice : SFits w64 (pos 2 *ℤ z) = fits-abs (pos 2 *ℤ z) (omega (arith, abs-twice z)) in
    let num : SFits w64 (pos 2 *ℤ z -ℤ pos m) = fits-abs (pos 2 *ℤ z -ℤ pos m) (omega (arith, abs-sub (pos 2 *ℤ z) (pos m), abs-twice z)) in
    to_z-of_z w64 c.ceil_div.result (record { sfits = c.ceil_div.type_inv })
    ∙ rw (to_z-of_z w64 z c.ranges.sum, to_z-of_z w64 (pos 2 *ℤ z) twice, to_z_pos w64 m (omega arith), to_z-of_z w64 (pos 2 *ℤ z -ℤ pos m) num) at c.ceil_div.ensures
