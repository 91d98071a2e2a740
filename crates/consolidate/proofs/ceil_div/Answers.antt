use Prim.Native.Nat.{◌+◌, ◌/◌, ◌%◌, min}
use mathlib.Core.Path.{◌∙◌}
use native.Mathlib.Omega.{arith}
use native.Mathlib.Nat.{div-le_self}
use lib.IntN.{nat_abs}
use mir.Syntax.{w64}
use mir.ValLaws.{to_z-of_z, to_z_pos}
use Rattle.consolidate.proofs.Quotients.{ceil-above}
use Rattle.consolidate.proofs.ceil_div.Goals as goal

pub returns-then-num-gt0 : goal.returns-then-num-gt0
returns-then-num-gt0 c =
    let back = to_z-of_z w64 c.args.num c.ranges.num in
    let a = nat_abs c.args.num in
    rw (rw back at c.div_ceil.ensures)
    (to_z_pos w64 (a / c.args.den + min 1 (a % c.args.den)) (omega (arith, div-le_self a c.args.den)) ∙ ceil-above c.args.num c.args.den c.requires.1 (rw back at c.if-num-gt0.true))
