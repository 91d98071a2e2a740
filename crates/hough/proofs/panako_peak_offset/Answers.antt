use Prim.Native.Nat.{◌+◌, ◌*◌}
use native.Mathlib.Omega.{arith}
use mir.Syntax.{w64}
use mir.Val.{SFits}
use mir.ValLaws.{to_z-of_z}
use Rattle.hough.proofs.Places.{keys_up}
use Rattle.hough.proofs.Frames.{frames_small, frames-offset}
use Rattle.hough.proofs.panako_peak_offset.Goals as goal

pub invariant_of-bins : goal.invariant_of-bins
invariant_of-bins c = record { bins = c.requires.0; up = keys_up _ _ c.requires.0 }

pub mode-requires : goal.mode-requires
mode-requires c =
    let s = frames_small _ _ c.requires.0 c.args.tol c.args.i c.requires.1 c.requires.2 (2 * c.args.tol + 1) c.tally-y.result (omega arith) c.tally-y.ensures in
    (omega arith, omega arith, (frames-offset _ _ _ _ c.tally-y.result c.tally-y.ensures).1)

pub returns : goal.returns
returns c =
    let f : SFits w64 c.unwrap_or.result = record { sfits = c.unwrap_or.type_inv } in
    let g : SFits w64 c.offset.result = record { sfits = c.offset.type_inv } in
    rw (to_z-of_z w64 c.unwrap_or.result f, c.unwrap_or.ensures, c.mode.ensures, to_z-of_z w64 c.offset.result g, c.offset.ensures) (frames-offset _ _ _ _ c.tally-y.result c.tally-y.ensures).0
