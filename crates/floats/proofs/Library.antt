-- The library's words for `abs`, a rounded cast and a flag as a number, as `specs/` and `proofs/` have them. Assumes nothing.
use Rattle.std.proofs.Common.{◌≡◌, Bool, true, false, cond, refl}
use mir.Val.{bool_byte}
use lib.Ieee.{Float, nan, inf, fin, binary32}
use Rattle.std.specs.Float.{float_with_sign, round_to_format}
use Rattle.floats.specs.Rounding.{narrow}
use Rattle.floats.specs.Selection.{abs}

pub signless-abs : (x : Float) → float_with_sign false x ≡ abs x
unfolding float_with_sign abs
signless-abs nan = refl
signless-abs (inf s) = refl
signless-abs (fin s m e) = refl

pub rounded-narrow : (x : Float) → round_to_format binary32 x ≡ narrow x
unfolding round_to_format narrow
rounded-narrow nan = refl
rounded-narrow (inf s) = refl
rounded-narrow (fin s m e) = refl

pub flag-is : (b : Bool) → bool_byte b ≡ cond b 1 0
flag-is true = refl
flag-is false = refl
