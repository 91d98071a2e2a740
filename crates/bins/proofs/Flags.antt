-- A test as a number. Assumes nothing.
use mathlib.Core.Path.{◌≡◌, refl}
use mathlib.Core.Bool.{Bool, true, false}
use mir.Val.{bool_byte}
use Rattle.maps.specs.Sums.{when}

pub flag-is : (b : Bool) → bool_byte b ≡ when b 1
flag-is true = refl
flag-is false = refl
