-- `matching::milliseconds` meets its contract. Assumes nothing.
use Rattle.std.proofs.Common.{◌≡◌, true, not, T, ℤ, sym, refl, ap, ◌∙◌, subst, w64}
use lib.Ieee.{Float, nan, inf, fin, binary64, fits, is_nan, mul, div, of_int, of_bits}
use lib.Ieee.Fits.{and_i, fits_widens}
use lib.Ieee.Positive.{positive}
use mir.ValLaws.{to_z-of_z}
use Rattle.floats.proofs.Numbers.{yes}
use Rattle.matching.specs.Offsets.{thousand}
use Rattle.matching.proofs.milliseconds.Goals as goal

no_nan : (x : Float) → positive x ≡ true → T (not (is_nan x))
unfolding is_nan
no_nan nan h = subst T (sym h) tt
no_nan (inf s) h = tt
no_nan (fin s m e) h = tt

-- the constant of the code
product : (y rate : Float) → div binary64 (mul binary64 y (of_bits binary64 4652007308841189376)) rate ≡ div binary64 (mul binary64 y thousand) rate
unfolding of_bits
product y rate = refl

pub float_to_float-result : goal.float_to_float-result
float_to_float-result c =
    let x = c.args.frames_per_sec in
    and_i (fits binary64 x) (not (is_nan x)) (fits_widens x (yes c.well_formed.1.0.1)) (no_nan x c.requires)

pub returns : goal.returns
returns c =
    let rate = c.args.frames_per_sec in
    product c.nearest_i64_to_f64.result rate
    ∙ ap (λ (y : Float). div binary64 (mul binary64 y thousand) rate)
    (c.nearest_i64_to_f64.ensures ∙ ap (λ (z : ℤ). of_int binary64 z) (to_z-of_z w64 c.args.frames c.ranges.frames))
