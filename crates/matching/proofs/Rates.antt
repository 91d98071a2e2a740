-- What the proof of `frames_per_sec_compatible` cites. Assumes nothing.
use Rattle.std.proofs.Common.{◌≡◌, Bool, true, false, ◌&&◌, sym, refl, ap}
use lib.Ieee.{Float, nan, inf, fin, binary32, sub, mul, of_bits, le}
use lib.Ieee.Positive.{positive}
use Rattle.floats.specs.Selection.{abs, maximum}
use Rattle.floats.proofs.Numbers.{yes}
use Rattle.matching.specs.Rates.{thousandth, rates_agree}

pub thousandth-is : of_bits binary32 981668463 ≡ thousandth
unfolding of_bits
thousandth-is = refl

-- a rate is its own size
pub positive-abs : (x : Float) → positive x ≡ true → abs x ≡ x
unfolding abs
positive-abs nan h = refl
positive-abs (inf s) h = absurd (yes h)
positive-abs (fin true m e) h = absurd (yes h)
positive-abs (fin false m e) h = refl

-- both are rates: d is the size of the difference, l the larger
pub agree-both : (a b d l : Float) → positive a ≡ true → positive b ≡ true → d ≡ abs (sub binary32 a b) → l ≡ maximum (abs a) (abs b) → le d (mul binary32 thousandth l) ≡ rates_agree a b
unfolding rates_agree
agree-both a b d l p q ed el = rw (p, q, ed, el, positive-abs a p, positive-abs b q)

pub agree-not-first : (a b : Float) → positive a ≡ false → false ≡ rates_agree a b
unfolding rates_agree
agree-not-first a b p = rw p

neither : (x y : Bool) → y ≡ false → false ≡ (x && y)
neither true y p = sym p
neither false y p = refl

pub agree-not-second : (a b : Float) → positive b ≡ false → false ≡ rates_agree a b
unfolding rates_agree
agree-not-second a b p = ap (λ (x : Bool). x && le (abs (sub binary32 a b)) (mul binary32 thousandth (maximum a b))) (neither (positive a) (positive b) p)
