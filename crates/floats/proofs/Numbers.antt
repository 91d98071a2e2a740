-- Which operations give a number, and the test for one. Assumes nothing.
use Rattle.std.proofs.Common.{◌≡◌, ℕ, zero, suc, ◌+◌, ◌*◌, ◌^◌, Bool, true, false, cond, not, ◌&&◌, T, eqb, ltb, sym, refl, ap, subst}
use lib.Dec.{eqb_refl}
use lib.Ieee.{Float, nan, inf, fin, Format, prec, low, emax, up, down, odd, units, round, ne, is_nan}
use lib.Ieee.Bits.{is_true}
use lib.Ieee.Fits.{round_is}

-- a Bool that is known
pub yes : {b : Bool} → b ≡ true → T b
yes h = subst T (sym h) tt

pub no : {b : Bool} → b ≡ false → T (not b)
no h = subst (λ (a : Bool). T (not a)) (sym h) tt

-- `x != x` tests for a NaN
same : (a : ℕ) → not (eqb a a && true) ≡ false
same a = ap (λ (b : Bool). not (b && true)) (is_true (eqb a a) (eqb_refl a))

pub ne-self : (x : Float) → ne x x ≡ is_nan x
unfolding ne is_nan
ne-self nan = refl
ne-self (inf true) = refl
ne-self (inf false) = refl
ne-self (fin true m e) = same (m * up e * down e)
ne-self (fin false m e) = same (m * up e * down e)

-- `round` gives no NaN
odd_number : (d : ℕ) (s : Bool) (q k l : ℕ) → T (not (is_nan (odd d s q k l)))
unfolding odd is_nan
odd_number d s zero k l = tt
odd_number d s (suc q) k l = tt

units_number : (f : Format) (s : Bool) (q k : ℕ) → T (not (is_nan (units f s q k)))
unfolding units is_nan
units_number f s q k = go (ltb (q * 2 ^ k) (2 ^ (low f + suc (emax f))))
  where
    go : (b : Bool) → T (not (is_nan (cond b (odd (suc (prec f)) s q k (low f)) (inf s))))
    go true = odd_number (suc (prec f)) s q k (low f)
    go false = tt

pub round_number : (f : Format) (s : Bool) (a c : ℕ) → T (not (is_nan (round f s a c)))
round_number f s a c = subst (λ (x : Float). T (not (is_nan x))) (sym (round_is f s a c)) (units_number f s _ _)
