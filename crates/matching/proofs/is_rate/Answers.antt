-- `matching::is_rate` meets its contract. Assumes nothing.
use Rattle.std.proofs.Common.{◌≡◌, ℕ, zero, suc, ◌*◌, ◌<◌, true, false, ltb, ℤ, pos, sym, refl, ap, ◌∙◌, subst, true≢false, zero-lt-suc, mul-pos, zero-mul, lt→ltb}
use mathlib.Core.Bool.{false≢true}
use lib.Ieee.{Float, nan, inf, fin, lt, div, of_bits, up, down}
use lib.Ieee.Bits.{is_true}
use lib.Ieee.Fits.{up_pos}
use lib.Ieee.Positive.{positive}
use Rattle.matching.proofs.is_rate.Goals as goal

-- above zero, what is below the infinity is finite
finite : (x : Float) → lt (fin false 0 (pos 0)) x ≡ true → lt x (inf false) ≡ positive x
unfolding lt
finite nan h = refl
finite (inf true) h = absurd (false≢true h)
finite (inf false) h = refl
finite (fin true m e) h = absurd (false≢true h)
finite (fin false zero e) h = absurd (false≢true (sym (nought e) ∙ h))
  where
    nought : (e : ℤ) → ltb (0 * 1 * down e) (0 * up e * 1) ≡ false
    nought e = ap (λ (x : ℕ). ltb x (0 * up e * 1)) (zero-mul (down e)) ∙ ap (λ (x : ℕ). ltb 0 (x * 1)) (zero-mul (up e))
finite (fin false (suc m) e) h = sym (is_true (ltb 0 (suc m)) (lt→ltb 0 (suc m) (zero-lt-suc m)))

not-above : (x : Float) → lt (fin false 0 (pos 0)) x ≡ false → false ≡ positive x
unfolding lt
not-above nan h = refl
not-above (inf s) h = refl
not-above (fin true m e) h = refl
not-above (fin false zero e) h = refl
not-above (fin false (suc m) e) h =
    absurd (true≢false (sym (is_true (ltb (0 * 1 * down e) (suc m * up e * 1)) (lt→ltb (0 * 1 * down e) (suc m * up e * 1) (some m (up e) (down e) (up_pos e)))) ∙ h))
  where
    some : (m u d : ℕ) → 0 < u → 0 * 1 * d < suc m * u * 1
    some m u d U = subst (λ (k : ℕ). k < suc m * u * 1) (sym (zero-mul d)) (mul-pos (mul-pos (zero-lt-suc m) U) (zero-lt-suc 0))

pub returns-then-x : goal.returns-then-x
unfolding of_bits div
returns-then-x c = finite c.args.x c.if-x.true

pub returns-else-x : goal.returns-else-x
unfolding of_bits
returns-else-x c = c.if-x.false ∙ not-above c.args.x c.if-x.false
