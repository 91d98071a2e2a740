-- Products by a power of two that lose nothing (`scaled-up`), what a value is as an unsigned integer by any fraction that it equals (`cut-of-value`),
-- and a bound on what `round` gives (`grid-under`). Assumes nothing.
use Rattle.std.proofs.Common.{◌≡◌, ℕ, zero, suc, ◌+◌, ◌-◌, ◌*◌, ◌/◌, ◌%◌, ◌^◌, ◌<◌, ◌≤◌, min, Bool, true, false, ◌&&◌, T, eqb, ltb, leb, ℤ, pos, negsuc, sym, refl, ap, ◌∙◌, subst, true≢false, le_trans, le_of_eq, lt_of_lt_of_le, lt_of_le_of_lt, lt_irrefl, mul-le-mul_right, zero-lt-suc, mul_assoc, mul_comm, div-lt_iff_lt-mul, lt_of_mul-lt-mul_right, mul-lt-mul_of_pos_right, one-mul, lt_of_not-le, mul-one, mul_right_comm, not-le_of_lt, mul_left_comm, arith, ltb→lt, lt→ltb, leb→le, pow_pos, pow_mono, pow-add}
use lib.Pow.{pow-lt}
use lib.Ieee.{Float, nan, inf, fin, Format, prec, emax, low, up, down, size, round, mul, lt, fits, to_unsigned}
use lib.Ieee.Digits.{size-le}
use lib.Ieee.Fits.{down_pos, and_l, and_r}
use lib.Ieee.Exact.{HasValue, round_exact}
use lib.Ieee.Nearest.{div_same}
use lib.Ieee.Order.{drop}
use lib.Ieee.Scale.{grid, overflow}
use lib.Ieee.Positive.{num, den, positive, own_value, mul_at}
use Rattle.floats.proofs.Round.{kept-le}

-- ---- powers

pub pow_le_back : (i p : ℕ) → 2 ^ i ≤ 2 ^ p → i ≤ p
pow_le_back i p h = le-back i p (lt_of_not-le (λ (g : suc p ≤ i). not-le_of_lt (pow-lt g) h))
  where
    le-back : (i p : ℕ) → i < suc p → i ≤ p
    le-back i p h = omega arith

-- 2 ^ e times 2 ^ l is a whole power of two where e is -l at least
pub whole-power : (e : ℤ) (l : ℕ) → down e ≤ 2 ^ l → (j : ℕ) × (up e * 2 ^ l ≡ 2 ^ j * down e)
whole-power (pos k) l h = (k + l, sym (pow-add 2 k l) ∙ sym (mul-one (2 ^ (k + l))))
whole-power (negsuc k) l h = (l - suc k, one-mul (2 ^ l) ∙ ap (λ (x : ℕ). 2 ^ x) (back l (suc k) (pow_le_back (suc k) l h)) ∙ pow-add 2 (l - suc k) (suc k))
  where
    back : (l k : ℕ) → k ≤ l → l ≡ l - k + k
    back l k h = omega arith

-- ---- what a format says of a value that it holds

pub few : (f : Format) (s : Bool) (m : ℕ) (e : ℤ) → 0 < m → T (fits f (fin s m e)) → m < 2 ^ prec f
unfolding fits
few f s zero e p t = absurd (lt_irrefl 0 p)
few f s (suc m) e p t =
    let a = eqb (suc m % 2) 1 in
    let b = ltb (suc m) (2 ^ prec f) in
    let c = leb (down e) (2 ^ low f) in
    let d = ltb (suc m * up e) (2 ^ suc (emax f) * down e) in
    ltb→lt (suc m) (2 ^ prec f) (and_r a b (and_l (a && b) c (and_l (a && b && c) d t)))

pub not_low : (f : Format) (s : Bool) (m : ℕ) (e : ℤ) → 0 < m → T (fits f (fin s m e)) → down e ≤ 2 ^ low f
unfolding fits
not_low f s zero e p t = absurd (lt_irrefl 0 p)
not_low f s (suc m) e p t =
    let a = eqb (suc m % 2) 1 in
    let b = ltb (suc m) (2 ^ prec f) in
    let c = leb (down e) (2 ^ low f) in
    let d = ltb (suc m * up e) (2 ^ suc (emax f) * down e) in
    leb→le (down e) (2 ^ low f) (and_r (a && b) c (and_l (a && b && c) d t))

-- ---- a value times 2 ^ t, where nothing overflows

power-value : (t : ℕ) → HasValue (fin false 1 (pos t)) false (2 ^ t) 1
power-value t = (refl, ap (λ (x : ℕ). x * 1) (one-mul (2 ^ t)))

module _ (f : Format) (t B : ℕ) (room : B + t ≤ suc (emax f)) where
  scaled-fin : (m : ℕ) (e : ℤ) → 0 < m → T (fits f (fin false m e)) → m * up e < 2 ^ B * down e → HasValue (round f false (m * up e * 2 ^ t) (down e)) false (m * up e * 2 ^ t) (down e)
  scaled-fin m e p F h =
      let w = whole-power e (low f) (not_low f false m e p F) in
      let j = w.0 + t in
      let is : m * up e * 2 ^ t * 2 ^ low f ≡ m * 2 ^ j * down e =
      mul_right_comm (m * up e) (2 ^ t) (2 ^ low f)
      ∙ ap (λ (x : ℕ). x * 2 ^ t) (mul_assoc m (up e) (2 ^ low f) ∙ ap (λ (x : ℕ). m * x) w.1 ∙ sym (mul_assoc m (2 ^ w.0) (down e)))
      ∙ mul_right_comm (m * 2 ^ w.0) (down e) (2 ^ t)
      ∙ ap (λ (x : ℕ). x * down e) (mul_assoc m (2 ^ w.0) (2 ^ t) ∙ ap (λ (x : ℕ). m * x) (sym (pow-add 2 w.0 t))) in
      let top : 2 ^ B * 2 ^ t * 2 ^ low f ≤ overflow f =
      le_trans (le_of_eq (ap (λ (x : ℕ). x * 2 ^ low f) (sym (pow-add 2 B t)) ∙ sym (pow-add 2 (B + t) (low f)))) (pow_mono (sum (B + t) (low f) (suc (emax f)) room)) in
      let under : m * 2 ^ j * down e < 2 ^ B * 2 ^ t * 2 ^ low f * down e =
      subst (λ (x : ℕ). x < 2 ^ B * 2 ^ t * 2 ^ low f * down e) is
      (lt_of_lt_of_le (mul-lt-mul_of_pos_right (mul-lt-mul_of_pos_right h (pow_pos t)) (pow_pos (low f)))
      (le_of_eq (simp (mul_assoc, mul_comm, mul_left_comm)))) in
      round_exact f false (m * up e * 2 ^ t) (down e) m j (down_pos e) (few f false m e p F) (lt_of_lt_of_le (lt_of_mul-lt-mul_right (down e) under) top) is
    where
      sum : (b l e : ℕ) → b ≤ e → b + l ≤ l + e
      sum b l e h = omega arith

  pub scaled-up : (x : Float) → T (fits f x) → T (positive x) → num x < 2 ^ B * den x → HasValue (mul f x (fin false 1 (pos t))) false (num x * 2 ^ t) (den x)
  scaled-up nan F p h = absurd p
  scaled-up (inf s) F p h = absurd p
  scaled-up (fin true m e) F p h = absurd p
  scaled-up (fin false m e) F p h =
      subst (λ (z : Float). HasValue z false (m * up e * 2 ^ t) (down e))
      (sym (mul_at f (fin false m e) (fin false 1 (pos t)) (m * up e) (down e) (2 ^ t) 1 p tt (down_pos e) (zero-lt-suc 0) (own_value (fin false m e) p) (power-value t)
      ∙ ap (λ (x : ℕ). round f false (m * up e * 2 ^ t) x) (mul-one (down e))))
      (scaled-fin m e (ltb→lt 0 m p) F h)

-- ---- a value as an unsigned integer, by a fraction that it equals

tidy : (n p d : ℕ) → n < p * d → n * 1 < 1 * p * d
tidy n p d h = subst (λ (k : ℕ). n * 1 < k * d) (sym (one-mul p)) (subst (λ (k : ℕ). k < p * d) (sym (mul-one n)) h)

some : (n d : ℕ) → 0 < d → 0 < 1 * d + n * 1
some n d h = omega arith

uncapped : (a c : ℕ) → a < c → min a (c - 1) ≡ a
uncapped a c h = omega arith

-- what `truncating_f64_to_u64` requires of x, and what it gives
abbrev pub Cut : Float → ℕ → Type 0
Cut x n = T (lt (fin true 1 (pos 0)) x) × T (lt x (fin false 1 (pos 64))) × (to_unsigned 64 x ≡ n)

pub cut-of-value : (x : Float) (a c : ℕ) → 0 < c → HasValue x false a c → a < 2 ^ 64 * c → Cut x (a / c)
unfolding lt to_unsigned
cut-of-value nan a c C v h = absurd v
cut-of-value (inf s) a c C v h = absurd v
cut-of-value (fin true m e) a c C v h = absurd (true≢false v.0)
cut-of-value (fin false m e) a c C v h =
    let n = m * up e in
    let d = down e in
    let under : n < 2 ^ 64 * d =
    lt_of_mul-lt-mul_right c
    (lt_of_le_of_lt (le_of_eq v.1) (lt_of_lt_of_le (mul-lt-mul_of_pos_right h (down_pos e)) (le_of_eq (mul_right_comm (2 ^ 64) c d)))) in
    let same : n / d ≡ a / c = div_same n d a c (down_pos e) C v.1 in (
      lt→ltb 0 (1 * d + n * 1) (some n d (down_pos e)),
      lt→ltb (n * 1) (1 * 2 ^ 64 * d) (tidy n (2 ^ 64) d under),
      ap (λ (k : ℕ). min k (2 ^ 64 - 1)) same ∙ uncapped (a / c) (2 ^ 64) ((div-lt_iff_lt-mul C).1 h),
    )

-- ---- a fraction below 2 ^ B units rounds to no more than 2 ^ B units

pub grid-under : (f : Format) (a c B : ℕ) → 0 < c → a * 2 ^ low f < 2 ^ B * c → prec f ≤ B → B < low f + suc (emax f) → grid f a c < overflow f
grid-under f a c B C h P top =
    let n = a * 2 ^ low f in
    lt_of_le_of_lt (mul-le-mul_right (2 ^ drop (prec f) n c) (kept-le (prec f) n c))
    (lt_of_le_of_lt (le_of_eq (sym (pow-add 2 (prec f) (drop (prec f) n c))))
    (lt_of_le_of_lt (pow_mono (within (size (n / c)) (prec f) B P (size-le (n / c) B ((div-lt_iff_lt-mul C).1 h)))) (pow-lt top)))
  where
    within : (z p b : ℕ) → p ≤ b → z ≤ b → p + (z - p) ≤ b
    within z p b h k = omega arith
