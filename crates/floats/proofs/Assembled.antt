-- A float by its fields: the exponent's field with the digits added to it, the leading one among them. Assumes nothing.
use Rattle.std.proofs.Common.{◌≡◌, ℕ, suc, ◌+◌, ◌-◌, ◌*◌, ◌/◌, ◌%◌, ◌^◌, ◌<◌, ◌≤◌, Bool, false, not, T, sym, refl, ap, ◌∙◌, subst, inl, inr, le_of_eq, le_refl, lt_of_lt_of_le, mul-le-mul_right, mod-eq_of_lt, mul_assoc, suc-mul, mul_comm, eq-or-lt_of_le, arith, pow_pos, ne_eqb}
use native.Mathlib.Nat.{pow-succ', mul-add-mod_self_right, mul-add-div_right, div-eq_of_lt}
use lib.Ieee.{Float, Format, binary32, binary64, prec, emax, low, hid, ones, top, odd, round, of_bits, of_fields, is_nan, nan_bits}
use lib.Ieee.Bits.{of_bits-fits, nan_bits_is}
use lib.Ieee.Fits.{round-fits, two}
use lib.Ieee.Exact.{HasValue, odd_sign}
use lib.Ieee.Nearest.{closest}
use borrow.Author.Tests.{lt-leb}
use Rattle.floats.proofs.Numbers.{round_number}
use Rattle.floats.proofs.Round.{value-unique, few-digits, all_digits, digits_value}

twice_hid : (f : Format) → 2 ^ prec f ≡ 2 * hid f
twice_hid binary32 = refl
twice_hid binary64 = refl

-- exponent's field x + 1, and q with its leading digit, which adds one to the field
module _ (f : Format) (x q : ℕ) (X : suc x < ones f) (lo : hid f ≤ q) (hi : q < 2 * hid f) where
  apart : x * hid f + q ≡ suc x * hid f + (q - hid f)
  apart = sym (ap (λ (z : ℕ). z + (q - hid f)) (suc-mul x (hid f)) ∙ join (x * hid f) (hid f) q lo)
    where
      join : (a h q : ℕ) → h ≤ q → a + h + (q - h) ≡ a + q
      join a h q l = omega arith

  rest : q - hid f < hid f
  rest = less (hid f) q lo hi
    where
      less : (h q : ℕ) → h ≤ q → q < 2 * h → q - h < h
      less h q l g = omega arith

  under : suc x * hid f + (q - hid f) < top f
  under = lt_of_lt_of_le (next (suc x * hid f) (suc (suc x) * hid f) (hid f) (q - hid f) (suc-mul (suc x) (hid f)) rest) (enough (suc (suc x)) (ones f) (hid f) X)
    where
      next : (a b h t : ℕ) → b ≡ a + h → t < h → a + t < b
      next a b h t e l = omega arith

      enough : (a o h : ℕ) → a ≤ o → a * h ≤ h * suc o
      enough a o h l = omega (arith, mul-le-mul_right h l, mul_comm h (suc o), suc-mul o h)

  field : (suc x * hid f + (q - hid f)) % top f / hid f ≡ suc x
  field = ap (λ (z : ℕ). z / hid f) (mod-eq_of_lt under) ∙ mul-add-div_right (pow_pos (prec f - 1)) (suc x) (q - hid f) ∙ plus (suc x) ((q - hid f) / hid f) (div-eq_of_lt rest)
    where
      plus : (a b : ℕ) → b ≡ 0 → a + b ≡ a
      plus a b e = omega arith

  digits : (suc x * hid f + (q - hid f)) % hid f ≡ q - hid f
  digits = mul-add-mod_self_right (suc x) (hid f) (q - hid f) ∙ mod-eq_of_lt rest

  all : hid f + (q - hid f) ≡ q
  all = join (hid f) q lo
    where
      join : (h q : ℕ) → h ≤ q → h + (q - h) ≡ q
      join h q l = omega arith

  fields : of_bits f (x * hid f + q) ≡ odd (prec f) false q x (low f)
  unfolding of_bits of_fields
  fields = rw apart (rw (lt-leb (top f) (suc x * hid f + (q - hid f)) under, field, digits, ne_eqb (suc x) (ones f) (differ (suc x) (ones f) X), all))
    where
      differ : (a b : ℕ) → a < b → a ≡ b → ⊥
      differ a b l e = omega arith

abbrev pub pattern : Format → ℕ → ℕ → ℕ
pattern f k q = (k + low f) * hid f + q

-- it stands for q * 2 ^ k
module _ (f : Format) (k q : ℕ) (K : prec f + k ≤ emax f) (lo : hid f ≤ q) (hi : q ≤ 2 ^ prec f) where
  abbrev Stands : ℕ → Type 0
  Stands b = HasValue (of_bits f b) false (q * 2 ^ (k + low f)) (2 ^ low f)

  room : (p k e : ℕ) → 2 ≤ p → p + k ≤ e → suc (suc (k + (e + p - 2))) < 2 * e + 1
  room p k e t h = omega arith

  plain : q < 2 ^ prec f → Stands (pattern f k q)
  plain l =
      subst (λ (x : Float). HasValue x false (q * 2 ^ (k + low f)) (2 ^ low f))
      (sym (fields f (k + low f) q (omega (arith, room (prec f) k (emax f) (two f) K)) lo (lt_of_lt_of_le l (le_of_eq (twice_hid f)))))
      (odd_sign (prec f) false q (k + low f) (low f))

  carried : q ≡ 2 ^ prec f → Stands (pattern f k q)
  carried e =
      let h = hid f in
      let j = k + low f in
      let at : suc j * h + h ≡ j * h + q = omega (arith, suc-mul j h, twice_hid f) in
      let size : h * 2 ^ suc j ≡ q * 2 ^ j =
      ap (λ (z : ℕ). h * z) (pow-succ' 2 j) ∙ sym (mul_assoc h 2 (2 ^ j)) ∙ ap (λ (z : ℕ). z * 2 ^ j) (mul_comm h 2 ∙ sym (twice_hid f) ∙ sym e) in
      subst Stands at
      (subst (λ (x : Float). HasValue x false (q * 2 ^ j) (2 ^ low f)) (sym (fields f (suc j) h (room (prec f) k (emax f) (two f) K) (le_refl h) (more h (pow_pos (prec f - 1)))))
      (subst (λ (z : ℕ). HasValue (odd (prec f) false h (suc j) (low f)) false z (2 ^ low f)) size (odd_sign (prec f) false h (suc j) (low f))))
    where
      more : (h : ℕ) → 0 < h → h < 2 * h
      more h p = omega arith

  value : Stands (pattern f k q)
  value = elim (eq-or-lt_of_le hi) [ inl e ↦ carried e | inr l ↦ plain l ]

-- n / c rounded, which has prec digits in units of u = 2 ^ k
module _ (f : Format) (n c k u : ℕ) (C : 0 < c) (unit : u ≡ c * 2 ^ k) (lo : hid f * u ≤ n) (hi : n < 2 ^ prec f * u) (K : prec f + k ≤ emax f) where
  pub assembled : of_bits f (pattern f k (closest n u)) ≡ round f false n c
  assembled =
      value-unique f (of_bits f (pattern f k (closest n u))) (round f false n c) false (closest n u * 2 ^ (k + low f)) (2 ^ low f) (pow_pos (low f))
      (of_bits-fits f (pattern f k (closest n u))) (round-fits f false n c)
      (value f k (closest n u) K (all_digits f n c k u C unit lo hi) (few-digits f n c k u C unit lo hi)) (digits_value f n c k u C unit lo hi K)

  pub assembled-number : T (not (nan_bits f (pattern f k (closest n u))))
  assembled-number =
      subst (λ (b : Bool). T (not b)) (sym (nan_bits_is f (pattern f k (closest n u))))
      (subst (λ (x : Float). T (not (is_nan x))) (sym assembled) (round_number f false n c))
