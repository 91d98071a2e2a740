-- What the proofs of `half_up` and `round_to_i64` cite. Assumes nothing.
use Rattle.std.proofs.Common.{◌≡◌, ℕ, zero, suc, ◌+◌, ◌-◌, ◌*◌, ◌/◌, ◌%◌, ◌^◌, ◌<◌, ◌≤◌, min, Bool, true, false, not, ◌&&◌, ◌||◌, T, eqb, ltb, ◌⊎◌, ℤ, pos, negsuc, ◌-ℤ◌, neg_ℤ, sym, refl, ap, ◌∙◌, subst, inl, inr, zero-le, le_trans, le_of_eq, le_refl, lt_of_lt_of_le, lt_of_le_of_lt, le_of_lt, lt_irrefl, zero-lt-suc, mul_comm, div-lt_iff_lt-mul, one-mul, le-div_iff_mul-le, zero-mul, mul-one, arith, lit≤, eqb→eq, ltb→lt, lt→ltb, nltb→le, T_not, pow_pos, w64, SFits, to_z, of_z}
use native.Mathlib.Nat.{div-div-eq-div-mul, add-mul-div_right, div-eq_of_lt}
use lib.IntN.{+ℤ_idl}
use mir.ValLaws.{to_z_pos, to_z-of_z}
use lib.Ieee.{Float, nan, inf, fin, binary64, up, down, mul, neg, lt, le, fits, of_bits, to_unsigned}
use lib.Ieee.Fits.{down_pos, and_l, and_r, eq→eqb}
use lib.Ieee.Positive.{num, den, positive, den_pos}
use Rattle.floats.specs.Rounding.{half_up, round_to_i64}
use Rattle.floats.proofs.Exactly.{few, scaled-up, Cut, cut-of-value}

-- ---- the whole part of 2a / d, halved with the odd one up

halves : (a d : ℕ) → 0 < d → a * 2 / d / 2 + a * 2 / d % 2 ≡ half_up a d
halves a d D =
    split (a * 2 / d)
    ∙ ap (λ (x : ℕ). x / 2) (sym (add-mul-div_right (a * 2) 1 D))
    ∙ div-div-eq-div-mul (a * 2 + 1 * d) d 2
    ∙ ap (λ (x : ℕ). x / (d * 2)) (sum a d)
    ∙ ap (λ (x : ℕ). (2 * a + d) / x) (mul_comm d 2)
  where
    split : (u : ℕ) → u / 2 + u % 2 ≡ (u + 1) / 2
    split u = omega arith

    sum : (a d : ℕ) → a * 2 + 1 * d ≡ 2 * a + d
    sum a d = omega arith

-- 2.0 as MIR has it
two_is : of_bits binary64 0x4000_0000_0000_0000 ≡ fin false 1 (pos 1)
unfolding of_bits
two_is = refl

under : (x : Float) (w : ℕ) → T (positive x) → T (lt x (fin false 1 (pos w))) → num x < 2 ^ w * den x
unfolding lt
under nan w p h = absurd p
under (inf s) w p h = absurd p
under (fin true m e) w p h = absurd p
under (fin false m e) w p h = tidy (m * up e) (2 ^ w) (down e) (ltb→lt (m * up e * 1) (1 * 2 ^ w * down e) h)
  where
    tidy : (n p d : ℕ) → n * 1 < 1 * p * d → n < p * d
    tidy n p d h = subst (λ (k : ℕ). n < k * d) (one-mul p) (subst (λ (k : ℕ). k < 1 * p * d) (mul-one n) h)

module _ (x : Float) (F : T (fits binary64 x)) (p : T (positive x)) (h : T (lt x (fin false 1 (pos 63)))) where
  pub doubled : Cut (mul binary64 x (of_bits binary64 0x4000_0000_0000_0000)) (num x * 2 / den x)
  doubled =
      let small : num x < 2 ^ 63 * den x = under x 63 p h in
      subst (λ (y : Float). Cut (mul binary64 x y) (num x * 2 / den x)) (sym two_is)
      (cut-of-value (mul binary64 x (fin false 1 (pos 1))) (num x * 2) (den x) (den_pos x) (scaled-up binary64 1 63 (lit≤ tt) x F p small) (twice (num x) (den x) small))
    where
      twice : (n d : ℕ) → n < 9223372036854775808 * d → n * 2 < 18446744073709551616 * d
      twice n d h = omega arith

  pub half-up-is : (u : ℕ) → u ≡ to_unsigned 64 (mul binary64 x (of_bits binary64 0x4000_0000_0000_0000)) → u / 2 + u % 2 ≡ half_up (num x) (den x)
  half-up-is u e = ap (λ (v : ℕ). v / 2 + v % 2) (e ∙ doubled.2) ∙ halves (num x) (den x) (den_pos x)

-- ---- which way a test goes

or_split : (a b : Bool) → T (a || (b && true)) → T a ⊎ T b
or_split true b t = inl tt
or_split false true t = inr tt
or_split false false t = absurd t

le_of : (a b : ℕ) (q : Bool) → (T q → a ≡ b) → T (ltb a b || (q && true)) → a ≤ b
le_of a b q f t = elim (or_split (ltb a b) q t) [ inl u ↦ le_of_lt (ltb→lt a b u) | inr u ↦ le_of_eq (f u) ]

neither : (a b : Bool) → T (not (a || (b && true))) → T (not a) × T (not b)
neither true b t = absurd t
neither false true t = absurd t
neither false false t = (tt, tt)

lt_of : (a b : ℕ) (q : Bool) → (a ≡ b → T q) → T (not (ltb a b || (q && true))) → b < a
lt_of a b q f t =
    let n = neither (ltb a b) q t in
    strict a b (nltb→le a b n.0) (λ (e : a ≡ b). T_not q n.1 (f e))
  where
    strict : (a b : ℕ) → b ≤ a → (a ≡ b → ⊥) → b < a
    strict a b h n = omega arith

first_pos : (n u : ℕ) → 0 < n * u * 1 → 0 < n
first_pos zero u h = absurd (lt_irrefl 0 (subst (λ (k : ℕ). 0 < k) (ap (λ (k : ℕ). k * 1) (zero-mul u) ∙ zero-mul 1) h))
first_pos (suc n) u h = zero-lt-suc n

-- ---- 2 ^ 63 or more

over : (n d : ℕ) → 0 < d → 9223372036854775808 * d ≤ n → 2 ^ 63 ≤ half_up n d
over n d D h = (le-div_iff_mul-le (twice d D)).1 (enough n d h)
  where
    twice : (d : ℕ) → 0 < d → 0 < 2 * d
    twice d h = omega arith

    enough : (n d : ℕ) → 9223372036854775808 * d ≤ n → 9223372036854775808 * (2 * d) ≤ 2 * n + d
    enough n d h = omega arith

tidy-up : (n d : ℕ) → 1 * 9223372036854775808 * d ≤ n * 1 → 9223372036854775808 * d ≤ n
tidy-up n d h = omega arith

most : (h : ℕ) → 2 ^ 63 ≤ h → 9223372036854775807 ≡ min h 9223372036854775807
most h g = omega arith

least : (h : ℕ) → 2 ^ 63 ≤ h → 9223372036854775808 ≡ min h 9223372036854775808
least h g = omega arith

clash : (n d : ℕ) → 0 < d → n ≡ 0 → n ≡ 1 * 9223372036854775808 * d → ⊥
clash n d D z e = omega arith

pub at_top : (x : Float) → T (le (fin false 1 (pos 63)) x) → pos 9223372036854775807 ≡ round_to_i64 x
unfolding le round_to_i64
at_top nan h = absurd h
at_top (inf true) h = absurd h
at_top (inf false) h = refl
at_top (fin true m e) h =
    let a = 1 * 2 ^ 63 * down e in
    let b = m * up e * 1 in
    absurd (clash a (down e) (down_pos e) (eqb→eq a 0 (and_r (eqb a b) (eqb a 0) h)) refl)
at_top (fin false m e) h =
    let a = 1 * 2 ^ 63 * down e in
    let b = m * up e * 1 in
    ap pos (most (half_up (m * up e) (down e)) (over (m * up e) (down e) (down_pos e) (tidy-up (m * up e) (down e) (le_of a b (eqb a b) (eqb→eq a b) h))))

pub at-bottom : (x : Float) → T (le x (fin true 1 (pos 63))) → negsuc 9223372036854775807 ≡ round_to_i64 x
unfolding le round_to_i64
at-bottom nan h = absurd h
at-bottom (inf true) h = refl
at-bottom (inf false) h = absurd h
at-bottom (fin true m e) h =
    let a = m * up e * 1 in
    let b = 1 * 2 ^ 63 * down e in
    ap (λ (k : ℕ). neg_ℤ (pos k)) (least (half_up (m * up e) (down e)) (over (m * up e) (down e) (down_pos e) (tidy-up (m * up e) (down e) (le_of b a (eqb a b) (λ (t : T (eqb a b)). sym (eqb→eq a b t)) h))))
at-bottom (fin false m e) h =
    let a = m * up e * 1 in
    let b = 1 * 2 ^ 63 * down e in
    absurd (clash a (down e) (down_pos e) (eqb→eq a 0 (and_r (eqb a b) (eqb a 0) h)) (eqb→eq a b (and_l (eqb a b) (eqb a 0) h)))

-- ---- between, and not zero

abbrev pub Within : Float → Type 0
Within x = T (positive x) × T (lt x (fin false 1 (pos 63)))

above-nought : (n d : ℕ) → 0 * 1 * d < n → 0 < n
above-nought n d h = lt_of_le_of_lt zero-le h

pub above_zero : (x : Float) → T (lt (fin false 0 (pos 0)) x) → T (not (le (fin false 1 (pos 63)) x)) → Within x
unfolding le
above_zero nan h g = absurd h
above_zero (inf true) h g = absurd h
above_zero (inf false) h g = absurd g
above_zero (fin true m e) h g = absurd h
above_zero (fin false m e) h g =
    let a = 1 * 2 ^ 63 * down e in
    let b = m * up e * 1 in
    (lt→ltb 0 m (first_pos m (up e) (above-nought b (down e) (ltb→lt (0 * 1 * down e) b h))), lt→ltb b a (lt_of a b (eqb a b) eq→eqb g))

below-nought : (n d : ℕ) → n < 0 * 1 * d → ⊥
below-nought n d h = lt_irrefl 0 (lt_of_le_of_lt zero-le (subst (λ (k : ℕ). n < k) (zero-mul d) h))

either-pos : (n d : ℕ) → 0 < n + 0 * 1 * d → 0 < n
either-pos n d h = subst (λ (k : ℕ). 0 < k) (ap (λ (k : ℕ). n + k) (zero-mul d) ∙ plus n) h
  where
    plus : (n : ℕ) → n + 0 ≡ n
    plus n = omega arith

pub below-zero : (x : Float) → T (lt x (fin false 0 (pos 0))) → T (not (le x (fin true 1 (pos 63)))) → Within (neg x)
unfolding le neg
below-zero nan h g = absurd h
below-zero (inf true) h g = absurd g
below-zero (inf false) h g = absurd h
below-zero (fin false m e) h g = absurd (below-nought (m * up e * 1) (down e) (ltb→lt (m * up e * 1) (0 * 1 * down e) h))
below-zero (fin true m e) h g =
    let a = 1 * 2 ^ 63 * down e in
    let b = m * up e * 1 in
    (lt→ltb 0 m (first_pos m (up e) (either-pos b (down e) (ltb→lt 0 (b + 0 * 1 * down e) h))), lt→ltb b a (lt_of a b (eqb b a) (λ (i : a ≡ b). eq→eqb (sym i)) g))

-- ---- the value there

half-whole : (a : ℕ) → a < 9223372036854775808 * 1 → (2 * a + 1) / 2 < 2 ^ 63
half-whole a h = omega arith

half-part : (a d : ℕ) → 0 < d → a < 2 ^ 53 → 2 * (a * 1) + d < 9223372036854775808 * (2 * d)
half-part a d D h = omega arith

twice-pos : (d : ℕ) → 0 < d → 0 < 2 * d
twice-pos d h = omega arith

under_top : (m : ℕ) (e : ℤ) → m < 2 ^ 53 → m * up e < 2 ^ 63 * down e → half_up (m * up e) (down e) < 2 ^ 63
under_top m (pos k) h g = half-whole (m * 2 ^ k) g
under_top m (negsuc k) h g = (div-lt_iff_lt-mul (twice-pos (2 ^ suc k) (pow_pos (suc k)))).1 (half-part m (2 ^ suc k) (pow_pos (suc k)) h)

capped : (h : ℕ) → h < 2 ^ 63 → h ≡ min h 9223372036854775807
capped h g = omega arith

capped-neg : (h : ℕ) → h < 2 ^ 63 → h ≡ min h 9223372036854775808
capped-neg h g = omega arith

pub value-above : (x : Float) → T (fits binary64 x) → Within x → (half_up (num x) (den x) < 2 ^ 63) × (pos (half_up (num x) (den x)) ≡ round_to_i64 x)
unfolding round_to_i64
value-above nan F w = absurd w.0
value-above (inf s) F w = absurd w.0
value-above (fin true m e) F w = absurd w.0
value-above (fin false m e) F w =
    let b = under_top m e (few binary64 false m e (ltb→lt 0 m w.0) F) (under (fin false m e) 63 w.0 w.1) in
    (b, ap pos (capped (half_up (m * up e) (down e)) b))

pub value-below : (x : Float) → T (fits binary64 x) → Within (neg x) → (half_up (num (neg x)) (den (neg x)) < 2 ^ 63) × (neg_ℤ (pos (half_up (num (neg x)) (den (neg x)))) ≡ round_to_i64 x)
unfolding round_to_i64 neg
value-below nan F w = absurd w.0
value-below (inf s) F w = absurd w.0
value-below (fin false m e) F w = absurd w.0
value-below (fin true m e) F w =
    let b = under_top m e (few binary64 true m e (ltb→lt 0 m w.0) F) (under (fin false m e) 63 w.0 w.1) in
    (b, ap (λ (k : ℕ). neg_ℤ (pos k)) (capped-neg (half_up (m * up e) (down e)) b))

-- ---- a zero, and a NaN

nothing : (n d c : ℕ) → 0 < d → n * 1 ≤ 0 → 0 ≡ min (half_up n d) c
nothing n d c D h = none c ∙ ap (λ (k : ℕ). min k c) (sym (div-eq_of_lt (small n d D h)))
  where
    none : (c : ℕ) → 0 ≡ min 0 c
    none c = omega arith

    small : (n d : ℕ) → 0 < d → n * 1 ≤ 0 → 2 * n + d < 2 * d
    small n d D h = omega arith

pub no_sign : (x : Float) → T (not (lt (fin false 0 (pos 0)) x)) → T (not (lt x (fin false 0 (pos 0)))) → pos 0 ≡ round_to_i64 x
unfolding lt round_to_i64
no_sign nan h g = refl
no_sign (inf true) h g = absurd g
no_sign (inf false) h g = absurd h
no_sign (fin false m e) h g = ap pos (nothing (m * up e) (down e) (2 ^ 63 - 1) (down_pos e) (le_trans (nltb→le (0 * 1 * down e) (m * up e * 1) h) (le_of_eq (zero-mul (down e)))))
no_sign (fin true m e) h g = ap (λ (k : ℕ). neg_ℤ (pos k)) (nothing (m * up e) (down e) (2 ^ 63) (down_pos e) (part (m * up e * 1) (0 * 1 * down e) (nltb→le 0 (m * up e * 1 + 0 * 1 * down e) g)))
  where
    part : (a b : ℕ) → a + b ≤ 0 → a ≤ 0
    part a b h = omega arith

-- ---- 0 - u, as the machine works it out, is -u

module _ (u : ℕ) (h : u < 2 ^ 63) where
  is : pos 0 -ℤ to_z w64 u ≡ neg_ℤ (pos u)
  is = ap (λ (z : ℤ). pos 0 -ℤ z) (to_z_pos w64 u h) ∙ +ℤ_idl (neg_ℤ (pos u))

  pub cast_fits : SFits w64 (pos u)
  cast_fits = record { sfits = h }

  negative_fits : (u : ℕ) → u < 2 ^ 63 → SFits w64 (neg_ℤ (pos u))
  negative_fits zero h = record { sfits = h }
  negative_fits (suc u) h = record { sfits = lt_of_lt_of_le (le_refl (suc u)) (le_of_lt h) }

  pub negated_fits : SFits w64 (pos 0 -ℤ to_z w64 u)
  negated_fits = subst (λ (z : ℤ). SFits w64 z) (sym is) (negative_fits u h)

  pub negated : to_z w64 (of_z w64 (pos 0 -ℤ to_z w64 u)) ≡ neg_ℤ (pos u)
  negated = to_z-of_z w64 (pos 0 -ℤ to_z w64 u) negated_fits ∙ is
