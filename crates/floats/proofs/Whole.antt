-- Whole numbers as floats, and the whole number that is nearest to an x in 0 .. 2^51: what the proofs of `nearest_whole`, `small_whole_part`,
-- `small_half_up` and `round_small_to_i64` cite. x may be -0. Assumes nothing.
use Rattle.std.proofs.Common.{◌≡◌, ℕ, zero, suc, ◌+◌, ◌-◌, ◌*◌, ◌/◌, ◌%◌, ◌^◌, ◌<◌, ◌≤◌, min, Bool, true, false, cond, not, ◌&&◌, ◌||◌, T, eqb, ltb, ℤ, pos, negsuc, neg_ℤ, sym, refl, ap, ◌∙◌, subst, ap₂, inl, inr, true≢false, le_trans, le_of_eq, lt_of_lt_of_le, lt_of_le_of_lt, le_of_lt, mul-le-mul_right, mod-lt, zero-lt-suc, mul_assoc, mul_comm, div-lt_iff_lt-mul, lt_of_mul-lt-mul_right, eq-or-lt_of_le, mul-lt-mul_of_pos_right, mul-pos, one-mul, pow-suc, div-add-mod', zero-mul, mul-one, mul_right_comm, arith, lit<, lit≤, eqb→eq, ltb→lt, pow_pos, pow_mono, pow-add, ltb-false, ltb-true, le-ltb, lt-ltb, ne_eqb, eqb-true}
use Prim.Native.Nat.{compare, Ordering}
use native.Mathlib.Nat.{mul-sub, eq_of_mul-eq-mul_right, div-eq_of_lt-le, div-eq_of_lt, zero-div, add-mul-div_right, add-mul-mod_self_right}
use lib.Ieee.{Float, nan, inf, fin, Format, binary32, binary64, prec, emax, low, up, down, nearest, round, sum, add, sub, neg, lt, le, of_int, of_bits, to_bits, to_unsigned, is_nan}
use lib.Ieee.Bits.{to_bits-of_bits}
use lib.Ieee.Fits.{down_pos, and_l}
use lib.Ieee.Exact.{HasValue, round_exact}
use lib.Ieee.Nearest.{closest}
use lib.Ieee.Scale.{round_same}
use lib.Ieee.Back.{round_whole}
use lib.Ieee.Positive.{num, den, den_pos}
use borrow.Author.Tests.{eqb-false}
use Rattle.lists.proofs.Tests.{test, both_ways}
use Rattle.floats.specs.Rounding.{half_up, round_to_i64}
use Rattle.floats.specs.Selection as Selection
use Rattle.floats.proofs.Numbers.{round_number, yes}
use Rattle.floats.proofs.Round.{of_int_is, digits_value}
use Rattle.floats.proofs.Cut.{nearest-below, nearest-above, nearest-level}
use Rattle.floats.proofs.Assembled.{pattern, assembled}
use Rattle.floats.proofs.Order.{le_of_not_lt}

-- ---- a / d to the nearest whole number

module _ (a d : ℕ) (D : 0 < d) where
  abbrev HalfAway : ℕ → Type 0
  HalfAway n = (2 * (n * d) ≤ 2 * a + d) × (2 * a ≤ 2 * (n * d) + d)

  half-away : HalfAway (closest a d)
  half-away =
      let q = a / d in
      let r = a % d in
      let is : q * d + r ≡ a = div-add-mod' a d in
      let less : r < d = mod-lt a D in
      test (ltb (r * 2) d) (λ e. let l = ltb-true (r * 2) d e in subst HalfAway (sym (nearest-below q (r * 2) d l)) (omega arith, omega arith))
      (λ e. elim (eq-or-lt_of_le (ltb-false (r * 2) d e)) [
        | inl h ↦ subst HalfAway (sym (nearest-level q (r * 2) d (sym h))) (odd-one q r (q % 2) (mod-lt q (zero-lt-suc 1)) is h)
        | inr h ↦ subst HalfAway (sym (nearest-above q (r * 2) d h)) (omega arith, omega arith)
      ])
    where
      odd-one : (q r b : ℕ) → b < 2 → q * d + r ≡ a → d ≡ r * 2 → HalfAway (q + b)
      odd-one q r zero B is h = (omega arith, omega arith)
      odd-one q r (suc zero) B is h = (omega arith, omega arith)
      odd-one q r (suc (suc b)) B is h = absurd (omega arith)

-- what the nearest number says of the whole part, and of the number with halves up
module _ (a d n : ℕ) (D : 0 < d) (near : HalfAway a d D n) where
  cut : (t : ℕ) → t ≡ cond (ltb a (n * d)) 1 0 → (t ≤ n) × (n - t ≡ a / d)
  cut t e = test (ltb a (n * d)) (λ h. over n t near (ltb-true a (n * d) h) (e ∙ rw h)) (λ h. under t (ltb-false a (n * d) h) (e ∙ rw h))
    where
      over : (n t : ℕ) → HalfAway a d D n → a < n * d → t ≡ 1 → (t ≤ n) × (n - t ≡ a / d)
      over zero t g l e = absurd (omega arith)
      over (suc m) t g l e = (omega arith, less m t e ∙ sym (div-eq_of_lt-le d (omega (arith, g.0)) (omega arith)))
        where
          less : (m t : ℕ) → t ≡ 1 → suc m - t ≡ m
          less m t e = omega arith

      under : (t : ℕ) → n * d ≤ a → t ≡ 0 → (t ≤ n) × (n - t ≡ a / d)
      under t l e = (omega arith, less n t e ∙ sym (div-eq_of_lt-le d l (omega (arith, near.1))))
        where
          less : (n t : ℕ) → t ≡ 0 → n - t ≡ n
          less n t e = omega arith

  rounded-up : (t : ℕ) → t ≡ cond (not (ltb (a * 2) ((2 * n + 1) * d))) 1 0 → n + t ≡ half_up a d
  rounded-up t e =
      test (ltb (a * 2) ((2 * n + 1) * d))
      (λ h. let l = ltb-true (a * 2) ((2 * n + 1) * d) h in less n t (e ∙ rw h) ∙ sym (div-eq_of_lt-le (2 * d) (omega (arith, near.0)) (omega arith)))
      (λ h. let l = ltb-false (a * 2) ((2 * n + 1) * d) h in more n t (e ∙ rw h) ∙ sym (div-eq_of_lt-le (2 * d) (omega arith) (omega (arith, near.1))))
    where
      less : (n t : ℕ) → t ≡ 0 → n + t ≡ n
      less n t e = omega arith

      more : (n t : ℕ) → t ≡ 1 → n + t ≡ n + 1
      more n t e = omega arith

-- an even number more
moved : (a d h : ℕ) → 0 < d → closest (a + 2 * h * d) d ≡ 2 * h + closest a d
moved a d h D =
    ap₂ (λ (q r : ℕ). nearest q (compare (r * 2) d)) (add-mul-div_right a (2 * h) D) (add-mul-mod_self_right a (2 * h) d)
    ∙ go (a / d) (compare (a % d * 2) d)
  where
    go : (q : ℕ) (o : Ordering) → nearest (q + 2 * h) o ≡ 2 * h + nearest q o
    go q Ordering.lt = omega arith
    go q Ordering.eq = omega arith
    go q Ordering.gt = omega arith

-- ---- whole numbers as floats

pub whole-value : (f : Format) (n : ℕ) → n ≤ 2 ^ prec f → HasValue (of_int f (pos n)) false n 1
unfolding of_int
whole-value f n h = round_whole f false n h

-- ±r / 1 for the fraction a / c of the same size
whole-round : (f : Format) (s : Bool) (a c r : ℕ) → 0 < c → a ≡ r * c → round f s a c ≡ round f s r 1
whole-round f s a c r C h = round_same f s a c r 1 C (zero-lt-suc 0) (mul-one a ∙ h)

-- r - q, with its sign
abbrev pub apart : Format → ℕ → ℕ → Float
apart f r q = cond (ltb r q) (round f true (q - r) 1) (round f false (r - q) 1)

by_parts : (f : Format) (r q a b c : ℕ) → 0 < c → a ≡ r * c → b ≡ q * c → cond (ltb a b) (round f true (b - a) c) (round f false (a - b) c) ≡ apart f r q
by_parts f r q a b c C A B =
    test (ltb r q)
    (λ h. rw (h, lt-ltb a b (omega (arith, mul-lt-mul_of_pos_right (ltb-true r q h) C))) (whole-round f true (b - a) c (q - r) C (less q r c b a B A)))
    (λ h. rw (h, le-ltb a b (omega (arith, mul-le-mul_right c (ltb-false r q h)))) (whole-round f false (a - b) c (r - q) C (less r q c a b A B)))
  where
    less : (x y c a b : ℕ) → a ≡ x * c → b ≡ y * c → a - b ≡ (x - y) * c
    less x y c a b A B = rw (A, B) (sym (mul_comm (x - y) c ∙ mul-sub c x y ∙ ap (λ (z : ℕ). z - c * y) (mul_comm c x) ∙ ap (λ (z : ℕ). x * c - z) (mul_comm c y)))

pub difference : (f : Format) (x y : Float) (r q : ℕ) → HasValue x false r 1 → HasValue y false q 1 → sub f x y ≡ apart f r q
unfolding sub add neg sum
difference f nan y r q v w = elim v [ ]
difference f (inf _) y r q v w = elim v [ ]
difference f (fin false m e) nan r q v w = elim w [ ]
difference f (fin false m e) (inf _) r q v w = elim w [ ]
difference f (fin true m e) y r q v w = absurd (true≢false v.0)
difference f (fin false m e) (fin true n d) r q v w = absurd (true≢false w.0)
difference f (fin false m e) (fin false n d) r q v w =
    by_parts f r q (m * up e * down d) (n * up d * down e) (down e * down d) (mul-pos (down_pos e) (down_pos d))
    (common (m * up e) r (down e) (down d) v.1)
    (common (n * up d) q (down d) (down e) w.1 ∙ ap (λ (z : ℕ). q * z) (mul_comm (down d) (down e)))
  where
    common : (x r d c : ℕ) → x * 1 ≡ r * d → x * c ≡ r * (d * c)
    common x r d c h = ap (λ (z : ℕ). z * c) (sym (mul-one x) ∙ h) ∙ mul_assoc r d c

-- a half more
half-exact : (f : Format) (a : ℕ) → a < 2 ^ prec f → HasValue (round f false a 2) false a 2
half-exact f a h =
    round_exact f false a 2 a (low f - 1) (zero-lt-suc 1) h
    (lt_of_lt_of_le (mul-lt-mul_of_pos_right h (pow_pos (low f - 1))) (le_trans (le_of_eq (sym (pow-add 2 (prec f) (low f - 1)))) (pow_mono (room f))))
    (ap (λ (z : ℕ). a * z) (halved (low f) (some f)) ∙ sym (mul_assoc a (2 ^ (low f - 1)) 2))
  where
    room : (f : Format) → prec f + (low f - 1) ≤ low f + suc (emax f)
    room binary32 = lit≤ tt
    room binary64 = lit≤ tt

    some : (f : Format) → 0 < low f
    some binary32 = lit< tt
    some binary64 = lit< tt

    halved : (l : ℕ) → 0 < l → 2 ^ l ≡ 2 ^ (l - 1) * 2
    halved l h = ap (λ (z : ℕ). 2 ^ z) (next l h) ∙ pow-suc 2 (l - 1)
      where
        next : (l : ℕ) → 0 < l → l ≡ suc (l - 1)
        next l h = omega arith

half-more : (f : Format) (y : Float) (n : ℕ) → HasValue y false n 1 → 2 * n + 1 < 2 ^ prec f → HasValue (add f y (fin false 1 (negsuc 0))) false (2 * n + 1) 2
unfolding add sum
half-more f nan n v h = elim v [ ]
half-more f (inf _) n v h = elim v [ ]
half-more f (fin true m e) n v h = absurd (true≢false v.0)
half-more f (fin false m e) n v h =
    subst (λ (z : Float). HasValue z false (2 * n + 1) 2)
    (sym (round_same f false (m * up e * 2 + 1 * 1 * down e) (down e * 2) (2 * n + 1) 2 (mul-pos (down_pos e) (zero-lt-suc 1)) (zero-lt-suc 1) (omega (arith, v.1))))
    (half-exact f (2 * n + 1) h)

-- ---- a value that isn't below zero; it may be -0

abbrev NotNegative : Float → Type 0
NotNegative nan = ⊥
NotNegative (inf s) = ⊥
NotNegative (fin true m e) = m * up e ≡ 0
NotNegative (fin false m e) = Unit {0}

-- plus a power of two
plus-power : (f : Format) (x : Float) (k : ℕ) → NotNegative x → add f x (fin false 1 (pos k)) ≡ round f false (num x + 2 ^ k * den x) (den x)
unfolding add sum
plus-power f nan k p = elim p [ ]
plus-power f (inf _) k p = elim p [ ]
plus-power f (fin false m e) k p = ap₂ (λ (a c : ℕ). round f false a c) (tidy (m * up e) (2 ^ k) (down e)) (mul-one (down e))
  where
    tidy : (a p d : ℕ) → a * 1 + 1 * p * d ≡ a + p * d
    tidy a p d = ap₂ (λ (x y : ℕ). x + y * d) (mul-one a) (one-mul p)
plus-power f (fin true m e) k p =
    rw (mul-one (m * up e), one-mul (2 ^ k), p, mul-one (down e), lt-ltb 0 (2 ^ k * down e) (mul-pos (pow_pos k) (down_pos e)))
    (ap (λ (a : ℕ). round f false a (down e)) (bare (2 ^ k * down e)))
  where
    bare : (b : ℕ) → b - 0 ≡ 0 + b
    bare b = omega arith

-- x / dx and y / dy, with y / dy equal to b / c
across : (x dx y dy b c : ℕ) → 0 < dy → 0 < c → y * c ≡ b * dy → ltb (x * dy) (y * dx) ≡ ltb (x * c) (b * dx)
across x dx y dy b c Y C e =
    let is : y * dx * c ≡ b * dx * dy = mul_right_comm y dx c ∙ ap (λ (z : ℕ). z * dx) e ∙ mul_right_comm b dy dx in
    let so : x * dy * c ≡ x * c * dy = mul_right_comm x dy c in
    both_ways (ltb (x * dy) (y * dx)) (ltb (x * c) (b * dx))
    (λ t. lt-ltb (x * c) (b * dx) (lt_of_mul-lt-mul_right dy (omega (arith, mul-lt-mul_of_pos_right (ltb-true (x * dy) (y * dx) t) C))))
    (λ t. lt-ltb (x * dy) (y * dx) (lt_of_mul-lt-mul_right c (omega (arith, mul-lt-mul_of_pos_right (ltb-true (x * c) (b * dx) t) Y))))

nought-below : (a b : ℕ) → a ≡ 0 → ltb 0 (a + b) ≡ ltb a b
nought-below a b z = let e : a + b ≡ b = omega arith in rw (e, z)

below-is : (x y : Float) (b c : ℕ) → 0 < c → NotNegative x → HasValue y false b c → lt x y ≡ ltb (num x * c) (b * den x)
unfolding lt
below-is nan y b c C p v = elim p [ ]
below-is (inf _) y b c C p v = elim p [ ]
below-is (fin s m e) nan b c C p v = elim v [ ]
below-is (fin s m e) (inf _) b c C p v = elim v [ ]
below-is (fin s m e) (fin true n d) b c C p v = absurd (true≢false v.0)
below-is (fin false m e) (fin false n d) b c C p v = across (m * up e) (down e) (n * up d) (down d) b c (down_pos d) C v.1
below-is (fin true m e) (fin false n d) b c C p v =
    nought-below (m * up e * down d) (n * up d * down e) (ap (λ (z : ℕ). z * down d) p ∙ zero-mul (down d))
    ∙ across (m * up e) (down e) (n * up d) (down d) b c (down_pos d) C v.1

reaches-is : (x y : Float) (b c : ℕ) → 0 < c → NotNegative x → HasValue y false b c → le y x ≡ not (ltb (num x * c) (b * den x))
unfolding le
reaches-is nan y b c C p v = elim p [ ]
reaches-is (inf _) y b c C p v = elim p [ ]
reaches-is (fin s m e) nan b c C p v = elim v [ ]
reaches-is (fin s m e) (inf _) b c C p v = elim v [ ]
reaches-is (fin s m e) (fin true n d) b c C p v = absurd (true≢false v.0)
reaches-is (fin false m e) (fin false n d) b c C p v =
    flip (n * up d * down e) (m * up e * down d)
    ∙ ap not (across (m * up e) (down e) (n * up d) (down d) b c (down_pos d) C v.1)
  where
    flip : (y x : ℕ) → (ltb y x || (eqb y x && true)) ≡ not (ltb x y)
    flip y x = test (ltb y x) (λ h. let l = ltb-true y x h in rw (h, le-ltb x y (omega arith)))
        (λ h. let l = ltb-false y x h in test (eqb y x) (λ k. let e = eqb-true y x k in rw (h, k, le-ltb x y (omega arith)))
        (λ k. let n = eqb-false y x k in rw (h, k, lt-ltb x y (omega arith))))
reaches-is (fin true m e) (fin false n d) b c C p v =
    flip (n * up d * down e) (m * up e * down d) (ap (λ (z : ℕ). z * down d) p ∙ zero-mul (down d))
    ∙ ap not (across (m * up e) (down e) (n * up d) (down d) b c (down_pos d) C v.1)
  where
    flip : (y x : ℕ) → x ≡ 0 → (eqb y x && eqb y 0) ≡ not (ltb x y)
    flip zero x z = rw z refl
    flip (suc y) x z = rw (z, ne_eqb (suc y) 0 (λ e. omega arith), lt-ltb 0 (suc y) (omega arith))

-- x in 0 .. 2^51
amount : (x : Float) → T (le Selection.zero x) → T (lt x (fin false 1 (pos 51))) → NotNegative x × (num x < 2 ^ 51 * den x)
unfolding le
amount nan g h = absurd g
amount (inf true) g h = absurd g
amount (inf false) g h = absurd h
amount (fin false m e) g h = (tt, let l = ltb→lt (m * up e * 1) (1 * 2 ^ 51 * down e) h in omega arith)
amount (fin true m e) g h =
    let a = 0 * 1 * down e in
    let b = m * up e * 1 in
    let z : m * up e ≡ 0 = omega (arith, eqb→eq a b (and_l (eqb a b) (eqb a 0) g), zero-mul (down e)) in
    (z, omega (arith, down_pos e))

whole_part : (x : Float) → NotNegative x → num x / den x < 2 ^ 64 → num x / den x ≡ to_unsigned 64 x
unfolding to_unsigned
whole_part nan p h = elim p [ ]
whole_part (inf _) p h = elim p [ ]
whole_part (fin false m e) p h = capped (m * up e / down e) h
  where
    capped : (q : ℕ) → q < 2 ^ 64 → q ≡ min q 18446744073709551615
    capped q h = omega arith
whole_part (fin true m e) p h = rw (p, zero-div (down e))

-- ---- the sum with 2^52, and what it says of x

abbrev two52 : Float
two52 = of_bits binary64 0x4330_0000_0000_0000

two52-is : two52 ≡ fin false 1 (pos 52)
unfolding of_bits
two52-is = refl

-- of n / 2 ^ l in units
in_ones : (x : Float) (n l : ℕ) → HasValue x false (n * 2 ^ l) (2 ^ l) → HasValue x false n 1
in_ones nan n l v = elim v [ ]
in_ones (inf _) n l v = elim v [ ]
in_ones (fin t m e) n l v = (v.0, eq_of_mul-eq-mul_right (2 ^ l) (pow_pos l) (m * up e * 1) (n * down e) (ap (λ (z : ℕ). z * 2 ^ l) (mul-one (m * up e)) ∙ v.1 ∙ mul_right_comm n (2 ^ l) (down e)))

module _ (x : Float) (lo : T (le Selection.zero x)) (hi : T (lt x (fin false 1 (pos 51)))) where
  abbrev n : ℕ
  n = closest (num x) (den x)

  not_negative : NotNegative x
  not_negative = (amount x lo hi).0

  under : num x < 2 ^ 51 * den x
  under = (amount x lo hi).1

  away : HalfAway (num x) (den x) (den_pos x) n
  away = half-away (num x) (den x) (den_pos x)

  few : n ≤ 2 ^ 51
  few = halved n (lt_of_mul-lt-mul_right (den x) {m = 2 * n} {n = 2 ^ 52 + 1} (omega (arith, away.0, under)))
    where
      halved : (n : ℕ) → 2 * n < 2 ^ 52 + 1 → n ≤ 2 ^ 51
      halved n h = omega arith

  sum_is : add binary64 x two52 ≡ round binary64 false (num x + 2 ^ 52 * den x) (den x)
  sum_is = ap (λ (y : Float). add binary64 x y) two52-is ∙ plus-power binary64 x 52 not_negative

  -- it has 53 digits
  low_end : 2 ^ 52 * den x ≤ num x + 2 ^ 52 * den x
  low_end = omega arith

  high_end : num x + 2 ^ 52 * den x < 2 ^ 53 * den x
  high_end = omega (arith, under)

  digits : closest (num x + 2 ^ 52 * den x) (den x) ≡ 2 ^ 52 + n
  digits = moved (num x) (den x) (2 ^ 51) (den_pos x)

  pub sum_number : T (not (is_nan (add binary64 x two52)))
  sum_number = subst (λ (y : Float). T (not (is_nan y))) (sym sum_is) (round_number binary64 false (num x + 2 ^ 52 * den x) (den x))

  pattern-is : of_bits binary64 (pattern binary64 0 (2 ^ 52 + n)) ≡ add binary64 x two52
  pattern-is =
      ap (λ (q : ℕ). of_bits binary64 (pattern binary64 0 q)) (sym digits)
      ∙ assembled binary64 (num x + 2 ^ 52 * den x) (den x) 0 (den x) (den_pos x) (sym (mul-one (den x))) low_end high_end (lit≤ tt)
      ∙ sym sum_is

  bits_are : to_bits binary64 (add binary64 x two52) ≡ pattern binary64 0 (2 ^ 52 + n)
  bits_are =
      ap (to_bits binary64) (sym pattern-is)
      ∙ to_bits-of_bits binary64 (pattern binary64 0 (2 ^ 52 + n)) (omega (arith, few)) (subst (λ (y : Float). T (not (is_nan y))) (sym pattern-is) sum_number)

  sum-value : HasValue (add binary64 x two52) false (2 ^ 52 + n) 1
  sum-value =
      in_ones (add binary64 x two52) (2 ^ 52 + n) 1074
      (subst (λ (y : Float). HasValue y false ((2 ^ 52 + n) * 2 ^ 1074) (2 ^ 1074)) (sym sum_is)
      (subst (λ (q : ℕ). HasValue (round binary64 false (num x + 2 ^ 52 * den x) (den x)) false (q * 2 ^ 1074) (2 ^ 1074)) digits
      (digits_value binary64 (num x + 2 ^ 52 * den x) (den x) 0 (den x) (den_pos x) (sym (mul-one (den x))) low_end high_end (lit≤ tt))))

  pub number_is : to_bits binary64 (add binary64 x two52) % 4503599627370496 ≡ n
  number_is = ap (λ (b : ℕ). b % 4503599627370496) bits_are ∙ omega (arith, few)

  pub float_is : sub binary64 (add binary64 x two52) two52 ≡ of_int binary64 (pos n)
  float_is =
      difference binary64 (add binary64 x two52) two52 (2 ^ 52 + n) (2 ^ 52) sum-value (subst (λ (y : Float). HasValue y false (2 ^ 52) 1) (sym two52-is) (refl, refl))
      ∙ rw (le-ltb (2 ^ 52 + n) (2 ^ 52) (omega arith)) (ap (λ (k : ℕ). round binary64 false k 1) (back n))
      ∙ sym (of_int_is binary64 n)
    where
      back : (n : ℕ) → 2 ^ 52 + n - 2 ^ 52 ≡ n
      back n = omega arith

  -- of the nearest number k, and of y, the same as a float
  module _ (k t : ℕ) (y : Float) (K : k ≡ n) (Y : y ≡ of_int binary64 (pos n)) where
    value : HasValue y false n 1
    value = subst (λ (z : Float). HasValue z false n 1) (sym Y) (whole-value binary64 n (le_trans few (lit≤ tt)))

    pub whole-part-is : t ≡ cond (lt x y) 1 0 → (t ≤ k) × (k - t ≡ to_unsigned 64 x)
    whole-part-is e =
        let c = cut (num x) (den x) n (den_pos x) away t (e ∙ ap (λ (b : Bool). cond b 1 0) (below-is x y n 1 (zero-lt-suc 0) not_negative value ∙ ap (λ (a : ℕ). ltb a (n * den x)) (mul-one (num x)))) in (
          subst (λ (j : ℕ). t ≤ j) (sym K) c.0,
          ap (λ (j : ℕ). j - t) K ∙ c.1 ∙ whole_part x not_negative (lt_of_lt_of_le ((div-lt_iff_lt-mul (den_pos x)).1 under) (lit≤ tt)),
        )

    pub half-up-small : t ≡ cond (le (add binary64 y (of_bits binary64 0x3FE0_0000_0000_0000)) x) 1 0 → k + t ≡ half_up (num x) (den x)
    unfolding of_bits
    half-up-small e =
        ap (λ (j : ℕ). j + t) K
        ∙ rounded-up (num x) (den x) n (den_pos x) away t
        (e ∙ ap (λ (b : Bool). cond b 1 0) (reaches-is x (add binary64 y (fin false 1 (negsuc 0))) (2 * n + 1) 2 (zero-lt-suc 1) not_negative (half-more binary64 y n value (room n few))))
      where
        room : (n : ℕ) → n ≤ 2 ^ 51 → 2 * n + 1 < 2 ^ 53
        room n h = omega arith

-- ---- halves away from zero, in -2^51 .. 2^51

pub half-up-le : (a d K : ℕ) → 0 < d → a ≤ K * d → half_up a d ≤ K
half-up-le a d K D h = back (half_up a d) K ((div-lt_iff_lt-mul (twice d D)).1 (enough a d K D h))
  where
    twice : (d : ℕ) → 0 < d → 0 < 2 * d
    twice d h = omega arith

    enough : (a d K : ℕ) → 0 < d → a ≤ K * d → 2 * a + d < suc K * (2 * d)
    enough a d K D h = omega arith

    back : (x K : ℕ) → x < suc K → x ≤ K
    back x K h = omega arith

pub half-up-few : (x : Float) → T (le Selection.zero x) → T (lt x (fin false 1 (pos 51))) → half_up (num x) (den x) ≤ 2 ^ 51
half-up-few x lo hi = half-up-le (num x) (den x) (2 ^ 51) (den_pos x) (le_of_lt (amount x lo hi).1)

capped : (h c : ℕ) → h ≤ 2 ^ 51 → 2 ^ 51 ≤ c → h ≡ min h c
capped h c g k = omega arith

abbrev Low : Float → Type 0
Low x = T (le Selection.zero x) × T (lt x (fin false 1 (pos 51)))

-- with a sign put on its rounding it is z
abbrev Rounds : Float → (ℕ → ℤ) → ℤ → Type 0
Rounds x sign z = Low x × (sign (half_up (num x) (den x)) ≡ z)

number : (x : Float) → T (lt (fin true 1 (pos 51)) x) → T (not (is_nan x))
unfolding lt is_nan
number nan h = absurd h
number (inf s) h = tt
number (fin s m e) h = tt

nought-up : (d : ℕ) → 0 < d → half_up 0 d ≡ 0
nought-up d D = div-eq_of_lt (less d D)
  where
    less : (d : ℕ) → 0 < d → 2 * 0 + d < 2 * d
    less d h = omega arith

rounds : (x : Float) → T (le Selection.zero x) → T (lt x (fin false 1 (pos 51))) → pos (half_up (num x) (den x)) ≡ round_to_i64 x
unfolding round_to_i64
rounds nan l h = absurd (amount nan l h).0
rounds (inf s) l h = absurd (amount (inf s) l h).0
rounds (fin false m e) l h = ap pos (capped (half_up (m * up e) (down e)) (2 ^ 63 - 1) (half-up-few (fin false m e) l h) (lit≤ tt))
rounds (fin true m e) l h = rw ((amount (fin true m e) l h).0, nought-up (down e) (down_pos e))

not-below-zero : (x : Float) → T (lt (fin true 1 (pos 51)) x) → T (lt x (fin false 1 (pos 51))) → lt x Selection.zero ≡ false → Rounds x pos (round_to_i64 x)
not-below-zero x lo hi h = let l = yes (le_of_not_lt x Selection.zero (number x lo) (unfold is_nan in tt) h) in ((l, hi), rounds x l hi)

below-zero : (x : Float) → T (lt (fin true 1 (pos 51)) x) → lt x Selection.zero ≡ true → Rounds (neg x) (λ n. neg_ℤ (pos n)) (round_to_i64 x)
unfolding lt neg round_to_i64 is_nan
below-zero nan lo h = absurd lo
below-zero (inf true) lo h = absurd lo
below-zero (inf false) lo h = absurd (true≢false (sym h))
below-zero (fin false m e) lo h = absurd (omega (arith, ltb-true (m * up e * 1) (0 * 1 * down e) h, zero-mul (down e)))
below-zero (fin true m e) lo h =
    let l = yes (le_of_not_lt (fin false m e) Selection.zero tt tt (le-ltb (m * up e * 1) (0 * 1 * down e) (omega (arith, zero-mul (down e))))) in
    ((l, lo), ap (λ (k : ℕ). neg_ℤ (pos k)) (capped (half_up (m * up e) (down e)) (2 ^ 63) (half-up-few (fin false m e) l lo) (lit≤ tt)))

-- y is x with its sign cleared, and n is y with halves up
module _ (x : Float) (lo : T (lt (fin true 1 (pos 51)) x)) (hi : T (lt x (fin false 1 (pos 51)))) (y : Float) (Y : y ≡ cond (lt x Selection.zero) (neg x) x) where
  pub size_in : Low y
  size_in =
      test (lt x Selection.zero) (λ h. subst Low (sym (Y ∙ rw h)) (below-zero x lo h).0)
      (λ h. subst Low (sym (Y ∙ rw h)) (not-below-zero x lo hi h).0)

  module _ (n : ℕ) (N : n ≡ half_up (num y) (den y)) where
    pub size_small : n < 2 ^ 63
    size_small = lt_of_le_of_lt (le_of_eq N) (lt_of_le_of_lt (half-up-few y size_in.0 size_in.1) (lit< tt))

    pub away-below : lt x Selection.zero ≡ true → neg_ℤ (pos n) ≡ round_to_i64 x
    away-below h =
        let z : y ≡ neg x = Y ∙ rw h in
        ap (λ (k : ℕ). neg_ℤ (pos k)) (N ∙ ap (λ (z : Float). half_up (num z) (den z)) z) ∙ (below-zero x lo h).1

    pub away-above : lt x Selection.zero ≡ false → pos n ≡ round_to_i64 x
    away-above h =
        let z : y ≡ x = Y ∙ rw h in
        ap pos (N ∙ ap (λ (z : Float). half_up (num z) (den z)) z) ∙ (not-below-zero x lo hi h).1
