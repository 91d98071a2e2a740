-- What the float leaves' proofs share: a value that a format holds is written in one way (`value-unique`); a rounded value rounds to itself (`round-grid`);
-- and a fraction that has the format's number of digits in units of 2 ^ k is rounded to a whole number of them (`digits_value`). Assumes nothing.
use Rattle.std.proofs.Common.{◌≡◌, ℕ, zero, suc, ◌+◌, ◌-◌, ◌*◌, ◌/◌, ◌%◌, ◌^◌, ◌<◌, ◌≤◌, Bool, false, ◌&&◌, T, eqb, ltb, leb, ◌⊎◌, ℤ, pos, negsuc, sym, refl, ap, ◌∙◌, subst, inl, inr, le_trans, le_of_eq, lt_of_lt_of_le, lt_of_le_of_lt, lt_irrefl, mul-le-mul_right, zero-lt-suc, mul_assoc, mul_comm, div-lt_iff_lt-mul, eq-or-lt_of_le, mul-lt-mul_of_pos_right, mul-pos, one-mul, pow-suc, lt_of_not-le, le-div_iff_mul-le, zero-mul, mul-one, mul_right_comm, not-le_of_lt, mul_left_comm, arith, lit<, eqb→eq, pow_pos, pow_mono, pow-add}
use Prim.Native.Nat.{compare}
use native.Mathlib.Nat.{eq_of_mul-eq-mul_right, pow-succ', div-div-eq-div-mul}
use lib.Pow.{pow-lt}
use lib.Ieee.{Float, nan, inf, fin, Format, binary32, binary64, prec, emax, low, hid, up, down, size, round, of_int, fits}
use lib.Ieee.Digits.{size-lt, size-le}
use lib.Ieee.Fits.{up_pos, down_pos, and_l, round-fits, nearest-le, kept-lt, two, two-le_pos}
use lib.Ieee.Exact.{HasValue, round_exact}
use lib.Ieee.Nearest.{closest, closest_same, nearest-ge}
use lib.Ieee.Order.{drop, kept}
use lib.Ieee.Scale.{round_val, grid, overflow}

pub of_int_is : (f : Format) (n : ℕ) → of_int f (pos n) ≡ round f false n 1
unfolding of_int
of_int_is f n = refl

-- ---- a value that fits is written in one way

even_odd : (m t : ℕ) → m % 2 ≡ 1 → m ≡ 2 * t → ⊥
even_odd m t o h = omega arith

odd_pow : (m n a b : ℕ) → m % 2 ≡ 1 → n % 2 ≡ 1 → m * 2 ^ a ≡ n * 2 ^ b → (m ≡ n) × (a ≡ b)
odd_pow m n zero zero o p h = (sym (mul-one m) ∙ h ∙ mul-one n, refl)
odd_pow m n zero (suc b) o p h = absurd (even_odd m (n * 2 ^ b) o (sym (mul-one m) ∙ h ∙ ap (λ (x : ℕ). n * x) (pow-succ' 2 b) ∙ mul_left_comm n 2 (2 ^ b)))
odd_pow m n (suc a) zero o p h = absurd (even_odd n (m * 2 ^ a) p (sym (mul-one n) ∙ sym h ∙ ap (λ (x : ℕ). m * x) (pow-succ' 2 a) ∙ mul_left_comm m 2 (2 ^ a)))
odd_pow m n (suc a) (suc b) o p h =
    let r = odd_pow m n a b o p (eq_of_mul-eq-mul_right 2 (zero-lt-suc 1) (m * 2 ^ a) (n * 2 ^ b)
    (mul_assoc m (2 ^ a) 2 ∙ ap (λ (x : ℕ). m * x) (sym (pow-suc 2 a)) ∙ h ∙ ap (λ (x : ℕ). n * x) (pow-suc 2 b) ∙ sym (mul_assoc n (2 ^ b) 2))) in
    (r.0, ap suc r.1)

down-one : (e : ℤ) (m n : ℕ) → n % 2 ≡ 1 → (b : ℕ) → m * 2 ^ suc b ≡ n * 1 * 1 → ⊥
down-one e m n o b h =
    even_odd n (m * 2 ^ b) o (sym (mul-one n) ∙ sym (mul-one (n * 1)) ∙ sym h ∙ ap (λ (x : ℕ). m * x) (pow-succ' 2 b) ∙ mul_left_comm m 2 (2 ^ b))

cross-unique : (m n : ℕ) (e g : ℤ) → m % 2 ≡ 1 → n % 2 ≡ 1 → m * up e * down g ≡ n * up g * down e → (m ≡ n) × (e ≡ g)
cross-unique m n (pos a) (pos b) o p h =
    let r = odd_pow m n a b o p (sym (mul-one (m * 2 ^ a)) ∙ h ∙ mul-one (n * 2 ^ b)) in
    (r.0, ap pos r.1)
cross-unique m n (pos a) (negsuc b) o p h = absurd (down-one (pos a) (m * 2 ^ a) n p b h)
cross-unique m n (negsuc a) (pos b) o p h = absurd (down-one (pos b) (n * 2 ^ b) m o a (sym h))
cross-unique m n (negsuc a) (negsuc b) o p h =
    let r = odd_pow m n (suc b) (suc a) o p (ap (λ (x : ℕ). x * 2 ^ suc b) (sym (mul-one m)) ∙ h ∙ ap (λ (x : ℕ). x * 2 ^ suc a) (mul-one n)) in
    (r.0, ap negsuc (pred-eq b a r.1))
  where
    pred-eq : (b a : ℕ) → suc b ≡ suc a → a ≡ b
    pred-eq b a e = omega arith

-- of a value that fits: m is odd, or it is 0 with the exponent 0
is_odd : (f : Format) (s : Bool) (m : ℕ) (e : ℤ) → T (fits f (fin s (suc m) e)) → suc m % 2 ≡ 1
unfolding fits
is_odd f s m e t =
    eqb→eq (suc m % 2) 1 (and_l (eqb (suc m % 2) 1) (ltb (suc m) (2 ^ prec f)) (and_l (eqb (suc m % 2) 1 && ltb (suc m) (2 ^ prec f)) (leb (down e) (2 ^ low f))
    (and_l (eqb (suc m % 2) 1 && ltb (suc m) (2 ^ prec f) && leb (down e) (2 ^ low f)) (ltb (suc m * up e) (2 ^ suc (emax f) * down e)) t)))

two_up : (p : ℕ) → 0 < p → 2 * p ≡ 1 → ⊥
two_up p h e = omega arith

flat : (e : ℤ) → up e * down e ≡ 1 → e ≡ pos 0
flat (pos zero) h = refl
flat (pos (suc k)) h = absurd (two_up (2 ^ k) (pow_pos k) (sym (pow-succ' 2 k) ∙ sym (mul-one (2 ^ suc k)) ∙ h))
flat (negsuc k) h = absurd (two_up (2 ^ k) (pow_pos k) (sym (pow-succ' 2 k) ∙ sym (one-mul (2 ^ suc k)) ∙ h))

zero_exp : (f : Format) (s : Bool) (e : ℤ) → T (fits f (fin s zero e)) → e ≡ pos 0
unfolding fits
zero_exp f s e t = flat e (eqb→eq (up e * down e) 1 t)

-- two fractions that equal a / c, crosswise
crossed : (x y de dg a c : ℕ) → 0 < c → x * c ≡ a * de → y * c ≡ a * dg → x * dg ≡ y * de
crossed x y de dg a c C p q =
    eq_of_mul-eq-mul_right c C (x * dg) (y * de)
    (mul_right_comm x dg c ∙ ap (λ (z : ℕ). z * dg) p ∙ mul_right_comm a de dg ∙ ap (λ (z : ℕ). z * de) (sym q) ∙ mul_right_comm y c de)

not-zero : (m u d : ℕ) → 0 < u → 0 < d → suc m * u * d ≡ 0 → ⊥
not-zero m u d U D h = lt_irrefl 0 (subst (λ (x : ℕ). 0 < x) h (mul-pos (mul-pos (zero-lt-suc m) U) D))

nought : (u d : ℕ) → zero * u * d ≡ 0
nought u d = ap (λ (x : ℕ). x * d) (zero-mul u) ∙ zero-mul d

pub value-unique : (f : Format) (x y : Float) (s : Bool) (a c : ℕ) → 0 < c → T (fits f x) → T (fits f y) → HasValue x s a c → HasValue y s a c → x ≡ y
value-unique f nan y s a c C p q v w = absurd v
value-unique f (inf t) y s a c C p q v w = absurd v
value-unique f (fin t m e) nan s a c C p q v w = absurd w
value-unique f (fin t m e) (inf u) s a c C p q v w = absurd w
value-unique f (fin t zero e) (fin u zero g) s a c C p q v w = λ i. fin ((v.0 ∙ sym w.0) i) zero ((zero_exp f t e p ∙ sym (zero_exp f u g q)) i)
value-unique f (fin t zero e) (fin u (suc n) g) s a c C p q v w =
    absurd (not-zero n (up g) (down e) (up_pos g) (down_pos e) (sym (crossed (zero * up e) (suc n * up g) (down e) (down g) a c C v.1 w.1) ∙ nought (up e) (down g)))
value-unique f (fin t (suc m) e) (fin u zero g) s a c C p q v w =
    absurd (not-zero m (up e) (down g) (up_pos e) (down_pos g) (crossed (suc m * up e) (zero * up g) (down e) (down g) a c C v.1 w.1 ∙ nought (up g) (down e)))
value-unique f (fin t (suc m) e) (fin u (suc n) g) s a c C p q v w =
    let r = cross-unique (suc m) (suc n) e g (is_odd f t m e p) (is_odd f u n g q) (crossed (suc m * up e) (suc n * up g) (down e) (down g) a c C v.1 w.1) in
    λ i. fin ((v.0 ∙ sym w.0) i) (r.0 i) (r.1 i)

-- ---- a number of at most prec digits, times a power of two, in units: nothing is rounded

one-digit : (f : Format) → 1 < 2 ^ prec f
one-digit binary32 = lit< tt
one-digit binary64 = lit< tt

pub exact-at : (f : Format) (s : Bool) (q j : ℕ) → q ≤ 2 ^ prec f → q * 2 ^ j < overflow f → HasValue (round f s (q * 2 ^ j) (2 ^ low f)) s (q * 2 ^ j) (2 ^ low f)
exact-at f s q j h o = go (eq-or-lt_of_le h)
  where
    go : (q ≡ 2 ^ prec f) ⊎ (q < 2 ^ prec f) → HasValue (round f s (q * 2 ^ j) (2 ^ low f)) s (q * 2 ^ j) (2 ^ low f)
    go (inr l) = round_exact f s (q * 2 ^ j) (2 ^ low f) q j (pow_pos (low f)) l o refl
    go (inl e) =
        let is : q * 2 ^ j ≡ 1 * 2 ^ (prec f + j) = ap (λ (x : ℕ). x * 2 ^ j) e ∙ sym (pow-add 2 (prec f) j) ∙ sym (one-mul (2 ^ (prec f + j))) in
        round_exact f s (q * 2 ^ j) (2 ^ low f) 1 (prec f + j) (pow_pos (low f)) (one-digit f)
        (subst (λ (x : ℕ). x < overflow f) is o) (ap (λ (x : ℕ). x * 2 ^ low f) is)

pub kept-le : (p n den : ℕ) → kept p n den ≤ 2 ^ p
kept-le p n den =
    let k = drop p n den in
    let u = den * 2 ^ k in
    le_trans (nearest-le (n / u) (compare (n % u * 2) u)) (subst (λ (x : ℕ). x < 2 ^ p) (div-div-eq-div-mul n den (2 ^ k)) (kept-lt p (n / den)))

-- a rounded value rounds to itself
pub round-grid : (f : Format) (a c : ℕ) → grid f a c < overflow f → round f false (grid f a c) (2 ^ low f) ≡ round f false a c
round-grid f a c h =
    let g = grid f a c in
    value-unique f (round f false g (2 ^ low f)) (round f false a c) false g (2 ^ low f) (pow_pos (low f)) (round-fits f false g (2 ^ low f)) (round-fits f false a c)
    (exact-at f false (kept (prec f) (a * 2 ^ low f) c) (drop (prec f) (a * 2 ^ low f) c) (kept-le (prec f) (a * 2 ^ low f) c) h)
    (round_val f a c h)

-- ---- a fraction n / c with prec digits in units of u = 2 ^ k

size-gt : (n j : ℕ) → 2 ^ j ≤ n → j < size n
size-gt n j h = lt_of_not-le (λ (g : size n ≤ j). not-le_of_lt (lt_of_lt_of_le (size-lt n) (pow_mono g)) h)

exactly : (z p r : ℕ) → 0 < p → z ≤ p + r → p - 1 + r < z → z - p ≡ r
exactly z p r P a b = omega arith

module _ (f : Format) (n c k u : ℕ) (C : 0 < c) (unit : u ≡ c * 2 ^ k) (lo : hid f * u ≤ n) (hi : n < 2 ^ prec f * u) where
  -- in units of the format's smallest value
  scaled : (j : ℕ) → 2 ^ j * u * 2 ^ low f ≡ 2 ^ (j + (k + low f)) * c
  scaled j = rw unit (simp (mul_assoc, mul_comm, mul_left_comm, pow-add))

  drop-is : drop (prec f) (n * 2 ^ low f) c ≡ k + low f
  drop-is =
      exactly (size (n * 2 ^ low f / c)) (prec f) (k + low f) (two-le_pos (prec f) (two f))
      (size-le (n * 2 ^ low f / c) (prec f + (k + low f)) ((div-lt_iff_lt-mul C).1 (lt_of_lt_of_le (mul-lt-mul_of_pos_right hi (pow_pos (low f))) (le_of_eq (scaled (prec f))))))
      (size-gt (n * 2 ^ low f / c) (prec f - 1 + (k + low f)) ((le-div_iff_mul-le C).1 (le_trans (le_of_eq (sym (scaled (prec f - 1)))) (mul-le-mul_right (2 ^ low f) lo))))

  unit-pos : 0 < u
  unit-pos = subst (λ (x : ℕ). 0 < x) (sym unit) (mul-pos C (pow_pos k))

  kept-is : kept (prec f) (n * 2 ^ low f) c ≡ closest n u
  kept-is =
      ap (λ (x : ℕ). closest (n * 2 ^ low f) (c * 2 ^ x)) drop-is
      ∙ closest_same (n * 2 ^ low f) (c * 2 ^ (k + low f)) n u (mul-pos C (pow_pos (k + low f))) unit-pos (rw unit (simp (mul_assoc, mul_comm, mul_left_comm, pow-add)))

  grid-is : grid f n c ≡ closest n u * 2 ^ (k + low f)
  grid-is = ap (λ (x : ℕ). x * 2 ^ drop (prec f) (n * 2 ^ low f) c) kept-is ∙ ap (λ (x : ℕ). closest n u * 2 ^ x) drop-is

  pub few-digits : closest n u ≤ 2 ^ prec f
  few-digits = subst (λ (x : ℕ). x ≤ 2 ^ prec f) kept-is (kept-le (prec f) (n * 2 ^ low f) c)

  pub all_digits : hid f ≤ closest n u
  all_digits = le_trans ((le-div_iff_mul-le unit-pos).1 lo) (nearest-ge (n / u) (compare (n % u * 2) u))

  -- it is rounded to a whole number of these units
  pub digits_value : prec f + k ≤ emax f → HasValue (round f false n c) false (closest n u * 2 ^ (k + low f)) (2 ^ low f)
  digits_value h = subst (λ (x : ℕ). HasValue (round f false n c) false x (2 ^ low f)) grid-is (round_val f n c (subst (λ (x : ℕ). x < overflow f) (sym grid-is) under))
    where
      room : (p k l e : ℕ) → p + k ≤ e → p + (k + l) < l + suc e
      room p k l e h = omega arith

      under : closest n u * 2 ^ (k + low f) < overflow f
      under =
          lt_of_le_of_lt (mul-le-mul_right (2 ^ (k + low f)) few-digits)
          (lt_of_le_of_lt (le_of_eq (sym (pow-add 2 (prec f) (k + low f)))) (pow-lt (room (prec f) k (low f) (emax f) h)))
