-- The number arithmetic of `nearest_part` and `u64_to_f32`: a number cut by k digits, and the count of leading zeros. Nothing here is about floats. Assumes nothing.
use Rattle.std.proofs.Common.{◌≡◌, ℕ, zero, suc, ◌+◌, ◌-◌, ◌*◌, ◌/◌, ◌%◌, ◌^◌, ◌<◌, ◌≤◌, not, T, eqb, ltb, sym, refl, ap, ◌∙◌, subst, inl, inr, lt_of_lt_of_le, lt_of_le_of_lt, le_of_lt, lt_irrefl, mod-lt, zero-lt-suc, div-lt_iff_lt-mul, eq-or-lt_of_le, one-mul, le-div_iff_mul-le, div-le_self, not-le_of_lt, arith, lit<, eqb→eq, leb→le, pow_pos, pow_mono, pow-add, shl_exact, shr_lt, ltb-false, ltb-true}
use Prim.Native.Nat.{compare, Ordering}
use native.Mathlib.Nat.{pow-succ', div-eq_of_lt}
use lib.Dec.{is_le, compare_is_eq, nleb→lt, eqb_refl}
use lib.Bits.{bit_and, and_mask}
use lib.Count.{count_leading_zeros, leading_length}
use lib.Ieee.{nearest}
use Rattle.lists.proofs.Tests.{test}

-- ---- the three ways of `nearest`, by the two numbers that `compare` compares

module _ (q a b : ℕ) where
  pub nearest-below : a < b → nearest q (compare a b) ≡ q
  nearest-below h = go (compare a b) (nleb→lt a b) (eqb→eq a b)
    where
      go : (o : Ordering) → (T (not (is_le o)) → b < a) → (T (compare_is_eq o) → a ≡ b) → nearest q o ≡ q
      go Ordering.lt g e = refl
      go Ordering.eq g e = absurd (lt_irrefl b (subst (λ (x : ℕ). x < b) (e tt) h))
      go Ordering.gt g e = absurd (not-le_of_lt h (le_of_lt (g tt)))

  pub nearest-above : b < a → nearest q (compare a b) ≡ q + 1
  nearest-above h = go (compare a b) (leb→le a b)
    where
      next : (q : ℕ) → suc q ≡ q + 1
      next q = omega arith

      go : (o : Ordering) → (T (is_le o) → a ≤ b) → nearest q o ≡ q + 1
      go Ordering.lt l = absurd (not-le_of_lt h (l tt))
      go Ordering.eq l = absurd (not-le_of_lt h (l tt))
      go Ordering.gt l = next q

  pub nearest-level : a ≡ b → nearest q (compare a b) ≡ q + q % 2
  nearest-level h = go (compare a b) (subst (λ (x : ℕ). T (eqb a x)) h (eqb_refl a))
    where
      go : (o : Ordering) → T (compare_is_eq o) → nearest q o ≡ q + q % 2
      go Ordering.lt l = absurd l
      go Ordering.eq l = refl
      go Ordering.gt l = absurd l

-- ---- the carry of the remainder r, one less than half of u = 2h, and one where q is odd

carry-one : (x u : ℕ) → 0 < u → u ≤ x → x < 2 * u → x / u ≡ 1
carry-one x u U h g = both (x / u) ((le-div_iff_mul-le U).1 (subst (λ (y : ℕ). y ≤ x) (sym (one-mul u)) h)) ((div-lt_iff_lt-mul U).1 g)
  where
    both : (a : ℕ) → 1 ≤ a → a < 2 → a ≡ 1
    both a h g = omega arith

module _ (q r u h : ℕ) (double : u ≡ 2 * h) (some : 0 < h) (under : r < u) where
  below_half : r * 2 < u → q + (r + (u / 2 - 1) + q % 2) / u ≡ q
  below_half l = ap (λ (x : ℕ). q + x) (div-eq_of_lt (omega arith)) ∙ plus q
    where
      plus : (q : ℕ) → q + 0 ≡ q
      plus q = omega arith

  above_half : u < r * 2 → q + (r + (u / 2 - 1) + q % 2) / u ≡ q + 1
  above_half l = ap (λ (x : ℕ). q + x) (carry-one (r + (u / 2 - 1) + q % 2) u (omega arith) (omega arith) (omega arith))

  at-half : r * 2 ≡ u → q + (r + (u / 2 - 1) + q % 2) / u ≡ q + q % 2
  at-half e = ap (λ (x : ℕ). q + x) (by-parity (q % 2) (mod-lt q (zero-lt-suc 1)))
    where
      by-parity : (b : ℕ) → b < 2 → (r + (u / 2 - 1) + b) / u ≡ b
      by-parity zero l = div-eq_of_lt (omega arith)
      by-parity (suc zero) l = carry-one (r + (u / 2 - 1) + 1) u (omega arith) (omega arith) (omega arith)
      by-parity (suc (suc b)) l = absurd (omega arith)

  rounded : q + (r + (u / 2 - 1) + q % 2) / u ≡ nearest q (compare (r * 2) u)
  rounded = test (ltb (r * 2) u)
      (λ e. let l = ltb-true (r * 2) u e in below_half l ∙ sym (nearest-below q (r * 2) u l))
      (λ e. elim (eq-or-lt_of_le (ltb-false (r * 2) u e)) [
        | inl d ↦ at-half (sym d) ∙ sym (nearest-level q (r * 2) u (sym d))
        | inr l ↦ above_half l ∙ sym (nearest-above q (r * 2) u l)
      ])

-- ---- as the machine has it: the unit by a shift, and what is cut off by a mask

abbrev pub unit : ℕ → ℕ
unit k = 1 * 2 ^ k % 2 ^ 64

module _ (n k : ℕ) (some : 0 < k) (few : k ≤ 40) where
  pub unit-is : unit k ≡ 2 ^ k
  unit-is = shl_exact 1 k 64 (lit< tt) (room k few) ∙ one-mul (2 ^ k)
    where
      room : (k : ℕ) → k ≤ 40 → 1 + k ≤ 64
      room k h = omega arith

  pub rest-is : bit_and n (unit k - 1) ≡ n % 2 ^ k
  rest-is = ap (λ (x : ℕ). bit_and n (x - 1)) unit-is ∙ and_mask n k

  pub unit-pos : 1 ≤ unit k
  unit-pos = subst (λ (x : ℕ). 1 ≤ x) (sym unit-is) (pow_pos k)

  pub twice-fits : bit_and n (unit k - 1) * 2 < 2 ^ 64
  twice-fits = bound (bit_and n (unit k - 1)) (subst (λ (x : ℕ). x < 2 ^ 40) (sym rest-is) (lt_of_lt_of_le (mod-lt n (pow_pos k)) (pow_mono few)))
    where
      bound : (r : ℕ) → r < 2 ^ 40 → r * 2 < 2 ^ 64
      bound r h = omega arith

  pub kept-fits : n < 2 ^ 64 → n / 2 ^ k < 2 ^ 63
  kept-fits h = lt_of_lt_of_le (shr_lt (64 - k) k (subst (λ (x : ℕ). n < 2 ^ x) (all k few) h)) (pow_mono (less k some))
    where
      all : (k : ℕ) → k ≤ 40 → 64 ≡ 64 - k + k
      all k h = omega arith

      less : (k : ℕ) → 0 < k → 64 - k ≤ 63
      less k h = omega arith

  abbrev Nearest : ℕ → Type 0
  Nearest r = r ≡ nearest (n / 2 ^ k) (compare (n % 2 ^ k * 2) (2 ^ k))

  pub sum_fits : bit_and n (unit k - 1) + (unit k / 2 - 1) + n / 2 ^ k % 2 < 2 ^ 63
  sum_fits = bound (bit_and n (unit k - 1)) (unit k) (n / 2 ^ k) (subst (λ (x : ℕ). x < 2 ^ 40) (sym rest-is) (lt_of_lt_of_le (mod-lt n (pow_pos k)) (pow_mono few))) (subst (λ (x : ℕ). x ≤ 2 ^ 40) (sym unit-is) (pow_mono few))
    where
      bound : (r u q : ℕ) → r < 2 ^ 40 → u ≤ 2 ^ 40 → r + (u / 2 - 1) + q % 2 < 2 ^ 63
      bound r u q h g = omega arith

  pub carry-fits : (bit_and n (unit k - 1) + (unit k / 2 - 1) + n / 2 ^ k % 2) / 2 ^ k < 2 ^ 63
  carry-fits = lt_of_le_of_lt (div-le_self (bit_and n (unit k - 1) + (unit k / 2 - 1) + n / 2 ^ k % 2) (2 ^ k)) sum_fits

  pub half_pos : 1 ≤ unit k / 2
  half_pos = some-half (unit k) (subst (λ (x : ℕ). 2 ≤ x) (sym unit-is) (pow_mono some))
    where
      some-half : (u : ℕ) → 2 ≤ u → 1 ≤ u / 2
      some-half u h = omega arith

  pub cut-is : n / 2 ^ k + (bit_and n (unit k - 1) + (unit k / 2 - 1) + n / 2 ^ k % 2) / 2 ^ k ≡ nearest (n / 2 ^ k) (compare (n % 2 ^ k * 2) (2 ^ k))
  cut-is = rw (rest-is, unit-is) (rounded (n / 2 ^ k) (n % 2 ^ k) (2 ^ k) (2 ^ (k - 1)) (twice k some) (pow_pos (k - 1)) (mod-lt n (pow_pos k)))
    where
      twice : (k : ℕ) → 0 < k → 2 ^ k ≡ 2 * 2 ^ (k - 1)
      twice zero h = absurd (lt_irrefl 0 h)
      twice (suc j) h = pow-succ' 2 j ∙ ap (λ (x : ℕ). 2 * 2 ^ x) (back j)
        where
          back : (j : ℕ) → j ≡ suc j - 1
          back j = omega arith

-- ---- the count of leading zeros of a u64

pub small-of-zeros : (n : ℕ) → n < 2 ^ 64 → 40 ≤ count_leading_zeros 64 n → n ≤ 2 ^ 24
small-of-zeros n h z =
    let m = leading_length 64 n h in
    le_of_lt (lt_of_lt_of_le m.2 (pow_mono (left (count_leading_zeros 64 n) m.0 m.1 z)))
  where
    left : (z m : ℕ) → z + m ≡ 64 → 40 ≤ z → m ≤ 24
    left z m e h = omega arith

pub digits-of-zeros : (n : ℕ) → n < 2 ^ 64 → count_leading_zeros 64 n < 40 → (2 ^ 23 * 2 ^ (40 - count_leading_zeros 64 n) ≤ n) × (n < 2 ^ 24 * 2 ^ (40 - count_leading_zeros 64 n))
digits-of-zeros n h z =
    let m = leading_length 64 n h in
    let k = 40 - count_leading_zeros 64 n in
    let e : 2 ^ m.0 ≡ 2 ^ 24 * 2 ^ k = ap (λ (x : ℕ). 2 ^ x) (left (count_leading_zeros 64 n) m.0 m.1 z) ∙ pow-add 2 24 k in
    both n (2 ^ m.0) (2 ^ k) e m.2 m.3
  where
    left : (z m : ℕ) → z + m ≡ 64 → z < 40 → m ≡ 24 + (40 - z)
    left z m e h = omega arith

    both : (n p q : ℕ) → p ≡ 2 ^ 24 * q → n < p → p ≤ 2 * n + 1 → (2 ^ 23 * q ≤ n) × (n < 2 ^ 24 * q)
    both n p q e h g = (omega arith, omega arith)
