-- How large a float is, through each operation: where the operands are bounded by powers of two, so is the rounded result, since rounding is monotone
-- and a power of two is its own rounding. `Sized s k x`: x is finite, has the sign s, and is 2 ^ k at most in size. `Small k x`: the same of either sign.
-- Assumes nothing.
use Rattle.std.proofs.Common.{◌≡◌, ℕ, zero, suc, ◌+◌, ◌-◌, ◌*◌, ◌^◌, ◌<◌, ◌≤◌, Bool, true, false, cond, ◌&&◌, ltb, ◌⊎◌, ℤ, sym, refl, ap, ◌∙◌, subst, inl, inr, true≢false, zero-le, le_trans, le_of_eq, le_refl, lt_of_le_of_lt, le_of_lt, lt_irrefl, mul-le-mul_right, zero-lt-suc, mul_assoc, mul_comm, mul-le-mul, eq-or-lt_of_le, mul-lt-mul_of_pos_right, mul-pos, one-mul, pow-suc, zero-mul, mul-one, mul_right_comm, le_of_mul-le-mul_right, sub-le, arith, lit≤, pow_pos, pow-add, ne_eqb}
use mathlib.Core.Bool.{beq}
use native.Mathlib.Nat.{mul-mul-mul_comm}
use lib.Pow.{pow-lt}
use lib.Ieee.{Float, nan, inf, fin, Format, binary32, binary64, prec, emax, low, up, down, unlike, round, sum, add, sub, mul, div, neg}
use lib.Ieee.Fits.{up_pos, down_pos, round_is}
use lib.Ieee.Exact.{HasValue, units_val}
use lib.Ieee.Order.{drop, kept, round_mono}
use lib.Ieee.Scale.{grid, overflow}
use lib.Ieee.Positive.{positive_of_value, values_of_le}
use Rattle.floats.proofs.Exactly.{grid-under}
use Rattle.floats.proofs.Round.{exact-at}
use Rattle.matching.specs.Scales.{half}

abbrev pub Sized : Bool → ℕ → Float → Type 0
Sized s k nan = ⊥
Sized s k (inf t) = ⊥
Sized s k (fin t m e) = (t ≡ s) × (m * up e ≤ 2 ^ k * down e)

abbrev pub Small : ℕ → Float → Type 0
Small k nan = ⊥
Small k (inf t) = ⊥
Small k (fin t m e) = m * up e ≤ 2 ^ k * down e

small : (s : Bool) (k : ℕ) (x : Float) → Sized s k x → Small k x
small s k nan h = elim h [ ]
small s k (inf _) h = elim h [ ]
small s k (fin t m e) h = h.1

-- ---- rounding

wide : (f : Format) → prec f ≤ low f
wide binary32 = lit≤ tt
wide binary64 = lit≤ tt

module _ (f : Format) (a c k : ℕ) (C : 0 < c) (K : k < emax f) (h : a ≤ 2 ^ k * c) where
  -- 2 ^ k in the format's units
  abbrev top : ℕ
  top = 1 * 2 ^ (k + low f)

  top-is : top ≡ 2 ^ k * 2 ^ low f
  top-is = one-mul (2 ^ (k + low f)) ∙ pow-add 2 k (low f)

  in-units : a * 2 ^ low f ≤ top * c
  in-units = le_trans (mul-le-mul_right (2 ^ low f) h) (le_of_eq (mul_right_comm (2 ^ k) c (2 ^ low f) ∙ ap (λ (z : ℕ). z * c) (sym top-is)))

  finite-grid : grid f a c < overflow f
  finite-grid =
      grid-under f a c (suc (k + low f)) C
      (lt_of_le_of_lt in-units (mul-lt-mul_of_pos_right (lt_of_le_of_lt (le_of_eq (one-mul (2 ^ (k + low f)))) (pow-lt (le_refl (suc (k + low f))))) C))
      (le_trans (wide f) (more k (low f))) (room k (low f) (emax f) K)
    where
      more : (k l : ℕ) → l ≤ suc (k + l)
      more k l = omega arith

      room : (k l e : ℕ) → k < e → suc (k + l) < l + suc e
      room k l e h = omega arith

  value : (s : Bool) → HasValue (round f s a c) s (grid f a c) (2 ^ low f)
  value s = subst (λ (z : Float). HasValue z s (grid f a c) (2 ^ low f)) (sym (round_is f s a c)) (units_val f s (kept (prec f) (a * 2 ^ low f) c) (drop (prec f) (a * 2 ^ low f) c) finite-grid)

  top-value : HasValue (round f false top (2 ^ low f)) false top (2 ^ low f)
  top-value = exact-at f false 1 (k + low f) (pow_pos (prec f)) (lt_of_le_of_lt (le_of_eq (one-mul (2 ^ (k + low f)))) (pow-lt (room k (low f) (emax f) K)))
    where
      room : (k l e : ℕ) → k < e → k + l < l + suc e
      room k l e h = omega arith

  grid-le : grid f a c ≤ top
  grid-le = go (eq-or-lt_of_le zero-le)
    where
      go : (0 ≡ grid f a c) ⊎ (0 < grid f a c) → grid f a c ≤ top
      go (inl e) = subst (λ (z : ℕ). z ≤ top) e zero-le
      go (inr p) =
          le_of_mul-le-mul_right
          (values_of_le (round f false a c) (round f false top (2 ^ low f)) (grid f a c) (2 ^ low f) top (2 ^ low f)
          (positive_of_value (round f false a c) (grid f a c) (2 ^ low f) (value false) p)
          (positive_of_value (round f false top (2 ^ low f)) top (2 ^ low f) top-value (mul-pos (zero-lt-suc 0) (pow_pos (k + low f))))
          (value false) top-value (round_mono f a c top (2 ^ low f) C (pow_pos (low f)) in-units))
          (pow_pos (low f))

  pub sized-round : (s : Bool) → Sized s k (round f s a c)
  sized-round s = of-value (round f s a c) (value s)
    where
      of-value : (x : Float) → HasValue x s (grid f a c) (2 ^ low f) → Sized s k x
      of-value nan v = elim v [ ]
      of-value (inf _) v = elim v [ ]
      of-value (fin t m e) v = (
        v.0,
        le_of_mul-le-mul_right
            (le_trans (le_of_eq v.1) (le_trans (mul-le-mul_right (down e) (le_trans grid-le (le_of_eq top-is))) (le_of_eq (mul_right_comm (2 ^ k) (2 ^ low f) (down e)))))
            (pow_pos (low f)),
      )

  small-round : (s : Bool) → Small k (round f s a c)
  small-round s = small s k (round f s a c) (sized-round s)

pub sized-of-value : (k : ℕ) (x : Float) (n : ℕ) → HasValue x false n 1 → n ≤ 2 ^ k → Sized false k x
sized-of-value k nan n v h = elim v [ ]
sized-of-value k (inf _) n v h = elim v [ ]
sized-of-value k (fin t m e) n v h = (v.0, le_trans (le_of_eq (sym (mul-one (m * up e)) ∙ v.1)) (mul-le-mul_right (down e) h))

-- ---- sums

small-neg : (k : ℕ) (x : Float) → Small k x → Small k (neg x)
unfolding neg
small-neg k nan h = elim h [ ]
small-neg k (inf _) h = elim h [ ]
small-neg k (fin t m e) h = h

-- two fractions over one denominator
left : (K x de dd : ℕ) → x ≤ K * de → x * dd ≤ K * (de * dd)
left K x de dd h = le_trans (mul-le-mul_right dd h) (le_of_eq (mul_assoc K de dd))

right : (K y de dd : ℕ) → y ≤ K * dd → y * de ≤ K * (de * dd)
right K y de dd h = le_trans (left K y dd de h) (le_of_eq (ap (λ (z : ℕ). K * z) (mul_comm dd de)))

small-sum : (f : Format) (s t : Bool) (a b c k : ℕ) → 0 < c → suc k < emax f → a ≤ 2 ^ k * c → b ≤ 2 ^ k * c → Small (suc k) (sum f s a t b c)
unfolding sum
small-sum f s t a b c k C K A B = go (beq s t) (ltb a b)
  where
    both : a + b ≤ 2 ^ suc k * c
    both = subst (λ (z : ℕ). a + b ≤ z * c) (sym (pow-suc 2 k)) (twice a b (2 ^ k) c A B)
      where
        twice : (a b p c : ℕ) → a ≤ p * c → b ≤ p * c → a + b ≤ p * 2 * c
        twice a b p c A B = omega arith

    one : (x y : ℕ) → x ≤ 2 ^ k * c → x - y ≤ 2 ^ suc k * c
    one x y h = le_trans (sub-le x y) (le_trans h (mul-le-mul_right c (le_of_lt (pow-lt (le_refl (suc k))))))

    go : (u v : Bool) → Small (suc k) (cond u (round f s (a + b) c) (cond v (round f t (b - a) c) (round f (s && ltb b a) (a - b) c)))
    go true v = small-round f (a + b) c (suc k) C K both s
    go false true = small-round f (b - a) c (suc k) C K (one b a B) t
    go false false = small-round f (a - b) c (suc k) C K (one a b A) (s && ltb b a)

pub small-add : (f : Format) (k : ℕ) (x y : Float) → suc k < emax f → Small k x → Small k y → Small (suc k) (add f x y)
unfolding add
small-add f k nan y K A B = elim A [ ]
small-add f k (inf _) y K A B = elim A [ ]
small-add f k (fin s m e) nan K A B = elim B [ ]
small-add f k (fin s m e) (inf _) K A B = elim B [ ]
small-add f k (fin s m e) (fin t n d) K A B =
    small-sum f s t (m * up e * down d) (n * up d * down e) (down e * down d) k (mul-pos (down_pos e) (down_pos d)) K
    (left (2 ^ k) (m * up e) (down e) (down d) A) (right (2 ^ k) (n * up d) (down e) (down d) B)

pub small-sub : (f : Format) (k : ℕ) (x y : Float) → suc k < emax f → Small k x → Small k y → Small (suc k) (sub f x y)
unfolding sub
small-sub f k x y K A B = small-add f k x (neg y) K A (small-neg k y B)

-- the difference of two that aren't negative lies between what they are at most
pub sized-sub : (f : Format) (j k : ℕ) (x y : Float) → j < emax f → k < emax f → Sized false j x → Sized false k y → (s : Bool) × Sized s (cond s k j) (sub f x y)
unfolding sub add neg sum
sized-sub f j k nan y J K A B = elim A [ ]
sized-sub f j k (inf _) y J K A B = elim A [ ]
sized-sub f j k (fin false m e) nan J K A B = elim B [ ]
sized-sub f j k (fin false m e) (inf _) J K A B = elim B [ ]
sized-sub f j k (fin true m e) y J K A B = absurd (true≢false A.0)
sized-sub f j k (fin false m e) (fin true n d) J K A B = absurd (true≢false B.0)
sized-sub f j k (fin false m e) (fin false n d) J K A B = go (ltb (m * up e * down d) (n * up d * down e))
  where
    a : ℕ
    a = m * up e * down d

    b : ℕ
    b = n * up d * down e

    C : 0 < down e * down d
    C = mul-pos (down_pos e) (down_pos d)

    go : (v : Bool) → (s : Bool) × Sized s (cond s k j) (cond v (round f true (b - a) (down e * down d)) (round f false (a - b) (down e * down d)))
    go true = (true, sized-round f (b - a) (down e * down d) k C K (le_trans (sub-le b a) (right (2 ^ k) (n * up d) (down e) (down d) B.1)) true)
    go false = (false, sized-round f (a - b) (down e * down d) j C J (le_trans (sub-le a b) (left (2 ^ j) (m * up e) (down e) (down d) A.1)) false)

-- ---- products and quotients

unlike-false : (s : Bool) → unlike s false ≡ s
unlike-false true = refl
unlike-false false = refl

pub sized-mul : (f : Format) (j k : ℕ) (s t : Bool) (x y : Float) → j + k < emax f → Sized s j x → Sized t k y → Sized (unlike s t) (j + k) (mul f x y)
unfolding mul
sized-mul f j k s t nan y K A B = elim A [ ]
sized-mul f j k s t (inf _) y K A B = elim A [ ]
sized-mul f j k s t (fin u m e) nan K A B = elim B [ ]
sized-mul f j k s t (fin u m e) (inf _) K A B = elim B [ ]
sized-mul f j k s t (fin u m e) (fin v n d) K A B =
    subst (λ (w : Bool). Sized w (j + k) (round f (unlike u v) (m * up e * (n * up d)) (down e * down d))) (λ i. unlike (A.0 i) (B.0 i))
    (sized-round f (m * up e * (n * up d)) (down e * down d) (j + k) (mul-pos (down_pos e) (down_pos d)) K
    (le_trans (mul-le-mul A.1 B.1) (le_of_eq (mul-mul-mul_comm (2 ^ j) (down e) (2 ^ k) (down d) ∙ ap (λ (z : ℕ). z * (down e * down d)) (sym (pow-add 2 j k)))))
    (unlike u v))

pub small-half : (f : Format) (k : ℕ) (x : Float) → k < emax f → Small (suc k) x → Small k (mul f x half)
unfolding mul
small-half f k nan K h = elim h [ ]
small-half f k (inf _) K h = elim h [ ]
small-half f k (fin s m e) K h =
    small-round f (m * up e * (1 * 1)) (down e * 2) k (mul-pos (down_pos e) (zero-lt-suc 1)) K
    (le_trans (le_of_eq (mul-one (m * up e))) (le_trans h (le_of_eq (ap (λ (z : ℕ). z * down e) (pow-suc 2 k) ∙ mul_assoc (2 ^ k) 2 (down e) ∙ ap (λ (z : ℕ). 2 ^ k * z) (mul_comm 2 (down e))))))
    (unlike s false)

-- by a whole number, 1 at least
over : (K x de y dd n : ℕ) → x ≤ K * de → y * 1 ≡ n * dd → 0 < n → x * dd ≤ K * (y * de)
over K x de y dd n h v N =
    let g : dd ≤ y = le_trans (le_trans (le_of_eq (sym (one-mul dd))) (mul-le-mul_right dd N)) (le_of_eq (sym v ∙ mul-one y)) in
    le_trans (mul-le-mul h g) (le_of_eq (mul_assoc K de y ∙ ap (λ (z : ℕ). K * z) (mul_comm de y)))

some : (p : ℕ) (d : ℤ) (n : ℕ) → p * up d * 1 ≡ n * down d → 0 < n → 0 < p
some zero d n v N = absurd (lt_irrefl 0 (subst (λ (z : ℕ). 0 < z) (sym v ∙ mul-one (0 * up d) ∙ zero-mul (up d)) (mul-pos N (down_pos d))))
some (suc p) d n v N = zero-lt-suc p

pub not-zero : (p : ℕ) → 0 < p → p ≡ 0 → ⊥
not-zero p h e = omega arith

pub sized-div : (f : Format) (k : ℕ) (s : Bool) (x y : Float) (n : ℕ) → k < emax f → Sized s k x → HasValue y false n 1 → 0 < n → Sized s k (div f x y)
unfolding div
sized-div f k s nan y n K h v N = elim h [ ]
sized-div f k s (inf _) y n K h v N = elim h [ ]
sized-div f k s (fin t m e) nan n K h v N = elim v [ ]
sized-div f k s (fin t m e) (inf _) n K h v N = elim v [ ]
sized-div f k s (fin t m e) (fin true p d) n K h v N = absurd (true≢false v.0)
sized-div f k s (fin t m e) (fin false p d) n K h v N =
    let P = some p d n v.1 N in
    rw (ne_eqb p 0 (not-zero p P))
    (subst (λ (u : Bool). Sized u k (round f (unlike t false) (m * up e * down d) (p * up d * down e))) (unlike-false t ∙ h.0)
    (sized-round f (m * up e * down d) (p * up d * down e) k (mul-pos (mul-pos P (up_pos d)) (down_pos e)) K (over (2 ^ k) (m * up e) (down e) (p * up d) (down d) n h.1 v.1 N) (unlike t false)))

pub small-div : (f : Format) (k : ℕ) (x y : Float) (n : ℕ) → k < emax f → Small k x → HasValue y false n 1 → 0 < n → Small k (div f x y)
small-div f k nan y n K h v N = elim h [ ]
small-div f k (inf _) y n K h v N = elim h [ ]
small-div f k (fin t m e) y n K h v N = small t k (div f (fin t m e) y) (sized-div f k t (fin t m e) y n K (refl, h) v N)
