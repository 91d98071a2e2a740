-- The order of floats. `<` is asymmetric; what is not below is transitive past a number; of two numbers one is at most the other. Assumes nothing.
use Rattle.std.proofs.Common.{◌≡◌, ℕ, zero, suc, ◌+◌, ◌*◌, ◌<◌, ◌≤◌, Bool, true, false, not, ◌&&◌, ◌||◌, T, eqb, ltb, refl, mul-le-mul_right, le_of_mul-le-mul_right, arith, ltb-false, ltb-true, le-ltb, lt-ltb, eq-eqb}
use lib.Ieee.{Float, nan, inf, fin, up, down, below, level, lt, le, is_nan}
use lib.Ieee.Fits.{down_pos}
use Rattle.lists.proofs.Tests.{test, not-both}

-- fractions a/a', b/b', c/c'
cross : (a b c a' b' c' : ℕ) → 0 < b' → a * b' ≤ b * a' → b * c' ≤ c * b' → a * c' ≤ c * a'
cross a b c a' b' c' pos h k =
    le_of_mul-le-mul_right {k = b'} (omega (arith, mul-le-mul_right c' h, mul-le-mul_right a' k)) pos

-- a product with a positive factor is zero only if the other is
zero_of : (a b : ℕ) → 0 < b → a * b ≤ 0 → a ≤ 0
zero_of a b pos h = le_of_mul-le-mul_right {k = b} (omega arith) pos

none_of : (a b : ℕ) → a ≤ 0 → a * b ≤ 0
none_of a b h = omega (arith, mul-le-mul_right b h)

-- y is not below x, z not below y: z is not below x
fins : (s t r : Bool) (a b c a' b' c' : ℕ) → 0 < a' → 0 < b' → 0 < c'
    → below t (b * a') s (a * b') ≡ false → below r (c * b') t (b * c') ≡ false → below r (c * a') s (a * c') ≡ false
fins false false false a b c a' b' c' p q o h k = le-ltb (c * a') (a * c') (cross a b c a' b' c' q (ltb-false (b * a') (a * b') h) (ltb-false (c * b') (b * c') k))
fins true true true a b c a' b' c' p q o h k = le-ltb (a * c') (c * a') (cross c b a c' b' a' q (ltb-false (b * c') (c * b') k) (ltb-false (a * b') (b * a') h))
fins true true false a b c a' b' c' p q o h k = refl
fins true false false a b c a' b' c' p q o h k = refl
fins true false true a b c a' b' c' p q o h k =
    let z = zero_of c b' q (omega (arith, ltb-false 0 (c * b' + b * c') k)) in le-ltb (a * c') (c * a') (omega (arith, none_of c a' z))
fins false true false a b c a' b' c' p q o h k =
    let z = zero_of a b' q (omega (arith, ltb-false 0 (b * a' + a * b') h)) in le-ltb (c * a') (a * c') (omega (arith, none_of a c' z))
fins false false true a b c a' b' c' p q o h k =
    let n = ltb-false 0 (c * b' + b * c') k in
    let zb = zero_of b c' o (omega arith) in
    let zc = zero_of c b' q (omega arith) in
    let za = zero_of a b' q (omega (arith, ltb-false (b * a') (a * b') h, none_of b a' zb)) in
    le-ltb 0 (c * a' + a * c') (omega (arith, none_of c a' zc, none_of a c' za))
fins false true true a b c a' b' c' p q o h k =
    let n = ltb-false 0 (b * a' + a * b') h in
    let zb = zero_of b a' p (omega arith) in
    let za = zero_of a b' q (omega arith) in
    let zc = zero_of c b' q (omega (arith, ltb-false (b * c') (c * b') k, none_of b c' zb)) in
    le-ltb 0 (c * a' + a * c') (omega (arith, none_of c a' zc, none_of a c' za))

infs : (s t r : Bool) → (t && not s) ≡ false → (r && not t) ≡ false → (r && not s) ≡ false
infs true t true h k = refl
infs true t false h k = refl
infs false true r h k = absurd (not-both refl h)
infs false false true h k = absurd (not-both refl k)
infs false false false h k = refl

pub lt-transitive : (x y z : Float) → is_nan y ≡ false → lt y x ≡ false → lt z y ≡ false → lt z x ≡ false
unfolding lt is_nan
lt-transitive x nan z n h k = absurd (not-both refl n)
lt-transitive nan (inf t) nan n h k = refl
lt-transitive nan (inf t) (inf r) n h k = refl
lt-transitive nan (inf t) (fin r c o) n h k = refl
lt-transitive (inf s) (inf t) nan n h k = refl
lt-transitive (inf s) (inf t) (inf r) n h k = infs s t r h k
lt-transitive (inf s) (inf true) (fin r c o) n h k = h
lt-transitive (inf s) (inf false) (fin r c o) n h k = absurd (not-both refl k)
lt-transitive (fin s a p) (inf t) nan n h k = refl
lt-transitive (fin s a p) (inf true) (inf r) n h k = absurd (not-both refl h)
lt-transitive (fin s a p) (inf false) (inf true) n h k = absurd (not-both refl k)
lt-transitive (fin s a p) (inf false) (inf false) n h k = refl
lt-transitive (fin s a p) (inf true) (fin r c o) n h k = absurd (not-both refl h)
lt-transitive (fin s a p) (inf false) (fin r c o) n h k = absurd (not-both refl k)
lt-transitive nan (fin t b q) nan n h k = refl
lt-transitive nan (fin t b q) (inf r) n h k = refl
lt-transitive nan (fin t b q) (fin r c o) n h k = refl
lt-transitive (inf s) (fin t b q) nan n h k = refl
lt-transitive (inf s) (fin t b q) (inf true) n h k = absurd (not-both refl k)
lt-transitive (inf s) (fin t b q) (inf false) n h k = refl
lt-transitive (inf s) (fin t b q) (fin r c o) n h k = h
lt-transitive (fin s a p) (fin t b q) nan n h k = refl
lt-transitive (fin s a p) (fin t b q) (inf r) n h k = k
lt-transitive (fin s a p) (fin t b q) (fin r c o) n h k =
    fins s t r (a * up p) (b * up q) (c * up o) (down p) (down q) (down o) (down_pos p) (down_pos q) (down_pos o) h k

fins-asymmetric : (s t : Bool) (a b : ℕ) → below s a t b ≡ true → below t b s a ≡ false
fins-asymmetric false false a b h = le-ltb b a (omega (arith, ltb-true a b h))
fins-asymmetric false true a b h = absurd (not-both h refl)
fins-asymmetric true false a b h = refl
fins-asymmetric true true a b h = le-ltb a b (omega (arith, ltb-true b a h))

pub lt-asymmetric : (x y : Float) → lt x y ≡ true → lt y x ≡ false
unfolding lt
lt-asymmetric nan y h = absurd (not-both h refl)
lt-asymmetric (inf s) nan h = refl
lt-asymmetric (inf s) (inf true) h = test s (λ e. absurd (not-both h (rw e))) (λ e. absurd (not-both h (rw e)))
lt-asymmetric (inf s) (inf false) h = refl
lt-asymmetric (inf true) (fin t b q) h = refl
lt-asymmetric (inf false) (fin t b q) h = absurd (not-both h refl)
lt-asymmetric (fin s a p) nan h = refl
lt-asymmetric (fin s a p) (inf true) h = absurd (not-both h refl)
lt-asymmetric (fin s a p) (inf false) h = refl
lt-asymmetric (fin s a p) (fin t b q) h = fins-asymmetric s t (a * up p * down q) (b * up q * down p) h

-- ---- of two numbers one is at most the other

some-way : (s t : Bool) (a b : ℕ) → below s a t b ≡ false → (below t b s a || level t b s a) ≡ true
some-way false false a b h = reach b a (ltb-false a b h)
  where
    reach : (a b : ℕ) → a ≤ b → (ltb a b || (eqb a b && true)) ≡ true
    reach a b h = test (ltb a b) (λ e. rw e) (λ e. let k = ltb-false a b e in let q : a ≡ b = omega arith in rw (e, eq-eqb a b q))
some-way false true a b h = positive (b + a) b a refl
  where
    positive : (n b a : ℕ) → n ≡ b + a → (ltb 0 n || (eqb b a && eqb b 0)) ≡ true
    positive zero b a e = let p : b ≡ 0 = omega arith in let q : b ≡ a = omega arith in rw (eq-eqb b a q, eq-eqb b 0 p)
    positive (suc n) b a e = rw (lt-ltb 0 (suc n) (omega arith))
some-way true false a b h =
    let k = ltb-false 0 (a + b) h in
    let p : b ≡ 0 = omega arith in
    let q : b ≡ a = omega arith in
    rw (eq-eqb b a q, eq-eqb b 0 p)
some-way true true a b h = reach b a (ltb-false b a h)
  where
    reach : (b a : ℕ) → a ≤ b → (ltb a b || (eqb b a && true)) ≡ true
    reach b a h = test (ltb a b) (λ e. rw e) (λ e. let k = ltb-false a b e in let q : b ≡ a = omega arith in rw (e, eq-eqb b a q))

pub le_of_not_lt : (x y : Float) → T (not (is_nan x)) → T (not (is_nan y)) → lt x y ≡ false → le y x ≡ true
unfolding lt le is_nan
le_of_not_lt nan y p q h = absurd p
le_of_not_lt (inf s) nan p q h = absurd q
le_of_not_lt (fin s m e) nan p q h = absurd q
le_of_not_lt (inf true) (inf true) p q h = refl
le_of_not_lt (inf true) (inf false) p q h = absurd (not-both refl h)
le_of_not_lt (inf false) (inf true) p q h = refl
le_of_not_lt (inf false) (inf false) p q h = refl
le_of_not_lt (inf true) (fin t n d) p q h = absurd (not-both refl h)
le_of_not_lt (inf false) (fin t n d) p q h = refl
le_of_not_lt (fin s m e) (inf true) p q h = refl
le_of_not_lt (fin s m e) (inf false) p q h = absurd (not-both refl h)
le_of_not_lt (fin s m e) (fin t n d) p q h = some-way s t (m * up e * down d) (n * up d * down e) h
