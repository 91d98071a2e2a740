-- Laws of sums, of the greatest value and of the first index of a function on 0, 1, .., n - 1. Assumes nothing.
use Prim.Native.Nat.{ℕ, zero, suc, ◌+◌, ◌-◌, ◌*◌, ◌≤◌, ◌<◌, max}
use mathlib.Core.Path.{◌≡◌, refl, ap, ap₂, ◌∙◌, subst}
use mathlib.Core.Bool.{Bool, true, false, cond}
use native.Mathlib.Omega.{arith}
use native.Mathlib.Nat.{add-zero, add-suc, mul-zero, mul-suc}
use native.Mathlib.Numerals.{add-one}
use native.Mathlib.Decide.{dec_lt}
use lib.IntN.{ℤ, pos, nat_abs, ◌+ℤ◌, +ℤ_idr}
use lib.Dec.{ltb}
use borrow.Author.Tests.{lt-ltb, le-ltb}
use Rattle.maps.specs.Sums.{sum_to, sum_to_ℤ, greatest, first, when, when_ℤ}
use Rattle.signed.proofs.Sizes.{abs-add}

back : (l e : ℕ) → l ≤ e → l + (e - l) ≡ e
back l e h = omega arith

-- ---- sums of natural numbers

pub sum-next : (f : ℕ → ℕ) (i : ℕ) → sum_to f (i + 1) ≡ sum_to f i + f i
unfolding sum_to
sum-next f i = rw add-one refl

pub sum-cong : (f g : ℕ → ℕ) (n : ℕ) → ((i : ℕ) → i < n → f i ≡ g i) → sum_to f n ≡ sum_to g n
unfolding sum_to
sum-cong f g zero h = refl
sum-cong f g (suc n) h =
    let a : sum_to f n ≡ sum_to g n = sum-cong f g n (λ i p. h i (omega arith)) in
    let b : f n ≡ g n = h n (omega arith) in
    omega arith

pub sum-add : (f g : ℕ → ℕ) (n : ℕ) → sum_to f n + sum_to g n ≡ sum_to (λ i. f i + g i) n
unfolding sum_to
sum-add f g zero = refl
sum-add f g (suc n) =
    let a : sum_to f n + sum_to g n ≡ sum_to (λ i. f i + g i) n = sum-add f g n in
    omega arith

pub sum-le : (f g : ℕ → ℕ) (n : ℕ) → ((i : ℕ) → i < n → f i ≤ g i) → sum_to f n ≤ sum_to g n
unfolding sum_to
sum-le f g zero h = omega arith
sum-le f g (suc n) h =
    let a : sum_to f n ≤ sum_to g n = sum-le f g n (λ i p. h i (omega arith)) in
    let b : f n ≤ g n = h n (omega arith) in
    omega arith

-- n values of at most H each
pub sum-under : (f : ℕ → ℕ) (n H : ℕ) → ((i : ℕ) → i < n → f i ≤ H) → sum_to f n ≤ n * H
unfolding sum_to
sum-under f zero H h = omega arith
sum-under f (suc n) H h =
    let a : sum_to f n ≤ n * H = sum-under f n H (λ i p. h i (omega arith)) in
    let b : f n ≤ H = h n (omega arith) in
    omega arith

sum_grow : (f : ℕ → ℕ) (l k : ℕ) → sum_to f l ≤ sum_to f (l + k)
unfolding sum_to
sum_grow f l zero = rw add-zero (omega arith)
sum_grow f l (suc k) = rw add-suc (let a : sum_to f l ≤ sum_to f (l + k) = sum_grow f l k in omega arith)

pub sum_mono : (f : ℕ → ℕ) (l e : ℕ) → l ≤ e → sum_to f l ≤ sum_to f e
sum_mono f l e h = subst (λ (m : ℕ). sum_to f l ≤ sum_to f m) (back l e h) (sum_grow f l (e - l))

pub sum-term : (f : ℕ → ℕ) (n i : ℕ) → i < n → f i ≤ sum_to f n
sum-term f n i h = omega (arith, sum_mono f (i + 1) n (omega arith), sum-next f i)

flat_on : (f : ℕ → ℕ) (p k c : ℕ) → ((x : ℕ) → p ≤ x → x < p + k → f x ≡ c) → sum_to f (p + k) ≡ sum_to f p + c * k
unfolding sum_to
flat_on f p zero c h = rw (add-zero p, mul-zero) (omega arith)
flat_on f p (suc k) c h =
    rw (add-suc, mul-suc)
    (let a : sum_to f (p + k) ≡ sum_to f p + c * k = flat_on f p k c (λ x u w. h x u (omega arith)) in
    let b : f (p + k) ≡ c = h (p + k) (omega arith) (omega arith) in
    omega arith)

-- a stretch on which f is c
pub sum-flat : (f : ℕ → ℕ) (p q c : ℕ) → p ≤ q → ((x : ℕ) → p ≤ x → x < q → f x ≡ c) → sum_to f q ≡ sum_to f p + c * (q - p)
sum-flat f p q c h flat =
    subst (λ (m : ℕ). sum_to f m ≡ sum_to f p + c * (q - p)) (back p q h)
    (flat_on f p (q - p) c (λ x u w. flat x u (omega arith)))

pub sum_zeros : (f : ℕ → ℕ) (p q : ℕ) → p ≤ q → ((j : ℕ) → p ≤ j → j < q → f j ≡ 0) → sum_to f q ≡ sum_to f p
sum_zeros f p q h z = omega (arith, sum-flat f p q 0 h z)

pub sum-none : (f : ℕ → ℕ) (n : ℕ) → ((j : ℕ) → j < n → f j ≡ 0) → sum_to f n ≡ 0
unfolding sum_to
sum-none f n z = sum_zeros f 0 n (omega arith) (λ j a b. z j b)

mask-on : (v : ℕ → ℕ) (l k : ℕ) → sum_to (λ i. when (ltb i l) (v i)) (l + k) ≡ sum_to v l
unfolding sum_to
mask-on v l zero = rw add-zero (sum-cong (λ i. when (ltb i l) (v i)) v l (λ i p. rw (lt-ltb i l p) refl))
mask-on v l (suc k) =
    rw (add-suc, le-ltb (l + k) l (omega arith))
    (let a : sum_to (λ i. when (ltb i l) (v i)) (l + k) ≡ sum_to v l = mask-on v l k in omega arith)

-- the first l of v, as a sum over all n
pub sum-mask : (v : ℕ → ℕ) (l n : ℕ) → l ≤ n → sum_to (λ i. when (ltb i l) (v i)) n ≡ sum_to v l
sum-mask v l n h = subst (λ (m : ℕ). sum_to (λ i. when (ltb i l) (v i)) m ≡ sum_to v l) (back l n h) (mask-on v l (n - l))

pub keep-le : (b : Bool) (v : ℕ) → when b v ≤ v
keep-le true v = omega arith
keep-le false v = omega arith

-- a masked sum is at most the whole
pub sum_kept : (k : ℕ → Bool) (v : ℕ → ℕ) (n : ℕ) → sum_to (λ i. when (k i) (v i)) n ≤ sum_to v n
sum_kept k v n = sum-le (λ i. when (k i) (v i)) v n (λ i h. keep-le (k i) (v i))

-- ---- sums of integers

pub sum_ℤ-next : (f : ℕ → ℤ) (i : ℕ) → sum_to_ℤ f (i + 1) ≡ sum_to_ℤ f i +ℤ f i
unfolding sum_to_ℤ
sum_ℤ-next f i = rw add-one refl

pub sum_ℤ-cong : (f g : ℕ → ℤ) (n : ℕ) → ((i : ℕ) → i < n → f i ≡ g i) → sum_to_ℤ f n ≡ sum_to_ℤ g n
unfolding sum_to_ℤ
sum_ℤ-cong f g zero h = refl
sum_ℤ-cong f g (suc n) h = ap₂ ◌+ℤ◌ (sum_ℤ-cong f g n (λ i p. h i (omega arith))) (h n (omega arith))

zeros-on : (f : ℕ → ℤ) (p k : ℕ) → ((j : ℕ) → p ≤ j → j < p + k → f j ≡ pos 0) → sum_to_ℤ f (p + k) ≡ sum_to_ℤ f p
unfolding sum_to_ℤ
zeros-on f p zero h = rw add-zero refl
zeros-on f p (suc k) h =
    rw (add-suc, h (p + k) (omega arith) (omega arith), +ℤ_idr)
    (zeros-on f p k (λ j a b. h j a (omega arith)))

pub sum_ℤ-zeros : (f : ℕ → ℤ) (p q : ℕ) → p ≤ q → ((j : ℕ) → p ≤ j → j < q → f j ≡ pos 0) → sum_to_ℤ f q ≡ sum_to_ℤ f p
sum_ℤ-zeros f p q h z = subst (λ (m : ℕ). sum_to_ℤ f m ≡ sum_to_ℤ f p) (back p q h) (zeros-on f p (q - p) (λ j a b. z j a (omega arith)))

pub sum_ℤ-none : (f : ℕ → ℤ) (n : ℕ) → ((j : ℕ) → j < n → f j ≡ pos 0) → sum_to_ℤ f n ≡ pos 0
unfolding sum_to_ℤ
sum_ℤ-none f n z = sum_ℤ-zeros f 0 n (omega arith) (λ j a b. z j b)

-- n values of at most H each, whatever their signs
pub sum_ℤ-under : (f : ℕ → ℤ) (n H : ℕ) → ((j : ℕ) → j < n → nat_abs (f j) ≤ H) → nat_abs (sum_to_ℤ f n) ≤ n * H
unfolding sum_to_ℤ
sum_ℤ-under f zero H h = omega arith
sum_ℤ-under f (suc n) H h =
    let a : nat_abs (sum_to_ℤ f n) ≤ n * H = sum_ℤ-under f n H (λ j p. h j (omega arith)) in
    omega (arith, abs-add (sum_to_ℤ f n) (f n), h n (omega arith))

pub keep_ℤ-abs : (b : Bool) (z : ℤ) (H : ℕ) → nat_abs z ≤ H → nat_abs (when_ℤ b z) ≤ H
keep_ℤ-abs true z H h = h
keep_ℤ-abs false z H h = omega arith

-- ---- the greatest value

pub greatest-next : (f : ℕ → ℕ) (i : ℕ) → greatest f (i + 1) ≡ max (greatest f i) (f i)
unfolding greatest
greatest-next f i = rw add-one refl

pub greatest-cong : (f g : ℕ → ℕ) (n : ℕ) → ((i : ℕ) → i < n → f i ≡ g i) → greatest f n ≡ greatest g n
unfolding greatest
greatest-cong f g zero h = refl
greatest-cong f g (suc n) h =
    let a : greatest f n ≡ greatest g n = greatest-cong f g n (λ i p. h i (omega arith)) in
    let b : f n ≡ g n = h n (omega arith) in
    omega arith

pub greatest-over : (f : ℕ → ℕ) (n i : ℕ) → i < n → f i ≤ greatest f n
unfolding greatest
greatest-over f zero i h = omega arith
greatest-over f (suc n) i h = go (greatest-over f n i) (dec_lt i n)
  where
    go : (i < n → f i ≤ greatest f n) → Dec (i < n) → f i ≤ max (greatest f n) (f n)
    go ih (yes p) = let a : f i ≤ greatest f n = ih p in omega arith
    go ih (no q) = let e : i ≡ n = omega arith in let b : f i ≡ f n = ap f e in omega arith

pub greatest-under : (f : ℕ → ℕ) (n p : ℕ) → ((i : ℕ) → i < n → f i ≤ p) → greatest f n ≤ p
unfolding greatest
greatest-under f zero p h = omega arith
greatest-under f (suc n) p h =
    let a : greatest f n ≤ p = greatest-under f n p (λ i u. h i (omega arith)) in
    let b : f n ≤ p = h n (omega arith) in
    omega arith

pub greatest-zeros : (f : ℕ → ℕ) (p q : ℕ) → p ≤ q → ((j : ℕ) → p ≤ j → j < q → f j ≡ 0) → greatest f q ≡ greatest f p
greatest-zeros f p q h z =
    let a : greatest f q ≤ greatest f p = greatest-under f q (greatest f p) (λ j u. go j u (dec_lt j p)) in
    let b : greatest f p ≤ greatest f q = greatest-under f p (greatest f q) (λ j u. greatest-over f q j (omega arith)) in
    omega arith
  where
    go : (j : ℕ) → j < q → Dec (j < p) → f j ≤ greatest f p
    go j u (yes w) = greatest-over f p j w
    go j u (no w) = omega (arith, z j (omega arith) u)

-- ---- the first index

pub first-is : (p : ℕ → Bool) (c k r : ℕ) → c ≤ r → r ≤ c + k → ((x : ℕ) → c ≤ x → x < r → p x ≡ false) → (r < c + k → p r ≡ true) → first p c k ≡ r
unfolding first
first-is p c zero r a b f t = omega arith
first-is p c (suc k) r a b f t =
    go (λ q. first-is p (suc c) k r q (omega arith) (λ x u w. f x (omega arith) w) (λ u. t (omega arith))) (dec_lt c r)
  where
    go : (c < r → first p (suc c) k ≡ r) → Dec (c < r) → cond (p c) c (first p (suc c) k) ≡ r
    go ih (yes q) = rw (f c (omega arith) q) (ih q)
    go ih (no q) =
        let e : c ≡ r = omega arith in
        let tc : p c ≡ true = ap p e ∙ t (omega arith) in
        rw tc e

pub sum-zero : (f : ℕ → ℕ) → sum_to f 0 ≡ 0
unfolding sum_to
sum-zero f = refl

pub greatest-is : (f : ℕ → ℕ) (n p i : ℕ) → ((x : ℕ) → x < n → f x ≤ p) → i < n → f i ≡ p → greatest f n ≡ p
greatest-is f n p i h u e = omega (arith, greatest-under f n p h, greatest-over f n i u)
