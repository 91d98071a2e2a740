-- Folds over all places and over the occupied ones only. Assumes nothing.
use mathlib.Core.Path.{◌≡◌, refl, sym, ap, ap₂, ◌∙◌}
use mathlib.Core.Bool.{Bool, true, false}
use Prim.Native.Nat.{ℕ, zero, suc, ◌+◌, ◌<◌, max}
use native.Mathlib.Nat.{not-suc-le-zero}
use native.Mathlib.Omega.{arith}
use native.Mathlib.Decide.{dec_lt}
use lib.IntN.{ℤ, pos, ◌+ℤ◌, +ℤ_idr}
use Rattle.maps.specs.Sums.{sum_to, sum_to_ℤ, greatest, when}
use Rattle.maps.proofs.Sums.{sum-next, sum-none, sum_zeros}

unfoldable folds : {A : Type 0} → (A → A → A) → A → (ℕ → A) → ℕ → A
folds op u f zero = u
folds op u f (suc n) = op (folds op u f n) (f n)

module _ {A : Type 0} (op : A → A → A) (u : A) (unit : (a : A) → op a u ≡ a) where
  abbrev fold : (ℕ → A) → ℕ → A
  fold f n = folds op u f n

  none_left : (f : ℕ → A) (w : ℕ) → ((x : ℕ) → x < w → f x ≡ u) → fold f w ≡ u
  unfolding folds
  none_left f zero h = refl
  none_left f (suc w) h = ap₂ op (none_left f w (λ x k. h x (omega arith))) (h w (omega arith)) ∙ unit u

  sparse-step : (f : ℕ → A) (b : ℕ → ℕ) (w n : ℕ) → ((i j : ℕ) → i < j → j < suc n → b i < b j) → ((j : ℕ) → j < suc n → b j < suc w)
      → ((x : ℕ) → x < suc w → ((j : ℕ) → j < suc n → b j ≡ x → ⊥) → f x ≡ u)
      → (((j : ℕ) → j < n → b j < w) → ((x : ℕ) → x < w → ((j : ℕ) → j < n → b j ≡ x → ⊥) → f x ≡ u) → fold f w ≡ fold (λ j. f (b j)) n)
      → (((j : ℕ) → j < suc n → b j < w) → ((x : ℕ) → x < w → ((j : ℕ) → j < suc n → b j ≡ x → ⊥) → f x ≡ u) → fold f w ≡ fold (λ j. f (b j)) (suc n))
      → Dec (b n < w) → fold f (suc w) ≡ fold (λ j. f (b j)) (suc n)
  unfolding folds
  sparse-step f b w n asc top out less on (yes p) =
      let below : (j : ℕ) → j < suc n → b j < w = λ j h. up j h (dec_lt j n) in
      ap₂ op (on below (λ x h k. out x (omega arith) k)) (out w (omega arith) (λ j h e. omega (arith, below j h))) ∙ unit (fold (λ j. f (b j)) (suc n))
    where
      up : (j : ℕ) → j < suc n → Dec (j < n) → b j < w
      up j h (yes k) = omega (arith, asc j n k (omega arith))
      up j h (no k) = let e : j ≡ n = omega arith in rw e p
  sparse-step f b w n asc top out less on (no p) =
      let e : b n ≡ w = omega (arith, top n (omega arith)) in
      ap₂ op
      (less (λ j h. omega (arith, asc j n h (omega arith)))
      (λ x h k. out x (omega arith) (λ j l q. other x h k e j q (dec_lt j n) l)))
      (ap f (sym e))
    where
      other : (x : ℕ) → x < w → ((j : ℕ) → j < n → b j ≡ x → ⊥) → b n ≡ w → (j : ℕ) → b j ≡ x → Dec (j < n) → j < suc n → ⊥
      other x h k e j q (yes m) l = k j m q
      other x h k e j q (no m) l = let r : j ≡ n = omega arith in let z : b n ≡ x = rw r at q in omega arith

  -- b names n places below w in ascending order, and f is the unit at every other
  sparse : (f : ℕ → A) (b : ℕ → ℕ) (w n : ℕ) → ((i j : ℕ) → i < j → j < n → b i < b j) → ((j : ℕ) → j < n → b j < w)
      → ((x : ℕ) → x < w → ((j : ℕ) → j < n → b j ≡ x → ⊥) → f x ≡ u) → fold f w ≡ fold (λ j. f (b j)) n
  unfolding folds
  sparse f b zero zero asc top out = refl
  sparse f b zero (suc n) asc top out = absurd (not-suc-le-zero (top 0 (omega arith)))
  sparse f b (suc w) zero asc top out = none_left f (suc w) (λ x h. out x h (λ j k. absurd (not-suc-le-zero k)))
  sparse f b (suc w) (suc n) asc top out =
      sparse-step f b w n asc top out
      (λ t o. sparse f b w n (λ i j h k. asc i j h (omega arith)) t o)
      (λ t o. sparse f b w (suc n) asc t o)
      (dec_lt (b n) w)

sum-fold : (f : ℕ → ℕ) (n : ℕ) → sum_to f n ≡ folds ◌+◌ 0 f n
unfolding sum_to folds
sum-fold f zero = refl
sum-fold f (suc n) = ap (λ (a : ℕ). a + f n) (sum-fold f n)

greatest-fold : (f : ℕ → ℕ) (n : ℕ) → greatest f n ≡ folds max 0 f n
unfolding greatest folds
greatest-fold f zero = refl
greatest-fold f (suc n) = ap (λ (a : ℕ). max a (f n)) (greatest-fold f n)

sum_ℤ-fold : (f : ℕ → ℤ) (n : ℕ) → sum_to_ℤ f n ≡ folds ◌+ℤ◌ (pos 0) f n
unfolding sum_to_ℤ folds
sum_ℤ-fold f zero = refl
sum_ℤ-fold f (suc n) = ap (λ (a : ℤ). a +ℤ f n) (sum_ℤ-fold f n)

plus-zero : (a : ℕ) → a + 0 ≡ a
plus-zero a = omega arith

max-zero : (a : ℕ) → max a 0 ≡ a
max-zero a = omega arith

plus_ℤ-zero : (a : ℤ) → a +ℤ pos 0 ≡ a
plus_ℤ-zero a = +ℤ_idr a

-- a sum with one term, and with none
pub one_of : (f : ℕ → ℕ) (n j : ℕ) → j < n → ((i : ℕ) → i < n → (i ≡ j → ⊥) → f i ≡ 0) → sum_to f n ≡ f j
one_of f n j h out =
    omega (arith, sum-none f j (λ i k. out i (omega arith) (λ e. omega arith)), sum-next f j, sum_zeros f (j + 1) n (omega arith) (λ i k l. out i l (λ e. omega arith)))

pub when-none : (b : Bool) → when b 0 ≡ 0
when-none true = refl
when-none false = refl

-- b names n places below w in ascending order
pub record Sparse (b : ℕ → ℕ) (w n : ℕ) : Type 0 where
  pub asc : (i j : ℕ) → i < j → j < n → b i < b j
  pub top : (j : ℕ) → j < n → b j < w

abbrev pub Off : (b : ℕ → ℕ) (n x : ℕ) → Type 0
Off b n x = (j : ℕ) → j < n → b j ≡ x → ⊥

module _ (b : ℕ → ℕ) (w n : ℕ) (S : Sparse b w n) where
  pub sparse-sum : (f : ℕ → ℕ) → ((x : ℕ) → x < w → Off b n x → f x ≡ 0) → sum_to f w ≡ sum_to (λ j. f (b j)) n
  sparse-sum f out = sum-fold f w ∙ sparse ◌+◌ 0 plus-zero f b w n S.asc S.top out ∙ sym (sum-fold (λ j. f (b j)) n)

  pub sparse-greatest : (f : ℕ → ℕ) → ((x : ℕ) → x < w → Off b n x → f x ≡ 0) → greatest f w ≡ greatest (λ j. f (b j)) n
  sparse-greatest f out = greatest-fold f w ∙ sparse max 0 max-zero f b w n S.asc S.top out ∙ sym (greatest-fold (λ j. f (b j)) n)

  pub sparse-sum_ℤ : (f : ℕ → ℤ) → ((x : ℕ) → x < w → Off b n x → f x ≡ pos 0) → sum_to_ℤ f w ≡ sum_to_ℤ (λ j. f (b j)) n
  sparse-sum_ℤ f out = sum_ℤ-fold f w ∙ sparse ◌+ℤ◌ (pos 0) plus_ℤ-zero f b w n S.asc S.top out ∙ sym (sum_ℤ-fold (λ j. f (b j)) n)
