-- Laws of tests of numbers below a bound. Assumes nothing.
use mathlib.Core.Path.{◌≡◌, refl, sym, ap, ◌∙◌, subst}
use mathlib.Core.Logic.{◌≢◌, ⊎_elim}
use mathlib.Core.Bool.{Bool, true, false, cond, ◌&&◌, and-true, and-false, and_assoc}
use Prim.Native.Nat.{ℕ, zero, suc, ◌+◌, ◌≤◌, ◌<◌}
use native.Mathlib.Nat.{eq-or-lt_of_le, le_of_suc-le-suc}
use native.Mathlib.Numerals.{add-one}
use native.Mathlib.Omega.{arith}
use Rattle.lists.specs.Every.{every, count}
use Rattle.lists.proofs.Tests.{test, not-both, and_left, and_right, both_true, both_ways}

module _ (t : ℕ → Bool) where
  pub every-none : every 0 t ≡ true
  unfolding every
  every-none = refl

  pub every-suc : (n : ℕ) → every (suc n) t ≡ every n t && t n
  unfolding every
  every-suc n = refl

  pub every_more : (n : ℕ) → every n t ≡ true → t n ≡ true → every (n + 1) t ≡ true
  every_more n e h = rw (add-one, every-suc, e, h)

  -- the flag of a loop that is not left early
  pub flag-yes : (n : ℕ) {b : Bool} → b ≡ every n t → t n ≡ true → b ≡ every (n + 1) t
  flag-yes n e h = rw (add-one, every-suc, h, and-true) e

  pub flag-no : (n : ℕ) → t n ≡ false → false ≡ every (n + 1) t
  flag-no n h = rw (add-one, every-suc, h, and-false)

  pub every-fail : (n k : ℕ) → k < n → t k ≡ false → every n t ≡ false
  every-fail zero k l h = absurd (omega arith)
  every-fail (suc n) k l h =
      every-suc n ∙ ⊎_elim
      (λ (e : k ≡ n). rw (subst (λ (m : ℕ). t m ≡ false) e h, and-false))
      (λ (l' : k < n). rw (every-fail n k l' h))
      (eq-or-lt_of_le (le_of_suc-le-suc l))

  pub every-at : (n k : ℕ) → every n t ≡ true → k < n → t k ≡ true
  every-at n k e l = test (t k) (λ d. d) (λ d. absurd (not-both e (every-fail n k l d)))

  pub every-make : (n : ℕ) → ((k : ℕ) → k < n → t k ≡ true) → every n t ≡ true
  every-make zero h = every-none
  every-make (suc n) h = every-suc n ∙ rw (every-make n (λ k l. h k (omega arith)), h n (omega arith))

  pub count_none : count 0 t ≡ 0
  unfolding count
  count_none = refl

  pub count-suc : (n : ℕ) → count (suc n) t ≡ cond (t n) (suc (count n t)) (count n t)
  unfolding count
  count-suc n = refl

  pub count_yes : (n : ℕ) → t n ≡ true → count (n + 1) t ≡ count n t + 1
  count_yes n h = rw (add-one n, add-one (count n t), count-suc n, h)

  pub count_no : (n : ℕ) → t n ≡ false → count (n + 1) t ≡ count n t
  count_no n h = rw (add-one n, count-suc n, h)

  pub count-le : (n : ℕ) → count n t ≤ n
  count-le zero = omega (arith, count_none)
  count-le (suc n) =
      let ih = count-le n in
      rw (count-suc n) (test (t n) (λ e. rw e (omega arith)) (λ e. rw e (omega arith)))

  -- where one number fails, not all pass
  pub count-lt : (n k : ℕ) → k < n → t k ≡ false → count n t < n
  count-lt zero k l h = absurd (omega arith)
  count-lt (suc n) k l h = rw (count-suc n) (test (t n)
      (λ e. rw e (omega (arith, count-lt n k (before n k l h e) h)))
      (λ e. rw e (omega (arith, count-le n))))
    where
      before : (n k : ℕ) → k < suc n → t k ≡ false → t n ≡ true → k < n
      before n k l h e = ⊎_elim (λ (d : k ≡ n). absurd (not-both e (rw (← d) h))) (λ (l' : k < n). l') (eq-or-lt_of_le (le_of_suc-le-suc l))

  -- those below `at` pass, and those from `at` on fail
  pub count-split : (n at : ℕ) → at ≤ n → ((k : ℕ) → k < at → t k ≡ true) → ((k : ℕ) → at ≤ k → k < n → t k ≡ false) → count n t ≡ at
  count-split zero at l below above = count_none ∙ omega arith
  count-split (suc n) at l below above =
      count-suc n ∙ ⊎_elim
      (λ (e : at ≡ suc n). rw (below n (omega arith), count-split n n (omega arith) (λ k h. below k (omega arith)) (λ k h h'. absurd (omega arith))) (sym e))
      (λ (l' : at < suc n). rw (above n (omega arith) (omega arith)) (count-split n at (omega arith) below (λ k h h'. above k h (omega arith))))
      (eq-or-lt_of_le l)

-- ---- the first number aside

pub every_first : (t : ℕ → Bool) (n : ℕ) → every (suc n) t ≡ t 0 && every n (λ i. t (suc i))
unfolding every
every_first t zero = sym (and-true (t 0))
every_first t (suc n) = ap (λ (b : Bool). b && t (suc n)) (every_first t n) ∙ and_assoc (t 0) (every n (λ i. t (suc i))) (t (suc n))

pub count-first : (t : ℕ → Bool) (n : ℕ) → count (suc n) t ≡ cond (t 0) (suc (count n (λ i. t (suc i)))) (count n (λ i. t (suc i)))
unfolding count
count-first t zero = refl
count-first t (suc n) = rw (count-first t n) (go (t 0) (t (suc n)) (count n (λ i. t (suc i))))
  where
    go : (a b : Bool) (k : ℕ) → cond b (suc (cond a (suc k) k)) (cond a (suc k) k) ≡ cond a (suc (cond b (suc k) k)) (cond b (suc k) k)
    go true true k = refl
    go true false k = refl
    go false true k = refl
    go false false k = refl

-- ---- two tests

module _ (s t : ℕ → Bool) where
  pub every-same : (n : ℕ) → ((i : ℕ) → i < n → s i ≡ t i) → every n s ≡ every n t
  every-same zero h = every-none s ∙ sym (every-none t)
  every-same (suc n) h = rw (every-suc s n, every-suc t n, every-same n (λ i l. h i (omega arith)), h n (omega arith))

  pub count_same : (n : ℕ) → ((i : ℕ) → i < n → s i ≡ t i) → count n s ≡ count n t
  count_same zero h = count_none s ∙ sym (count_none t)
  count_same (suc n) h = rw (count-suc s n, count-suc t n, count_same n (λ i l. h i (omega arith)), h n (omega arith))

  -- two walks, or one
  pub every-and : (n : ℕ) → every n (λ i. s i && t i) ≡ every n s && every n t
  every-and n = both_ways (every n (λ i. s i && t i)) (every n s && every n t)
      (λ e. both_true (every n s) (every n t)
      (every-make s n (λ k l. and_left (s k) (t k) (every-at (λ i. s i && t i) n k e l)))
      (every-make t n (λ k l. and_right (s k) (t k) (every-at (λ i. s i && t i) n k e l))))
      (λ e. every-make (λ i. s i && t i) n (λ k l. both_true (s k) (t k)
      (every-at s n k (and_left (every n s) (every n t) e) l)
      (every-at t n k (and_right (every n s) (every n t) e) l)))

  -- one number more passes
  pub count-more : (k : ℕ) → s k ≡ false → t k ≡ true → ((j : ℕ) → j ≢ k → t j ≡ s j) → (n : ℕ) → k < n → count n t ≡ count n s + 1
  count-more k sk tk same zero l = absurd (omega arith)
  count-more k sk tk same (suc n) l =
      let ih = count-more k sk tk same n in
      ⊎_elim
      (λ (e : k ≡ n).
      rw (count-suc t n, count-suc s n, ap t (sym e) ∙ tk, ap s (sym e) ∙ sk) (omega (arith, count_same n (λ i h. sym (same i (λ d. omega arith))))))
      (λ (h : k < n).
      let e = same n (λ d. omega arith) in
      rw (count-suc t n, count-suc s n, e, ih h) (test (s n) (λ d. rw d (omega arith)) (λ d. rw d)))
      (eq-or-lt_of_le (le_of_suc-le-suc l))
