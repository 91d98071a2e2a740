-- The best of the candidates when one is added or taken away. Assumes nothing.
use mathlib.Core.Path.{◌≡◌, refl, sym, ap, ◌∙◌}
use mathlib.Core.Bool.{true, false}
use mathlib.Core.Option.{Option, none, some}
use Prim.Native.Nat.{ℕ, zero, suc, ◌+◌, ◌-◌, ◌≤◌, ◌<◌}
use native.Mathlib.Omega.{arith}
use lib.Dec.{eqb, ltb}
use borrow.Author.Tests.{ltb-true, ltb-false, eqb-true, eqb-false, lt-ltb, le-ltb}
use Rattle.lists.proofs.Tests.{test, maybe, not-both}
use Rattle.matching.specs.declared.MatchResult.{MatchResult}
use Rattle.matching.specs.Results.{better}
use Rattle.matching.proofs.Ranking.{better-asymmetric, better-transitive}
use Rattle.model.specs.Query.{track_best, best_below}
use Rattle.model.specs.Claim.{ranks_above}

pub best-ext : (f g : ℕ → Option MatchResult) (n : ℕ) → ((j : ℕ) → j < n → f j ≡ g j) → best_below n f ≡ best_below n g
unfolding best_below
best-ext f g zero h = refl
best-ext f g (suc n) h = rw (best-ext f g n (λ j e. h j (omega arith)), h n (omega arith))

-- ids that are no candidates change nothing
skip : (f : ℕ → Option MatchResult) (a d : ℕ) → ((j : ℕ) → a ≤ j → f j ≡ none) → best_below (a + d) f ≡ best_below a f
unfolding best_below
skip f a zero h = let e : a + 0 ≡ a = omega arith in rw e
skip f a (suc d) h =
    let ih = skip f a d h in
    let e : a + suc d ≡ suc (a + d) = omega arith in
    rw (e, h (a + d) (omega arith)) ih

pub best-skip : (f : ℕ → Option MatchResult) (a n : ℕ) → a ≤ n → ((j : ℕ) → a ≤ j → f j ≡ none) → best_below n f ≡ best_below a f
best-skip f a n le h = let e : a + (n - a) ≡ n = omega arith in rw e at (skip f a (n - a) h)

-- the best is a candidate
pub best-is : (f : ℕ → Option MatchResult) (n : ℕ) (b : ℕ × MatchResult) → best_below n f ≡ some b → f b.0 ≡ some b.1
unfolding best_below
best-is f zero b e = let z : ◌≡◌ {A = ℕ} 0 1 = cc in absurd (omega arith)
best-is f (suc n) b e =
    maybe (f n)
    (λ d. best-is f n b (rw d at e))
    (λ r d. maybe (best_below n f)
    (λ g. let e₁ : some (n, r) ≡ some b = (rw (d, g) at e) in let h : (n, r) ≡ b = cc in rw (← h) d)
    (λ i g. test (better r i.1)
    (λ k. let e₁ : some (n, r) ≡ some b = (rw (d, g, k) at e) in let h : (n, r) ≡ b = cc in rw (← h) d)
    (λ k. let e₁ : some i ≡ some b = (rw (d, g, k) at e) in let h : i ≡ b = cc in best-is f n b (g ∙ ap some h))))

pub best-lt : (f : ℕ → Option MatchResult) (n : ℕ) (b : ℕ × MatchResult) → best_below n f ≡ some b → b.0 < n
unfolding best_below
best-lt f zero b e = let z : ◌≡◌ {A = ℕ} 0 1 = cc in absurd (omega arith)
best-lt f (suc n) b e =
    maybe (f n)
    (λ d. let h = best-lt f n b (rw d at e) in omega arith)
    (λ r d. maybe (best_below n f)
    (λ g. let e₁ : some (n, r) ≡ some b = (rw (d, g) at e) in let h : n ≡ b.0 = cc in omega arith)
    (λ i g. test (better r i.1)
    (λ k. let e₁ : some (n, r) ≡ some b = (rw (d, g, k) at e) in let h : n ≡ b.0 = cc in omega arith)
    (λ k. let e₁ : some i ≡ some b = (rw (d, g, k) at e) in let h : i ≡ b = cc in let m = best-lt f n b (g ∙ ap some h) in omega arith)))

-- an empty place does not count
pub best_none : (f : ℕ → Option MatchResult) (n : ℕ) → f n ≡ none → best_below (suc n) f ≡ best_below n f
unfolding best_below
best_none f n e = rw e

-- What becomes of the best, b before, when candidate (i, r) joins
pub data Joined (i : ℕ) (r : MatchResult) (b d : Option (ℕ × MatchResult)) : Type 0 where
  alone : b ≡ none → d ≡ some (i, r) → Joined i r b d
  wins : (t : ℕ × MatchResult) → b ≡ some t → d ≡ some (i, r) → ranks_above r i t.1 t.0 ≡ true → Joined i r b d
  loses : (t : ℕ × MatchResult) → b ≡ some t → d ≡ some t → ranks_above r i t.1 t.0 ≡ false → Joined i r b d

module _ (i : ℕ) (r : MatchResult) where
  beats : (t : MatchResult) (j : ℕ) → better t r ≡ false → i < j → ranks_above r i t j ≡ true
  beats t j e h = rw (e, lt-ltb i j h) (test (better r t) (λ d. rw d) (λ d. rw d))

  yields : (t : MatchResult) (j : ℕ) → better t r ≡ true → ranks_above r i t j ≡ false
  yields t j e = rw (better-asymmetric t r e, e)

  -- a candidate (n, t) after i comes to both
  next : (n : ℕ) (t : MatchResult) {b d : Option (ℕ × MatchResult)} → i < n → Joined i r b d → Joined i r (track_best b n (some t)) (track_best d n (some t))
  next n t h (alone e f) =
      rw (e, f) (test (better t r)
      (λ g. rw g (loses (n, t) refl refl (yields t n g)))
      (λ g. rw g (wins (n, t) refl refl (beats t n g h))))
  next n t h (wins s e f a) =
      rw (e, f) (test (better t s.1)
      (λ g. test (better t r)
      (λ k. rw (g, k) (loses (n, t) refl refl (yields t n k)))
      (λ k. rw (g, k) (wins (n, t) refl refl (beats t n k h))))
      (λ g. test (better t r)
      (λ k. absurd (impossible s g k a))
      (λ k. rw (g, k) (wins s refl refl a))))
    where
      -- t is better than r, and not than s: then s is better than r, and r not than s
      impossible : (s : ℕ × MatchResult) → better t s.1 ≡ false → better t r ≡ true → ranks_above r i s.1 s.0 ≡ true → ⊥
      impossible s g k a = test (better s.1 r)
          (λ m. not-both a (rw (better-asymmetric s.1 r m, m)))
          (λ m. not-both k (better-transitive t s.1 r g m))
  next n t h (loses s e f a) =
      rw (e, f) (test (better t s.1)
      (λ g. rw g (loses (n, t) refl refl (yields t n (better-still g))))
      (λ g. rw g (loses s refl refl a)))
    where
      better-still : better t s.1 ≡ true → better t r ≡ true
      better-still g = test (better t r) (λ k. k)
          (λ k. test (better r s.1)
          (λ m. absurd (not-both (rw m) a))
          (λ m. absurd (not-both g (better-transitive t r s.1 k m))))

module _ (f g : ℕ → Option MatchResult) (i : ℕ) (r : MatchResult) (was : f i ≡ none) (is : g i ≡ some r) (same : (j : ℕ) → (j ≡ i → ⊥) → g j ≡ f j) where
  pub best-below : (n : ℕ) → n ≤ i → best_below n g ≡ best_below n f
  best-below n h = best-ext g f n (λ j e. same j (λ d. omega arith))

  pub best-joined : (n : ℕ) → i < n → Joined i r (best_below n f) (best_below n g)
  unfolding best_below
  best-joined zero h = absurd (omega arith)
  best-joined (suc n) h =
      let ih = best-joined n in
      test (eqb n i)
      (λ e. here n (eqb-true n i e))
      (λ e. let ne : n ≡ i → ⊥ = eqb-false n i e in there n ne (lt-or n ne h) (ih (lt-or n ne h)))
    where
      lt-or : (n : ℕ) → (n ≡ i → ⊥) → i < suc n → i < n
      lt-or n e h = omega arith

      here : (n : ℕ) → n ≡ i → Joined i r (best_below (suc n) f) (best_below (suc n) g)
      here n e = rw (ap f e ∙ was, ap g e ∙ is, best-below n (omega arith)) (maybe (best_below n f)
          (λ d. rw d (alone refl (ap {B = Option (ℕ × MatchResult)} (λ (k : ℕ). some (k, r)) e)))
          (λ t d. test (better r t.1)
          (λ k. rw (d, k) (wins t refl (ap {B = Option (ℕ × MatchResult)} (λ (k : ℕ). some (k, r)) e) (rw k)))
          (λ k. rw (d, k) (loses t refl refl (rw (k, le-ltb i t.0 (omega (arith, best-lt f n t d))) (test (better t.1 r) (λ m. rw m) (λ m. rw m)))))))

      there : (n : ℕ) → (n ≡ i → ⊥) → i < n → Joined i r (best_below n f) (best_below n g) → Joined i r (best_below (suc n) f) (best_below (suc n) g)
      there n e h ih = rw (same n e) (maybe (f n)
          (λ d. rw d ih)
          (λ t d. rw d (next i r n t h ih)))

-- a candidate that is not the best goes, and the best stays
pub best-without : (f g : ℕ → Option MatchResult) (i n : ℕ) → g i ≡ none → ((j : ℕ) → (j ≡ i → ⊥) → f j ≡ g j)
    → ((r : MatchResult) → best_below n f ≡ some (i, r) → ⊥) → best_below n g ≡ best_below n f
best-without f g i n gone same other =
    test (ltb i n)
    (λ e. maybe (f i) (λ d. best-ext g f n (λ j h. every d j))
    (λ r d. lost r (best-joined g f i r gone d same n (ltb-true i n e))))
    (λ e. best-ext g f n (λ j h. sym (same j (λ d. omega (arith, ltb-false i n e)))))
  where
    every : f i ≡ none → (j : ℕ) → g j ≡ f j
    every d j = test (eqb j i) (λ e. rw (eqb-true j i e) (gone ∙ sym d)) (λ e. sym (same j (eqb-false j i e)))

    lost : (r : MatchResult) → Joined i r (best_below n g) (best_below n f) → best_below n g ≡ best_below n f
    lost r (alone e d) = absurd (other r d)
    lost r (wins t e d a) = absurd (other r d)
    lost r (loses t e d a) = e ∙ sym d
