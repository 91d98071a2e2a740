-- What a turn of `mark` adds to the marks. Assumes nothing.
use mathlib.Core.Path.{◌≡◌, refl, sym, ap, ap₂, ◌∙◌}
use mathlib.Core.Bool.{Bool, true, false, ◌&&◌}
use mathlib.Core.List.{List}
use Prim.Native.Nat.{ℕ, zero, suc, ◌+◌, ◌≤◌, ◌<◌, max}
use native.Mathlib.Omega.{arith}
use lib.Dec.{eqb, ltb}
use lib.IntN.{ℤ, pos}
use lib.ListN.{length, get_or, set, replicate, take, drop, length-drop}
use lib.Seq.{get_or-set_same, get_or-set_other, get_or-take, get_or-drop, length-take-le}
use borrow.Author.Tests.{lt-ltb, eq-eqb, ne_eqb, eqb-true, eqb-false}
use Rattle.lists.proofs.Tests.{test}
use Rattle.maps.specs.Sums.{sum_to, when}
use Rattle.maps.proofs.Tests.{when-le}
use Rattle.maps.proofs.Sums.{sum-zero, sum-next, sum-cong}
use Rattle.bins.specs.Votes.{place_of, position_of, places, positions}
use Rattle.bins.specs.Distinct.{near_place, marked, distinct_near}

-- 1 where vote t is one that marks position i
abbrev hit : ℕ → ℕ → (ℕ → ℕ) → (ℕ → ℕ) → ℕ → ℕ → ℕ
hit tol x d q i t = when (eqb (q t) i && near_place tol x (d t)) 1

pub marked-none : (tol x : ℕ) (d q : ℕ → ℕ) (i : ℕ) → marked tol x d q 0 i ≡ 0
unfolding marked
marked-none tol x d q i = rw (sum-zero (hit tol x d q i)) refl

pub marked-le : (tol x : ℕ) (d q : ℕ → ℕ) (g i : ℕ) → marked tol x d q g i ≤ 1
unfolding marked
marked-le tol x d q g i = when-le (ltb 0 (sum_to (hit tol x d q i) g))

-- one vote more
either : (n : ℕ) (b : Bool) → max (when (ltb 0 n) 1) (when b 1) ≡ when (ltb 0 (n + when b 1)) 1
either n true = rw (lt-ltb 0 (n + 1) (omega arith)) (omega (arith, when-le (ltb 0 n)))
either n false = let e : n + 0 ≡ n = omega arith in rw e (omega arith)

module _ (tol x : ℕ) (d q : ℕ → ℕ) (t : ℕ) where
  -- of this position, or of another
  same-mark : (i : ℕ) → q t ≡ i → marked tol x d q (t + 1) i ≡ max (marked tol x d q t i) (when (near_place tol x (d t)) 1)
  unfolding marked
  same-mark i e = rw (sum-next (hit tol x d q i) t, eq-eqb (q t) i e) (sym (either (sum_to (hit tol x d q i) t) (near_place tol x (d t))))

  other-mark : (i : ℕ) → (q t ≡ i → ⊥) → marked tol x d q (t + 1) i ≡ marked tol x d q t i
  unfolding marked
  other-mark i e =
      let z : sum_to (hit tol x d q i) t + 0 ≡ sum_to (hit tol x d q i) t = omega arith in
      rw (sum-next (hit tol x d q i) t, ne_eqb (q t) i e, z) refl

  pub mark-more : (seen : List ℕ) (p h : ℕ) → length seen ≡ 2048 → p ≡ q t → p < 2048 → h ≡ when (near_place tol x (d t)) 1
      → ((i : ℕ) → i < 2048 → get_or seen i 0 ≡ marked tol x d q t i)
      → (i : ℕ) → i < 2048 → get_or (set seen p (max (get_or seen p 0) h)) i 0 ≡ marked tol x d q (t + 1) i
  mark-more seen p h len e lt k inv i l =
      test (eqb p i)
      (λ b.
      let z : p ≡ i = eqb-true p i b in
      rw (sym z) (get_or-set_same seen p (max (get_or seen p 0) h) 0 (omega arith) ∙ ap₂ max (inv p lt) k ∙ sym (same-mark p (sym e))))
      (λ b.
      let z = eqb-false p i b in
      get_or-set_other seen p i (max (get_or seen p 0) h) 0 (λ y. z (sym y)) ∙ inv i l ∙ sym (other-mark i (λ y. z (e ∙ y))))

pub zeros : (k i : ℕ) → ◌≡◌ {A = ℕ} (get_or (replicate k 0) i 0) 0
zeros zero i = refl
zeros (suc k) zero = refl
zeros (suc k) (suc i) = zeros k i

-- ---- votes by themselves

pub place-first : (s : List ℤ) (t : ℕ) → places s 0 t ≡ place_of (get_or s t (pos 0))
unfolding places
place-first s t = let e : 0 + t ≡ t = omega arith in ap (λ (k : ℕ). place_of (get_or s k (pos 0))) e

pub position-first : (s : List ℤ) (t : ℕ) → positions s 0 t ≡ position_of (get_or s t (pos 0))
unfolding positions
position-first s t = let e : 0 + t ≡ t = omega arith in ap (λ (k : ℕ). position_of (get_or s k (pos 0))) e

marked-same : (tol x : ℕ) (d q d' q' : ℕ → ℕ) (g : ℕ) → ((t : ℕ) → t < g → d t ≡ d' t) → ((t : ℕ) → t < g → q t ≡ q' t) → (i : ℕ) → marked tol x d q g i ≡ marked tol x d' q' g i
unfolding marked
marked-same tol x d q d' q' g ed eq i =
    ap (λ (n : ℕ). when (ltb 0 n) 1)
    (sum-cong (hit tol x d q i) (hit tol x d' q' i) g (λ t h. ap₂ (λ (p y : ℕ). when (eqb p i && near_place tol x y) 1) (eq t h) (ed t h)))

-- the g votes from word a on, in a slice of their own
pub near-part : (s : List ℤ) (a g tol x m : ℕ) → a + g ≤ length s
    → distinct_near tol x (places (take g (drop a s)) 0) (positions (take g (drop a s)) 0) (length (take g (drop a s))) m ≡ distinct_near tol x (places s a) (positions s a) g m
unfolding distinct_near places positions
near-part s a g tol x m h =
    let n : length (take g (drop a s)) ≡ g = length-take-le g (drop a s) (omega (arith, length-drop a s)) in
    let at : (t : ℕ) → t < g → get_or (take g (drop a s)) (0 + t) (pos 0) ≡ get_or s (a + t) (pos 0) = λ t k.
    let e : 0 + t ≡ t = omega arith in
    rw e (get_or-take g (drop a s) t (pos 0) k ∙ get_or-drop a s t (pos 0)) in
    rw n (sum-cong _ _ m (λ i k. marked-same tol x _ _ _ _ g (λ t l. ap place_of (at t l)) (λ t l. ap position_of (at t l)) i))
