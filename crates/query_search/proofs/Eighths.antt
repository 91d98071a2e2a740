-- Slices that are filled from the front, and the windows of the search after its first three levels: what seven pivots say of where a key begins.
-- Assumes nothing.
use Rattle.std.proofs.Common.{◌≡◌, ℕ, ◌+◌, ◌-◌, ◌*◌, ◌^◌, ◌<◌, ◌≤◌, Bool, true, false, ltb, ◌⊎◌, List, [], ◌∷◌, ◌++◌, map, take, length, get_or, set, sym, refl, ap, ◌∙◌, subst, inl, inr, mul_assoc, mul_comm, add-mul, eq-or-lt_of_le, one-mul, zero-add, zero-mul, arith, length-set, get_or-set_other, get_or-set_same, ltb-false, ltb-true}
use Rattle.std.proofs.lemmas.List.{take_more}
use mathlib.Core.List.{map-append}
use Rattle.lists.specs.Lists.{sum}
use Rattle.lists.specs.Entries.{key_at, keys_ascend}
use Rattle.lists.proofs.Tests.{test}
use Rattle.maps.specs.Sums.{when}
use Rattle.maps.specs.Entries.{first_at}
use Rattle.maps.proofs.Entries.{first-splits, first-after, first-upto}
use Rattle.query_search.specs.Starts.{pivots_below, Window, Placed, Windows, Sought}
use Rattle.query_search.proofs.Steps.{few_words}

-- ---- the first i elements are those of f, and the others as they were
pub record Filled (f : ℕ → ℕ) (s₀ s : List ℕ) (i : ℕ) : Type 0 where
  pub same : length s ≡ length s₀
  pub done : (j : ℕ) → j < i → get_or s j 0 ≡ f j
  pub rest : (j : ℕ) → i ≤ j → get_or s j 0 ≡ get_or s₀ j 0

pub filled_none : (f : ℕ → ℕ) (s : List ℕ) → Filled f s s 0
filled_none f s = record { same = refl; done = λ j l. absurd (omega arith); rest = λ j l. refl }

pub filled_more : (f : ℕ → ℕ) (s₀ s : List ℕ) (i x : ℕ) → Filled f s₀ s i → i < length s → x ≡ f i → Filled f s₀ (set s i x) (i + 1)
filled_more f s₀ s i x F l e = record {
  same = simp length-set F.same;
  done = λ j k. at j (eq-or-lt_of_le (omega arith));
  rest = λ j k. get_or-set_other s i j x 0 (λ q. omega arith) ∙ F.rest j (omega arith);
}
  where
    at : (j : ℕ) → (j ≡ i) ⊎ (j < i) → get_or (set s i x) j 0 ≡ f j
    at j (inl q) = rw q (get_or-set_same s i x 0 l ∙ e)
    at j (inr k) = get_or-set_other s i j x 0 (λ q. omega arith) ∙ F.done j k

-- ---- pivots

sum-one : (l : List ℕ) (n : ℕ) → sum (l ++ n ∷ []) ≡ sum l + n
unfolding sum
sum-one [] n = omega arith
sum-one (x ∷ l) n = let ih = sum-one l n in omega arith

pub pivots-none : (qs : List ℕ) (key : ℕ) → pivots_below (take 0 qs) key ≡ 0
unfolding pivots_below sum
pivots-none qs key = refl

pub pivots-more : (qs : List ℕ) (key i : ℕ) → i < length qs → pivots_below (take (i + 1) qs) key ≡ pivots_below (take i qs) key + when (ltb (get_or qs i 0) key) 1
unfolding pivots_below
pivots-more qs key i lt =
    let f = λ (q : ℕ). when (ltb q key) 1 in
    ap (λ (l : List ℕ). sum (map f l)) (take_more qs i 0 lt) ∙ ap sum (map-append f (take i qs) (get_or qs i 0 ∷ [])) ∙ sum-one (map f (take i qs)) (f (get_or qs i 0))

-- a key begins behind `on` postings, of `passed` that were looked at, and at most a step behind them where some were not passed
record Behind (first step passed on : ℕ) : Type 0 where
  since : on ≤ first
  among : on ≤ passed
  upto : on < passed → first < on + step

flag-times : (b : Bool) (n step : ℕ) → n * step + when b step ≡ (n + when b 1) * step
flag-times true n step = omega (arith, add-mul n 1 step, one-mul step)
flag-times false n step = omega (arith, add-mul n 0 step, zero-mul step)

module _ (ps : List ℕ) (w p key step : ℕ) (t : keys_ascend ps w p ≡ true) (some : 1 ≤ step) where
  abbrev first : ℕ
  first = first_at ps w p key

  -- one more pivot
  behind-step : (passed next on : ℕ) → next ≡ passed + step → next ≤ p → Behind first step passed on
      → Behind first step next (on + when (ltb (key_at ps w (next - 1)) key) step)
  behind-step passed next on e l B =
      test (ltb x key) (λ b. rw b (below (first-after ps w p key (next - 1) t (omega arith) (ltb-true x key b)) (eq-or-lt_of_le B.among)))
      (λ b. rw b (beyond (first-upto ps w p key (next - 1) t (omega arith) (ltb-false x key b)) (eq-or-lt_of_le B.among)))
    where
      x : ℕ
      x = key_at ps w (next - 1)

      below : next - 1 < first → (on ≡ passed) ⊎ (on < passed) → Behind first step next (on + step)
      below f (inl q) = record { since = omega arith; among = omega arith; upto = λ u. absurd (omega arith) }
      below f (inr k) = absurd (omega (arith, B.upto k))

      beyond : first ≤ next - 1 → (on ≡ passed) ⊎ (on < passed) → Behind first step next (on + 0)
      beyond f (inl q) = record { since = omega (arith, B.since); among = omega arith; upto = λ u. omega arith }
      beyond f (inr k) = record { since = omega (arith, B.since); among = omega arith; upto = λ u. omega (arith, B.upto k) }

  -- by how many pivots are below the key
  behind_more : (passed next n : ℕ) → next ≡ passed + step → next ≤ p → Behind first step passed (n * step)
      → Behind first step next ((n + when (ltb (key_at ps w (next - 1)) key) 1) * step)
  behind_more passed next n e l B =
      subst (Behind first step next) (flag-times (ltb (key_at ps w (next - 1)) key) n step) (behind-step passed next (n * step) e l B)

  behind-none : Behind first step 0 (0 * step)
  behind-none = record { since = omega (arith, zero-mul step); among = omega (arith, zero-mul step); upto = λ u. absurd (omega arith) }

  abbrev pivot_at : ℕ → ℕ
  pivot_at j = key_at ps w (j * step - 1)

  abbrev pivots_at : List ℕ
  pivots_at = pivot_at 1 ∷ pivot_at 2 ∷ pivot_at 3 ∷ pivot_at 4 ∷ pivot_at 5 ∷ pivot_at 6 ∷ pivot_at 7 ∷ []

  abbrev below_all : ℕ
  below_all = pivots_below pivots_at key

  behind-all : 7 * step ≤ p → Behind first step (7 * step) (below_all * step)
  unfolding pivots_below sum
  behind-all l =
      let a = rw zero-add at (behind_more 0 (1 * step) 0 (omega arith) (omega arith) behind-none) in
      let b = behind_more _ (2 * step) _ (omega arith) (omega arith) a in
      let c = behind_more _ (3 * step) _ (omega arith) (omega arith) b in
      let d = behind_more _ (4 * step) _ (omega arith) (omega arith) c in
      let e = behind_more _ (5 * step) _ (omega arith) (omega arith) d in
      let f = behind_more _ (6 * step) _ (omega arith) (omega arith) e in
      let g = behind_more _ (7 * step) _ (omega arith) (omega arith) f in
      subst (λ (n : ℕ). Behind first step (7 * step) (n * step)) (omega arith) g

  -- the window that is left
  window-behind : (len on : ℕ) → 7 * step + len ≡ p → step ≤ len → Behind first step (7 * step) on → Window ps w p key len on
  window-behind len on e l B = record { since = B.since; upto = at (eq-or-lt_of_le B.among); within = omega (arith, B.among) }
    where
      at : (on ≡ 7 * step) ⊎ (on < 7 * step) → first ≤ on + len
      at (inl q) = omega (arith, (first-splits ps w p key t).within)
      at (inr k) = omega (arith, B.upto k)

  placed-behind : (len word : ℕ) → 7 * step + len ≡ p → step ≤ len → word ≡ below_all * (w * step) → Placed ps w p key len word
  placed-behind len word el l e = record {
    entry = below_all * step;
    stands = e ∙ sym (mul_assoc below_all w step) ∙ ap (λ (n : ℕ). n * step) (mul_comm below_all w) ∙ mul_assoc w below_all step;
    window = window-behind len (below_all * step) el l (behind-all (omega arith));
  }

-- the windows of all hashes, their keys having been put in place of the starts
pub windows-spread : (ps : List ℕ) (w p : ℕ) (hs : List ℕ) (h m step len size q1 q2 q3 q4 q5 q6 q7 : ℕ) (keys starts : List ℕ)
    → Sought ps w p hs h m → 1 ≤ step → 7 * step + len ≡ p → step ≤ len → m ≤ length starts → size ≡ w * step
    → q1 ≡ key_at ps w (1 * step - 1) → q2 ≡ key_at ps w (2 * step - 1) → q3 ≡ key_at ps w (3 * step - 1) → q4 ≡ key_at ps w (4 * step - 1)
    → q5 ≡ key_at ps w (5 * step - 1) → q6 ≡ key_at ps w (6 * step - 1) → q7 ≡ key_at ps w (7 * step - 1)
    → ((i : ℕ) → i < m → get_or keys i 0 ≡ key_at hs h i)
    → ((i : ℕ) → i < m → get_or starts i 0 ≡ pivots_below (q1 ∷ q2 ∷ q3 ∷ q4 ∷ q5 ∷ q6 ∷ q7 ∷ []) (get_or keys i 0) * size)
    → Windows ps w p hs h m len starts
windows-spread ps w p hs h m step len size q1 q2 q3 q4 q5 q6 q7 keys starts S some el l long es e1 e2 e3 e4 e5 e6 e7 ks fs = record {
  long = long;
  each = λ i k. placed-behind ps w p (key_at hs h i) step S.ascend some len (get_or starts i 0) el l (at i (ks i k) (fs i k));
}
  where
    stated : List ℕ
    stated = key_at ps w (1 * step - 1) ∷ key_at ps w (2 * step - 1) ∷ key_at ps w (3 * step - 1) ∷ key_at ps w (4 * step - 1) ∷ key_at ps w (5 * step - 1) ∷ key_at ps w (6 * step - 1) ∷ key_at ps w (7 * step - 1) ∷ []

    same : (q1 ∷ q2 ∷ q3 ∷ q4 ∷ q5 ∷ q6 ∷ q7 ∷ []) ≡ stated
    same = rw (e1, e2, e3, e4, e5, e6, e7)

    at : (i : ℕ) → get_or keys i 0 ≡ key_at hs h i → get_or starts i 0 ≡ pivots_below (q1 ∷ q2 ∷ q3 ∷ q4 ∷ q5 ∷ q6 ∷ q7 ∷ []) (get_or keys i 0) * size
        → get_or starts i 0 ≡ pivots_below stated (key_at hs h i) * (w * step)
    at i a b =
        b ∙ ap (λ (k : ℕ). pivots_below (q1 ∷ q2 ∷ q3 ∷ q4 ∷ q5 ∷ q6 ∷ q7 ∷ []) k * size) a
        ∙ ap (λ (r : List ℕ). pivots_below r (key_at hs h i) * size) same ∙ ap (λ (z : ℕ). pivots_below stated (key_at hs h i) * z) es

-- ---- numbers stay small
module _ (ps : List ℕ) (w p : ℕ) (hs : List ℕ) (h m : ℕ) (S : Sought ps w p hs h m) where
  pub sevenfold-few : (step : ℕ) → 7 * step ≤ p → 7 * (w * step) < 2 ^ 32
  sevenfold-few step l =
      let e : w * (7 * step) ≡ 7 * (w * step) = sym (mul_assoc w 7 step) ∙ ap (λ (n : ℕ). n * step) (mul_comm w 7) ∙ mul_assoc 7 w step in
      omega (arith, few_words ps w p hs h m S (7 * step) l)
