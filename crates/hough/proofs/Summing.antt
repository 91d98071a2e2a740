-- The sums behind the bins: what writing them leaves as it was. Assumes nothing.
use Prim.Native.Nat.{ℕ, ◌+◌, ◌*◌, ◌<◌}
use mathlib.Core.Path.{◌≡◌, refl, sym, ◌∙◌, ap, subst}
use mathlib.Core.List.{List}
use native.Mathlib.Omega.{arith}
use lib.IntN.{ℤ, pos}
use lib.Dec.{eqb}
use lib.ListN.{length, get_or, take, drop, set}
use lib.Seq.{get_or-set_same, get_or-set_other, take-set-le, drop-set-lt}
use borrow.Author.Tests.{eqb-true, eqb-false}
use Rattle.lists.proofs.Tests.{test}
use Rattle.hough.specs.Limits.{Bins, Roomy, Written, Kept}

-- ---- one value more

pub other_word : (s : List ℤ) (e j k : ℕ) (v : ℤ) → (j ≡ k → ⊥) → get_or (set s (e + j) v) (e + k) (pos 0) ≡ get_or s (e + k) (pos 0)
other_word s e j k v ne = get_or-set_other s (e + j) (e + k) v (pos 0) (λ z. ne (omega arith))

pub written-more : (g : ℕ → ℕ) (i : ℕ) (s s' : List ℤ) (e v : ℕ) → e + i < length s → s' ≡ set s (e + i) (pos v) → v ≡ g i → Written g i s e → Written g (i + 1) s' e
written-more g i s s' e v len es ev W k h =
    ap (λ (l : List ℤ). get_or l (e + k) (pos 0)) es
    ∙ test (eqb i k)
    (λ t. subst (λ (z : ℕ). get_or (set s (e + i) (pos v)) (e + z) (pos 0) ≡ pos (g z)) (eqb-true i k t) (get_or-set_same s (e + i) (pos v) (pos 0) len ∙ ap pos ev))
    (λ t. other_word s e i k (pos v) (eqb-false i k t) ∙ W k (omega (arith, eqb-false i k t)))

-- ---- what stays

pub kept-none : (s : List ℤ) (n : ℕ) → Kept s s n
kept-none s n = record { bins = refl; rest = refl }

pub kept_put : (s₀ s s' : List ℤ) (n j : ℕ) (v : ℤ) → j < n → s' ≡ set s (3 * n + j) v → Kept s₀ s n → Kept s₀ s' n
kept_put s₀ s s' n j v h es K = record {
  bins = ap (take (3 * n)) es ∙ take-set-le (3 * n) s (3 * n + j) v (omega arith) ∙ K.bins;
  rest = ap (drop (4 * n)) es ∙ drop-set-lt (4 * n) s (3 * n + j) v (omega arith) ∙ K.rest;
}

pub kept_then : (a b c : List ℤ) (n : ℕ) → Kept a b n → Kept b c n → Kept a c n
kept_then a b c n K L = record { bins = L.bins ∙ K.bins; rest = L.rest ∙ K.rest }

pub roomy-kept : (s₀ s : List ℤ) (n : ℕ) → length s ≡ length s₀ → Kept s₀ s n → Roomy s₀ n → Roomy s n
roomy-kept s₀ s n len K R = record { bins = subst (λ (l : List ℤ). Bins l n) (sym K.bins) R.bins; room = rw len R.room }
