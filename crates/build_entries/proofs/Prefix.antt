-- Laws of what a list begins with, after stores behind it. Assumes nothing.
use mathlib.Core.Path.{◌≡◌, refl, ap, ◌∙◌}
use mathlib.Core.Logic.{◌⊎◌, inl, inr}
use mathlib.Core.List.{List, [], ◌∷◌, ◌++◌, map, map-append, append_assoc, append-nil}
use Prim.Native.Nat.{ℕ, zero, suc, ◌+◌, ◌*◌, ◌-◌, ◌≤◌, ◌<◌}
use native.Mathlib.Nat.{mul-zero, mul-suc, suc-mul, mul-le-mul_left}
use native.Mathlib.Numerals.{add-one}
use native.Mathlib.Omega.{arith}
use lib.ListN.{length, get_or, take, set, length-set}
use lib.Seq.{take-suc, take-suc-set, get_or-set_same, get_or-set_other}
use Rattle.lists.specs.Lists.{flat, sum}
use Rattle.lists.proofs.Keep.{flat_append, flat-one}
use Rattle.model.specs.Words.{head_width, row_width}
use Rattle.maps.specs.Puts.{put}
use Rattle.maps.proofs.Puts.{take_put, same-put}
use Rattle.build_ranges.specs.Codes.{tabulate}
use Rattle.build_ranges.proofs.Ranks.{listed_more}
use Rattle.build_entries.specs.Laid.{SameFrom, StartsTo}

-- a word more behind what the list begins with
pub put-behind : (s : List ℕ) (at x : ℕ) (front : List ℕ) → at < length s → take at s ≡ front → take (at + 1) (set s at x) ≡ front ++ x ∷ []
put-behind s at x front h e = rw (add-one at) (take-suc-set s at x h ∙ ap (λ l. l ++ x ∷ []) e)

-- ---- two, four and five words

pub put_two : (s : List ℕ) (at a b : ℕ) → at + 1 < length s → take (at + 2) (set (set s at a) (at + 1) b) ≡ take at s ++ a ∷ b ∷ []
put_two s at a b h =
    let e : at + 2 ≡ at + 1 + 1 = omega arith in
    rw e (put-behind (set s at a) (at + 1) b (take at s ++ a ∷ []) (rw length-set h) (put-behind s at a (take at s) (omega arith) refl)
    ∙ append_assoc (take at s) (a ∷ []) (b ∷ []))

pub put_four : (s : List ℕ) (at a b c d : ℕ) → at + 3 < length s
    → take (at + 4) (set (set (set (set s at a) (at + 1) b) (at + 2) c) (at + 3) d) ≡ take at s ++ a ∷ b ∷ c ∷ d ∷ []
put_four s at a b c d h =
    let s₂ = set (set s at a) (at + 1) b in
    let l : length s₂ ≡ length s = length-set (set s at a) (at + 1) b ∙ length-set s at a in
    let x : at + 2 + 1 ≡ at + 3 = omega arith in
    let y : at + 2 + 2 ≡ at + 4 = omega arith in
    let p = put_two s₂ (at + 2) c d (omega (arith, l)) in
    rw (x, y) at p ∙ ap (λ m. m ++ c ∷ d ∷ []) (put_two s at a b (omega arith)) ∙ append_assoc (take at s) (a ∷ b ∷ []) (c ∷ d ∷ [])

pub put_five : (s : List ℕ) (at a b c d e : ℕ) → at + 4 < length s
    → take (at + 5) (set (set (set (set (set s at a) (at + 1) b) (at + 2) c) (at + 3) d) (at + 4) e) ≡ take at s ++ a ∷ b ∷ c ∷ d ∷ e ∷ []
put_five s at a b c d e h =
    let x : at + 5 ≡ at + 4 + 1 = omega arith in
    rw x (put-behind (set (set (set (set s at a) (at + 1) b) (at + 2) c) (at + 3) d) (at + 4) e (take at s ++ a ∷ b ∷ c ∷ d ∷ []) (simp length-set h) (put_four s at a b c d (omega arith))
    ∙ append_assoc (take at s) (a ∷ b ∷ c ∷ d ∷ []) (e ∷ []))

-- stores at two places, in either order
pub set-swap : (s : List ℕ) (i j a b : ℕ) → (i ≡ j → ⊥) → set (set s i a) j b ≡ set (set s j b) i a
set-swap [] i j a b h = refl
set-swap (x ∷ s) zero zero a b h = absurd (h refl)
set-swap (x ∷ s) zero (suc j) a b h = refl
set-swap (x ∷ s) (suc i) zero a b h = refl
set-swap (x ∷ s) (suc i) (suc j) a b h = ap (λ l. x ∷ l) (set-swap s i j a b (λ e. h (ap suc e)))

-- ---- numbers, one behind the other

module _ (f : ℕ → ℕ) where
  pub fill_none : (s : List ℕ) (to : ℕ) → take (to + 0) s ≡ take to s ++ tabulate f 0
  unfolding tabulate
  fill_none s to = let e : to + 0 ≡ to = omega arith in rw (e, append-nil)

  pub fill_more : (s₀ s : List ℕ) (to j : ℕ) → to + j < length s → take (to + j) s ≡ take to s₀ ++ tabulate f j → take (to + (j + 1)) (set s (to + j) (f j)) ≡ take to s₀ ++ tabulate f (j + 1)
  fill_more s₀ s to j h e =
      let a : to + (j + 1) ≡ to + j + 1 = omega arith in
      rw (a, listed_more f j) (put-behind s (to + j) (f j) (take to s₀ ++ tabulate f j) h e ∙ append_assoc (take to s₀) (tabulate f j) (f j ∷ []))

-- ---- entries, one behind the other

module _ (f : ℕ → List ℕ) (w : ℕ) (rs : List ℕ) where
  pub lay-none : (s : List ℕ) → take (w * 0) s ≡ flat (map f (take 0 rs))
  unfolding flat
  lay-none s = rw mul-zero

  pub lay-more : (s s' : List ℕ) (t : ℕ) → t < length rs → take (w * t) s ≡ flat (map f (take t rs)) → take (w * t + w) s' ≡ take (w * t) s ++ f (get_or rs t 0)
      → take (w * (t + 1)) s' ≡ flat (map f (take (t + 1) rs))
  lay-more s s' t h e g =
      let r = get_or rs t 0 in
      rw (add-one t, mul-suc w t, take-suc rs t 0 h, map-append f (take t rs) (r ∷ []), flat_append (map f (take t rs)) (f r ∷ []), flat-one (f r)) (g ∙ ap (λ l. l ++ f r) e)

-- the words of m entries, and the ranks in the last of them
pub words_of : (w m : ℕ) → 1 ≤ w → w * m ≡ (w - 1) * m + m
words_of w m h = let e : w ≡ suc (w - 1) = omega arith in ap (λ k. k * m) e ∙ suc-mul (w - 1) m

-- entry t ends before the rank behind its own, where the ranks end with entry m
pub entry-ends : (w m t : ℕ) → 1 ≤ w → t < m → w * t + w ≤ (w - 1) * m + (t + 1)
entry-ends w m t h l =
    omega (arith, words_of w (suc t) h, mul-suc w t, mul-le-mul_left (w - 1) l)

-- ---- first hashes

pub starts_more : (starts lengths : List ℕ) (i total : ℕ) → i < length starts → total ≡ sum (take i lengths) → StartsTo starts lengths i → StartsTo (set starts i total) lengths (i + 1)
starts_more starts lengths i total h e s k l = go (Rattle.lists.proofs.Tests.le-or-lt i k)
  where
    go : (i ≤ k) ⊎ (k < i) → get_or (set starts i total) k 0 ≡ sum (take k lengths)
    go (inl a) = let q : k ≡ i = omega arith in rw q (get_or-set_same starts i total 0 h ∙ e)
    go (inr b) = get_or-set_other starts i k total 0 (λ q. omega arith) ∙ s k b

-- ---- one entry

pub entry_done : (p p' : List ℕ) (w to : ℕ) (e : List ℕ) → length e ≡ w → to + w ≤ length p → p' ≡ put p to e
    → (take (to + w) p' ≡ take to p ++ e) × SameFrom (to + w) p p'
entry_done p p' w to e long h q =
    let room : to + length e ≤ length p = rw long h in
    (rw q (rw long at (take_put p to e room)), λ i g. rw q (same-put p to e room i (rw long g)))

-- ---- rows, one behind the other

module _ (f : ℕ → List ℕ) where
  pub rows_none : (s : List ℕ) → take (head_width + row_width * 0) s ≡ take head_width s ++ flat (tabulate f 0)
  unfolding tabulate flat
  rows_none s = rw append-nil

  pub rows_more : (s₀ s s' : List ℕ) (i : ℕ) → take (head_width + row_width * i) s ≡ take head_width s₀ ++ flat (tabulate f i) → take (head_width + row_width * (i + 1)) s' ≡ take (head_width + row_width * i) s ++ f i
      → take (head_width + row_width * (i + 1)) s' ≡ take head_width s₀ ++ flat (tabulate f (i + 1))
  rows_more s₀ s s' i e g =
      rw (listed_more f i, flat_append (tabulate f i) (f i ∷ []), flat-one (f i))
      (g ∙ ap (λ l. l ++ f i) e ∙ append_assoc (take head_width s₀) (flat (tabulate f i)) (f i))
