-- Rows, vacant entries and the header, written into references that are laid out. Assumes nothing.
use mathlib.Core.Path.{◌≡◌, refl, sym, ap, ◌∙◌}
use mathlib.Core.List.{List, [], ◌∷◌, ◌++◌, append_assoc}
use mathlib.Core.Option.{Option, none}
use Prim.Native.Nat.{ℕ, zero, suc, ◌+◌, ◌*◌, ◌≤◌, ◌<◌}
use native.Mathlib.Nat.{mul-zero, mul-suc, zero-add}
use native.Mathlib.Omega.{arith}
use lib.ListN.{length, get_or, set, length-set}
use lib.Seq.{set-append_left, get_or-set_same, set-set}
use Rattle.lists.specs.Lists.{flat}
use Rattle.lists.specs.Entries.{Wide}
use Rattle.lists.proofs.Keep.{all-at, all_set}
use Rattle.model.specs.Rows.{Row}
use Rattle.model.specs.Words.{row_words, row_entries, head_width, row_width, row_place, at_rate, at_rmax, at_live, at_vacant, at_set}
use Rattle.rows.specs.References.{header_put, row_put, entry_put, headed}

pub header_again : (rs : List ℕ) (n v p k : ℕ) → head_width ≤ length rs → set (set (set (set rs 0 n) 1 v) 2 p) 3 k ≡ header_put rs n v p k
unfolding header_put
header_again [] n v p k h = absurd (omega arith)
header_again (a ∷ []) n v p k h = absurd (omega arith)
header_again (a ∷ b ∷ []) n v p k h = absurd (omega arith)
header_again (a ∷ b ∷ c ∷ []) n v p k h = absurd (omega arith)
header_again (a ∷ b ∷ c ∷ d ∷ rs) n v p k h = refl

set-behind : (xs ys : List ℕ) (i a : ℕ) → set (xs ++ ys) (length xs + i) a ≡ xs ++ set ys i a
set-behind [] ys i a = rw zero-add
set-behind (x ∷ xs) ys i a =
    let e : suc (length xs) + i ≡ suc (length xs + i) = omega arith in
    rw e (ap (λ (l : List ℕ). x ∷ l) (set-behind xs ys i a))

-- a word of entry j, written among the words of entries
pub flat-set : (w : ℕ) (es : List (List ℕ)) (rest : List ℕ) (j f a : ℕ) → Wide w es → j < length es → f < w
    → set (flat es ++ rest) (w * j + f) a ≡ flat (set es j (set (get_or es j []) f a)) ++ rest
unfolding flat
flat-set w [] rest j f a h l g = absurd (omega arith)
flat-set w (e ∷ es) rest zero f a h l g =
    let z : w * 0 + f ≡ f = omega (arith, mul-zero w) in
    rw (z, append_assoc e (flat es) rest, append_assoc (set e f a) (flat es) rest)
    (set-append_left e (flat es ++ rest) f a (rw h.0 g))
flat-set w (e ∷ es) rest (suc j) f a h l g =
    let ih = flat-set w es rest j f a h.1 (omega arith) g in
    let z : w * suc j + f ≡ length e + (w * j + f) = omega (arith, mul-suc w j, h.0) in
    rw (z, append_assoc e (flat es) rest)
    (set-behind e (flat es ++ rest) (w * j + f) a ∙ ap (λ (l : List ℕ). e ++ l) ih ∙ sym (append_assoc e (flat (set es j (set (get_or es j []) f a))) rest))

word-headed : (n v p k : ℕ) (es : List (List ℕ)) (rest : List ℕ) (j f a : ℕ) → Wide row_width es → j < length es → f < row_width
    → set (headed n v p k es rest) (row_place j f) a ≡ headed n v p k (set es j (set (get_or es j []) f a)) rest
unfolding headed
word-headed n v p k es rest j f a h l g =
    let e : row_place j f ≡ suc (suc (suc (suc (row_width * j + f)))) = omega arith in
    rw e (ap (λ (l : List ℕ). n ∷ v ∷ p ∷ k ∷ l) (flat-set row_width es rest j f a h l g))

module _ (n v p k : ℕ) (es : List (List ℕ)) (rest : List ℕ) where
  pub header-headed : (n' v' p' k' : ℕ) → header_put (headed n v p k es rest) n' v' p' k' ≡ headed n' v' p' k' es rest
  unfolding header_put headed
  header-headed n' v' p' k' = refl

  pub entry-headed : (i id : ℕ) → Wide row_width es → i < length es
      → entry_put (headed n v p k es rest) i id ≡ headed n v p k (set es i (set (get_or es i []) at_vacant id)) rest
  unfolding entry_put
  entry-headed i id h l = word-headed n v p k es rest i at_vacant id h l (omega arith)

  -- a word of row j, where the row was written before
  again : (j f a : ℕ) (e : List ℕ) → Wide row_width es → j < length es → length e ≡ row_width → f < row_width
      → set (headed n v p k (set es j e) rest) (row_place j f) a ≡ headed n v p k (set es j (set e f a)) rest
  again j f a e h l five g =
      word-headed n v p k (set es j e) rest j f a (all_set (λ (e : List ℕ). length e ≡ row_width) es j e five h) (simp length-set l) g
      ∙ rw (get_or-set_same es j e [] l, set-set es j e (set e f a))

  -- row j; its vacant entry stays
  pub row-headed : (j rate rmax live s : ℕ) → Wide row_width es → j < length es
      → row_put (headed n v p k es rest) j rate rmax live s ≡ headed n v p k (set es j (rate ∷ rmax ∷ live ∷ get_or (get_or es j []) at_vacant 0 ∷ s ∷ [])) rest
  unfolding row_put
  row-headed j rate rmax live s h l =
      let e = get_or es j [] in
      let five = all-at (λ (e : List ℕ). length e ≡ row_width) es [] h j l in
      ap (λ (l : List ℕ). set (set (set l (row_place j at_rmax) rmax) (row_place j at_live) live) (row_place j at_set) s) (word-headed n v p k es rest j at_rate rate h l (omega arith))
      ∙ ap (λ (l : List ℕ). set (set l (row_place j at_live) live) (row_place j at_set) s) (again j at_rmax rmax (set e 0 rate) h l (simp length-set five) (omega arith))
      ∙ ap (λ (l : List ℕ). set l (row_place j at_set) s) (again j at_live live (set (set e 0 rate) 1 rmax) h l (simp length-set five) (omega arith))
      ∙ again j at_set s (set (set (set e 0 rate) 1 rmax) 2 live) h l (simp length-set five) (omega arith)
      ∙ ap (λ (e : List ℕ). headed n v p k (set es j e) rest) (whole e five)
    where
      whole : (e : List ℕ) → length e ≡ row_width → set (set (set (set e 0 rate) 1 rmax) 2 live) 4 s ≡ rate ∷ rmax ∷ live ∷ get_or e 3 0 ∷ s ∷ []
      whole [] z = absurd (omega arith)
      whole (a ∷ []) z = absurd (omega arith)
      whole (a ∷ b ∷ []) z = absurd (omega arith)
      whole (a ∷ b ∷ c ∷ []) z = absurd (omega arith)
      whole (a ∷ b ∷ c ∷ d ∷ []) z = absurd (omega arith)
      whole (a ∷ b ∷ c ∷ d ∷ e ∷ []) z = refl
      whole (a ∷ b ∷ c ∷ d ∷ e ∷ x ∷ es) z = absurd (omega arith)

-- ---- rows and vacant entries of the index

pub rows-set : (os : List (Option Row)) (es : List ℕ) (j : ℕ) (o : Option Row) → row_entries (set os j o) es ≡ set (row_entries os es) j (row_words o (get_or es j 0))
unfolding row_entries
rows-set [] es j o = refl
rows-set (x ∷ os) [] zero o = refl
rows-set (x ∷ os) [] (suc j) o = ap (λ (l : List (List ℕ)). row_words x 0 ∷ l) (rows-set os [] j o)
rows-set (x ∷ os) (e ∷ es) zero o = refl
rows-set (x ∷ os) (e ∷ es) (suc j) o = ap (λ (l : List (List ℕ)). row_words x e ∷ l) (rows-set os es j o)

-- one vacant entry more
pub vacant-more : (os : List (Option Row)) (es : List ℕ) (id : ℕ) → length es < length os
    → row_entries os (es ++ id ∷ []) ≡ set (row_entries os es) (length es) (row_words (get_or os (length es) none) id)
unfolding row_entries
vacant-more [] es id h = absurd (omega arith)
vacant-more (o ∷ os) [] id h = refl
vacant-more (o ∷ os) (e ∷ es) id h = ap (λ (l : List (List ℕ)). row_words o e ∷ l) (vacant-more os es id (omega arith))
