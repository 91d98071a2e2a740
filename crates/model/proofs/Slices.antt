-- For code that changes words: three slices are an index laid out if their first words, their rows, entries and keys are the index's, and
-- the words behind are zero. Assumes nothing.
use mathlib.Core.Path.{◌≡◌, sym, ap, ◌∙◌}
use mathlib.Core.Bool.{true, not}
use mathlib.Core.List.{List, [], ◌∷◌, map}
use mathlib.Core.Option.{none}
use Prim.Native.Nat.{ℕ, suc, ◌+◌, ◌*◌, ◌≤◌, ◌<◌}
use native.Mathlib.Nat.{mul-le-mul_left}
use native.Mathlib.Omega.{arith}
use lib.ListN.{length, get_or, take, drop, length-drop, length-map}
use lib.Seq.{ext_get_or, length-take-le}
use lib.Dec.{eqb}
use Rattle.lists.specs.Lists.{keep}
use Rattle.lists.specs.Keys.{under, place_all}
use Rattle.lists.specs.Entries.{entries, entry_at, key_of as first_word, zero_from}
use Rattle.lists.proofs.Keep.{keep-map}
use Rattle.lists.proofs.Place.{under-map, place_all-map}
use Rattle.lists.proofs.Entries.{length-entries, entries_at, flat-entries, padded-take}
use Rattle.model.specs.Index.{Posting, Index, key_of, unskipped, is_stopped, exceeds, placed, postings_after, without_id}
use Rattle.model.specs.Calls.{Sizes}
use Rattle.model.specs.Words.{row_words, row_entries, posting_words, write, head_width, row_width}
use Rattle.model.specs.Soundness.{row_word}
use Rattle.model.proofs.Words.{five, length-rows, row_at}
use Rattle.model.proofs.Written.{row_word_lem}

-- the first four words and what follows them
pub front : (l : List ℕ) (a : ℕ) → head_width ≤ length l → get_or l 0 0 ∷ get_or l 1 0 ∷ get_or l 2 0 ∷ get_or l 3 0 ∷ take a (drop head_width l) ≡ take (head_width + a) l
front [] a h = absurd (omega arith)
front (x0 ∷ []) a h = absurd (omega arith)
front (x0 ∷ x1 ∷ []) a h = absurd (omega arith)
front (x0 ∷ x1 ∷ x2 ∷ []) a h = absurd (omega arith)
front (x0 ∷ x1 ∷ x2 ∷ x3 ∷ l) a h = let e : head_width + a ≡ suc (suc (suc (suc a))) = omega arith in rw e

module _ (w : ℕ) (z : Sizes) (x : Index) where
  -- what the references have to say
  pub record References (rs : List ℕ) : Type 0 where
    pub long : length rs ≡ head_width + row_width * z.R
    pub fit : length x.rows ≤ z.R
    pub rows : get_or rs 0 0 ≡ length x.rows
    pub vacant : get_or rs 1 0 ≡ length x.vacant
    pub postings : get_or rs 2 0 ≡ length x.postings
    pub stopped : get_or rs 3 0 ≡ length x.stopped
    pub row : (j f : ℕ) → j < length x.rows → f < row_width → row_word rs j f ≡ get_or (row_words (get_or x.rows j none) (get_or x.vacant j 0)) f 0
    pub unused : zero_from rs (head_width + row_width * length x.rows) ≡ true

  pub references-are : (rs : List ℕ) → References rs → rs ≡ (write w z x).references
  unfolding write
  references-are rs H =
      sym (padded-take rs (head_width + row_width * length x.rows) (omega (arith, H.long, H.fit)) H.unused)
      ∙ rw (H.long, ← front rs (row_width * length x.rows) (omega (arith, H.long)), ← flat-entries row_width (length x.rows) (drop head_width rs), H.rows, H.vacant, H.postings, H.stopped, same)
    where
      entry : (j : ℕ) → j < length x.rows → entry_at row_width j (drop head_width rs) ≡ row_words (get_or x.rows j none) (get_or x.vacant j 0)
      entry j h =
          let l : length (entry_at row_width j (drop head_width rs)) ≡ row_width = length-take-le row_width (drop (row_width * j) (drop head_width rs)) (simp length-drop (omega (arith, H.long, H.fit))) in
          ext_get_or 0 (entry_at row_width j (drop head_width rs)) (row_words (get_or x.rows j none) (get_or x.vacant j 0)) (l ∙ sym (five (get_or x.rows j none) (get_or x.vacant j 0)))
          (λ f lt. row_word_lem rs j f (omega arith) ∙ H.row j f h (omega arith))

      same : entries row_width (length x.rows) (drop head_width rs) ≡ row_entries x.rows x.vacant
      same =
          ext_get_or [] (entries row_width (length x.rows) (drop head_width rs)) (row_entries x.rows x.vacant) (length-entries row_width (length x.rows) (drop head_width rs) ∙ sym (length-rows x.rows x.vacant))
          (λ j lt. let h : j < length x.rows = omega (arith, length-entries row_width (length x.rows) (drop head_width rs)) in
          entries_at row_width (length x.rows) (drop head_width rs) j h ∙ entry j h ∙ sym (row_at x.rows x.vacant j h))

  pub postings-are : (ps : List ℕ) → length ps ≡ w * z.P → length x.postings ≤ z.P → entries w (length x.postings) ps ≡ map posting_words x.postings
      → zero_from ps (w * length x.postings) ≡ true → ps ≡ (write w z x).postings
  unfolding write
  postings-are ps l f e u =
      sym (padded-take ps (w * length x.postings) (rw l (mul-le-mul_left w f)) u)
      ∙ rw (l, ← flat-entries w (length x.postings) ps, e)

  pub stopped-are : (ss : List ℕ) → length ss ≡ z.K → length x.stopped ≤ z.K → take (length x.stopped) ss ≡ x.stopped → zero_from ss (length x.stopped) ≡ true → ss ≡ (write w z x).stopped
  unfolding write
  stopped-are ss l f e u = sym (padded-take ss (length x.stopped) (omega arith) u) ∙ rw (l, e)

-- ---- postings as entries: what is done to postings is done to their words

pub entries-placed : (x : Index) (new : List Posting)
    → map posting_words (placed x new) ≡ place_all first_word (keep (λ e. not (is_stopped x (first_word e))) (map posting_words new)) (map posting_words x.postings)
entries-placed x new =
    sym (place_all-map first_word posting_words (unskipped (is_stopped x) new) x.postings)
    ∙ ap (λ (l : List (List ℕ)). place_all first_word l (map posting_words x.postings)) (sym (keep-map posting_words (λ e. not (is_stopped x (first_word e))) new))

pub entries-after : (limit : ℕ) (x : Index) (new : List Posting)
    → map posting_words (postings_after limit x new) ≡ keep (λ e. not (exceeds limit new (placed x new) (first_word e))) (map posting_words (placed x new))
entries-after limit x new = sym (keep-map posting_words (λ e. not (exceeds limit new (placed x new) (first_word e))) (placed x new))

pub entries-without : (id : ℕ) (ps : List Posting) → map posting_words (without_id id ps) ≡ keep (λ e. not (eqb (get_or e 1 0) id)) (map posting_words ps)
entries-without id ps = sym (keep-map posting_words (λ e. not (eqb (get_or e 1 0) id)) ps)

pub entries-under : (k : ℕ) (ps : List Posting) → length (under key_of k ps) ≡ length (under first_word k (map posting_words ps))
entries-under k ps = sym (ap length (under-map first_word posting_words k ps) ∙ length-map (under key_of k ps) posting_words)
