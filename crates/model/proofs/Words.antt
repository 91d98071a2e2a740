-- The words of an index that is laid out: their entries and lengths, and that reading gives the index back. Assumes nothing.
use mathlib.Core.Path.{◌≡◌, refl, sym, ap, ◌∙◌}
use mathlib.Core.Bool.{true}
use mathlib.Core.List.{List, [], ◌∷◌, map}
use mathlib.Core.Option.{Option, none, some}
use Prim.Native.Nat.{ℕ, zero, suc, ◌+◌, ◌*◌, ◌-◌, ◌/◌, ◌≤◌, ◌<◌}
use native.Mathlib.Nat.{mul-le-mul_left, mul-div_cancel_left}
use native.Mathlib.Omega.{arith}
use lib.ListN.{length, get_or, take, drop, length-map}
use lib.Seq.{take_at}
use Rattle.lists.specs.Lists.{All, flat}
use Rattle.lists.specs.Entries.{entries, Wide, padded, zero_from}
use Rattle.lists.proofs.Keep.{length-flat, all_map, all-imp, map-map, map-id}
use Rattle.lists.proofs.Entries.{entries-flat, entries-fewer, length-padded, padded-zero}
use Rattle.model.specs.Rows.{Row}
use Rattle.model.specs.Index.{Posting, Index}
use Rattle.model.specs.Calls.{Sizes}
use Rattle.model.specs.Words.{sizes_of, row_words, row_entries, posting_words, write, read_row, read_vacant, read_posting, read_index, head_width, row_width}

-- ---- rows

pub five : (o : Option Row) (e : ℕ) → length (row_words o e) ≡ row_width
five none e = refl
five (some r) e = refl

row-again : (o : Option Row) (e : ℕ) → read_row (row_words o e) ≡ o
row-again none e = refl
row-again (some x) e = refl

entry-again : (o : Option Row) (e : ℕ) → read_vacant (row_words o e) ≡ e
entry-again none e = refl
entry-again (some x) e = refl

pub wide_rows : (os : List (Option Row)) (es : List ℕ) → Wide row_width (row_entries os es)
unfolding row_entries
wide_rows [] es = tt
wide_rows (o ∷ os) [] = (five o 0, wide_rows os [])
wide_rows (o ∷ os) (e ∷ es) = (five o e, wide_rows os es)

pub length-rows : (os : List (Option Row)) (es : List ℕ) → length (row_entries os es) ≡ length os
unfolding row_entries
length-rows [] es = refl
length-rows (o ∷ os) [] = ap suc (length-rows os [])
length-rows (o ∷ os) (e ∷ es) = ap suc (length-rows os es)

pub row_at : (os : List (Option Row)) (es : List ℕ) (j : ℕ) → j < length os → get_or (row_entries os es) j [] ≡ row_words (get_or os j none) (get_or es j 0)
unfolding row_entries
row_at [] es j h = absurd (omega arith)
row_at (o ∷ os) [] zero h = refl
row_at (o ∷ os) [] (suc j) h = row_at os [] j (omega arith)
row_at (o ∷ os) (e ∷ es) zero h = refl
row_at (o ∷ os) (e ∷ es) (suc j) h = row_at os es j (omega arith)

rows-again : (os : List (Option Row)) (es : List ℕ) → map read_row (row_entries os es) ≡ os
unfolding row_entries
rows-again [] es = refl
rows-again (o ∷ os) [] = λ i. row-again o 0 i ∷ rows-again os [] i
rows-again (o ∷ os) (e ∷ es) = λ i. row-again o e i ∷ rows-again os es i

vacant-again : (os : List (Option Row)) (es : List ℕ) → length es ≤ length os → map read_vacant (take (length es) (row_entries os es)) ≡ es
unfolding row_entries
vacant-again os [] h = refl
vacant-again [] (e ∷ es) h = absurd (omega arith)
vacant-again (o ∷ os) (e ∷ es) h = λ i. entry-again o e i ∷ vacant-again os es (omega arith) i

-- ---- postings

-- each posting has w words
abbrev pub WidePostings : ℕ → List Posting → Type 0
WidePostings w ps = All (λ p. 2 + length p.hash.times ≡ w) ps

two-more : (n : ℕ) → 2 + n ≡ suc (suc n)
two-more n = omega arith

pub wide-postings : (w : ℕ) (ps : List Posting) → WidePostings w ps → Wide w (map posting_words ps)
wide-postings w ps h =
    all_map posting_words (λ e. length e ≡ w) ps
    (all-imp (λ p. 2 + length p.hash.times ≡ w) (λ p. length (posting_words p) ≡ w) (λ p e. sym (two-more (length p.hash.times)) ∙ e) ps h)

-- ---- the whole

module _ (w : ℕ) (z : Sizes) (x : Index) (fewer : length x.vacant ≤ length x.rows) (wide : WidePostings w x.postings) where
  pub header-rows : get_or (write w z x).references 0 0 ≡ length x.rows
  unfolding write padded
  header-rows = refl

  pub header-vacant : get_or (write w z x).references 1 0 ≡ length x.vacant
  unfolding write padded
  header-vacant = refl

  pub header-postings : get_or (write w z x).references 2 0 ≡ length x.postings
  unfolding write padded
  header-postings = refl

  pub header-stopped : get_or (write w z x).references 3 0 ≡ length x.stopped
  unfolding write padded
  header-stopped = refl

  pub written-rows : entries row_width (length x.rows) (drop head_width (write w z x).references) ≡ row_entries x.rows x.vacant
  unfolding write padded
  written-rows = rw (← length-rows x.rows x.vacant) (entries-flat row_width (row_entries x.rows x.vacant) _ (wide_rows x.rows x.vacant))

  pub written-postings : entries w (length x.postings) (write w z x).postings ≡ map posting_words x.postings
  unfolding write padded
  written-postings = rw (← length-map x.postings posting_words) (entries-flat w (map posting_words x.postings) _ (wide-postings w x.postings wide))

  pub written-stopped : take (length x.stopped) (write w z x).stopped ≡ x.stopped
  unfolding write padded
  written-stopped = take_at x.stopped _ (length x.stopped) refl

  pub read-write : read_index w (write w z x) ≡ x
  unfolding read_index
  read-write = λ i. record { rows = rows i; vacant = vacant i; postings = postings i; stopped = stopped i }
    where
      rows : map read_row (entries row_width (get_or (write w z x).references 0 0) (drop head_width (write w z x).references)) ≡ x.rows
      rows = rw (header-rows, written-rows) (rows-again x.rows x.vacant)

      vacant : map read_vacant (entries row_width (get_or (write w z x).references 1 0) (drop head_width (write w z x).references)) ≡ x.vacant
      vacant = rw (header-vacant, entries-fewer row_width (length x.vacant) (length x.rows) (drop head_width (write w z x).references) fewer, written-rows) (vacant-again x.rows x.vacant fewer)

      postings : map read_posting (entries w (get_or (write w z x).references 2 0) (write w z x).postings) ≡ x.postings
      postings = rw (header-postings, written-postings) (map-map read_posting posting_words x.postings ∙ map-id x.postings)

      stopped : take (get_or (write w z x).references 3 0) (write w z x).stopped ≡ x.stopped
      stopped = rw header-stopped written-stopped

  -- ---- unused words

  length-row-words : length (flat (row_entries x.rows x.vacant)) ≡ row_width * length x.rows
  length-row-words = length-flat row_width (row_entries x.rows x.vacant) (wide_rows x.rows x.vacant) ∙ rw (length-rows x.rows x.vacant)

  length-posting-words : length (flat (map posting_words x.postings)) ≡ w * length x.postings
  length-posting-words = length-flat w (map posting_words x.postings) (wide-postings w x.postings wide) ∙ rw (length-map x.postings posting_words)

  pub unused-rows : zero_from (write w z x).references (head_width + row_width * length x.rows) ≡ true
  unfolding write
  unused-rows = rw (← header (length (flat (row_entries x.rows x.vacant))) length-row-words) (padded-zero (head_width + row_width * z.R) _)
    where
      header : (l : ℕ) → l ≡ row_width * length x.rows → suc (suc (suc (suc l))) ≡ head_width + row_width * length x.rows
      header l e = omega arith

  pub unused-postings : zero_from (write w z x).postings (w * length x.postings) ≡ true
  unfolding write
  unused-postings = rw (← length-posting-words) (padded-zero (w * z.P) (flat (map posting_words x.postings)))

  pub unused-stopped : zero_from (write w z x).stopped (length x.stopped) ≡ true
  unfolding write
  unused-stopped = padded-zero z.K x.stopped

  -- ---- lengths

  module _ (rows_fit : length x.rows ≤ z.R) (postings-fit : length x.postings ≤ z.P) (stopped-fit : length x.stopped ≤ z.K) where
    pub length-references : length (write w z x).references ≡ head_width + row_width * z.R
    unfolding write
    length-references = length-padded (head_width + row_width * z.R) _ (omega (arith, length-row-words))

    pub length-postings : length (write w z x).postings ≡ w * z.P
    unfolding write
    length-postings =
        length-padded (w * z.P) (flat (map posting_words x.postings))
        (rw length-posting-words (mul-le-mul_left w postings-fit))

    pub length-stopped : length (write w z x).stopped ≡ z.K
    unfolding write
    length-stopped = length-padded z.K x.stopped stopped-fit

    pub sizes-written : 0 < w → sizes_of w (write w z x) ≡ z
    unfolding sizes_of
    sizes-written w0 = λ i. record { R = rows i; P = postings i; K = length-stopped i }
      where
        rows : (length (write w z x).references - head_width) / row_width ≡ z.R
        rows = rw length-references (omega arith)

        postings : length (write w z x).postings / w ≡ z.P
        postings = rw length-postings (mul-div_cancel_left z.P w0)
