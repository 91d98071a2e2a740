-- Whose postings vote in a query: "A query names a set, or 0 for all, and only votes of that set count against its scratch." rs are the
-- words of the references; a posting is an entry of words, the second of them the id. Definitions only. Assumes nothing.
use Rattle.std.specs.Prelude.{ℕ, ◌+◌, ◌*◌, ◌<◌, ◌≤◌, Bool, cond, List, [], length, ℤ, slice_index}
use Rattle.lists.specs.Lists.{keep, All}
use Rattle.lists.specs.Entries.{entries}
use Rattle.model.specs.Rows.{in_set}
use Rattle.model.specs.Words.{head_width, row_width, row_place, at_set}
use Rattle.model.specs.Soundness.{row_word}

-- may recording id vote in a query for this set?
unfoldable pub may_vote : ℕ → List ℕ → ℕ → Bool
may_vote set rs id = in_set set (row_word rs id at_set)

-- those of the postings es that vote
unfoldable pub voting : ℕ → List ℕ → List (List ℕ) → List (List ℕ)
voting set rs es = keep (λ e. may_vote set rs (slice_index e 1)) es

-- the words that f gives with posting e, where it votes
unfoldable pub if_voting : ℕ → List ℕ → (List ℕ → List ℤ) → List ℕ → List ℤ
if_voting set rs f e = cond (may_vote set rs (slice_index e 1)) (f e) []

-- ---- what the code asks

-- the set of recording id can be read
abbrev pub HasRow : List ℕ → ℕ → Type 0
HasRow rs id = row_place id at_set < length rs

-- each of p postings of w words has the id of a recording, and recordings have rows
pub record Rowed (rs ps : List ℕ) (w p : ℕ) : Type 0 where
  pub wide : 2 ≤ w
  pub ids : All (λ e. slice_index e 1 < slice_index rs 0) (entries w p ps)
  pub rows : head_width + row_width * slice_index rs 0 ≤ length rs
