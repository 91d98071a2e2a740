-- "References: 4 words (rows n, vacant v, postings p, stopped k), then R rows" of 5 words: "rate bits, r_max, live (1 or 0), vacant entry",
-- "its set". -- Definitions only. Assumes nothing.
use Rattle.std.specs.Prelude.{◌≡◌, List, ◌∷◌, ◌++◌, ℕ, get_or, drop, set}
use Rattle.lists.specs.Lists.{flat}
use Rattle.model.specs.Words.{head_width, row_place, at_rate, at_rmax, at_live, at_vacant, at_set}
use Rattle.rows.specs.declared.Counts.{Counts}

pub record CountsOf (rs : List ℕ) (h : Counts) : Type 0 where
  pub rows : h.rows ≡ get_or rs 0 0
  pub vacant : h.vacant ≡ get_or rs 1 0
  pub postings : h.postings ≡ get_or rs 2 0
  pub stopped : h.stopped ≡ get_or rs 3 0

-- the first four words anew
unfoldable pub header_put : List ℕ → ℕ → ℕ → ℕ → ℕ → List ℕ
header_put rs n v p k = n ∷ v ∷ p ∷ k ∷ drop head_width rs

-- row j anew, but for its vacant entry
unfoldable pub row_put : List ℕ → ℕ → ℕ → ℕ → ℕ → ℕ → List ℕ
row_put rs j rate rmax live s = set (set (set (set rs (row_place j at_rate) rate) (row_place j at_rmax) rmax) (row_place j at_live) live) (row_place j at_set) s

-- vacant entry i anew
unfoldable pub entry_put : List ℕ → ℕ → ℕ → List ℕ
entry_put rs i id = set rs (row_place i at_vacant) id

-- a header, rows, and what stands behind them
unfoldable pub headed : ℕ → ℕ → ℕ → ℕ → List (List ℕ) → List ℕ → List ℕ
headed n v p k es rest = n ∷ v ∷ p ∷ k ∷ (flat es ++ rest)
