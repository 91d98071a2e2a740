-- The words that an erased recording leaves, from those at entry. Definitions only. Assumes nothing.
use Rattle.std.specs.Prelude.{List, [], ◌∷◌, ℕ, ◌+◌, ◌*◌, ◌≤◌, ◌<◌, length, get_or}
use Rattle.model.specs.Rows.{no_rate}
use Rattle.model.specs.Words.{head_width, row_width}
use Rattle.rows.specs.References.{header_put, row_put, entry_put}
use Rattle.postings.specs.Retain.{staying, retained}

-- row id is dead, id is the last of the vacant entries, and `held` postings are left
unfoldable pub vacated : List ℕ → ℕ → ℕ → List ℕ
vacated rs id held = header_put (entry_put (row_put rs id no_rate 0 0 0) (get_or rs 1 0) id) (get_or rs 0 0) (get_or rs 1 0 + 1) held (get_or rs 3 0)

-- the postings of the other recordings, in order
abbrev pub others : ℕ → List ℕ → List ℕ → ℕ → List (List ℕ)
others w rs ps id = staying w (get_or rs 2 0) 1 (id ∷ []) ps

abbrev pub others_left : ℕ → List ℕ → List ℕ → ℕ → List ℕ
others_left w rs ps id = retained w (get_or rs 2 0) 1 (id ∷ []) ps

-- what the erasing of id's postings and row needs of the words
pub record Erasable (w : ℕ) (rs ps : List ℕ) (id : ℕ) : Type 0 where
  pub wide : 3 ≤ w
  pub held : w * get_or rs 2 0 ≤ length ps
  pub few : get_or rs 2 0 ≤ 1048576
  pub here : head_width + row_width * (id + 1) ≤ length rs
  pub next : head_width + row_width * (get_or rs 1 0 + 1) ≤ length rs
  pub some : get_or rs 1 0 < 4096
