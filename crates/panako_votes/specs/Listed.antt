-- The query hashes that meet a posting: those whose postings end behind where they begin. Definitions only. Assumes nothing.
use Rattle.std.specs.Prelude.{◌≡◌, List, ℕ, ◌<◌, get_or, ltb}
use Rattle.maps.specs.Sums.{sum_to, when}

-- how many of the first i they are
unfoldable pub met_to : List ℕ → List ℕ → ℕ → ℕ
met_to starts ends i = sum_to (λ t. when (ltb (get_or starts t 0) (get_or ends t 0)) 1) i

-- those of the first m are the first k words, in order: word j is the one before which j stand
pub record Listed (starts ends which : List ℕ) (m k : ℕ) : Type 0 where
  pub number : k ≡ met_to starts ends m
  pub place : (j : ℕ) → j < k → get_or which j 0 < m
  pub rank : (j : ℕ) → j < k → met_to starts ends (get_or which j 0) ≡ j
  pub meets : (j : ℕ) → j < k → get_or starts (get_or which j 0) 0 < get_or ends (get_or which j 0) 0
