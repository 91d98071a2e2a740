-- "all lent memory unchanged, here and below": what a refused call leaves of all that it was lent, of any scheme.
-- Definitions only. Assumes nothing.
use Rattle.std.specs.Prelude.{◌≡◌, List, ℕ, ℤ}
use Rattle.model.specs.Query.{Scheme, Query}
use Rattle.model.specs.Calls.{refused, query}
use Rattle.model.specs.Words.{Words}
use Rattle.model.specs.Run.{run}
use Rattle.model.specs.Refusals.{AltersNothing}
use Rattle.query_rank.specs.Answers.{scratch_after}

pub record Unchanged (S : Scheme) : Type 0 where
  -- the store, whatever the call
  pub store : AltersNothing S
  -- and the scratch s, whatever it holds: a query alone is lent one
  pub scratch : (m : Words) (q : Query S) (s : List ℤ) (n : ℕ) → (run S m (query q)).0 ≡ refused n → scratch_after (run S m (query q)).0 s ≡ s
