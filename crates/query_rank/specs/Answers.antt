-- The best candidate so far and the answer of a query, as the model has them; the scratch after a query. Definitions only. Assumes nothing.
use Rattle.std.specs.Prelude as code
use Rattle.std.specs.Prelude.{List, ℕ, ℤ, pos, length, replicate}
use Rattle.std.proofs.Math.Option.{Option, none, some}
use Rattle.matching.specs.declared.MatchResult.{MatchResult}
use Rattle.model.specs.Calls.{Answer, built, stored, removed, count, best, nothing, refused}
use Rattle.refusals.specs.declared.Refusal.{Refusal}
use Rattle.refusals.specs.Numbers.{number_of}
use Rattle.query_rank.specs.declared.Found.{Found}

-- the best candidate so far, with its id
abbrev pub best_so_far : code.Option Found → Option (ℕ × MatchResult)
best_so_far code.None = none
best_so_far (code.Some f) = some (f.id, f.result)

-- "best with its result, none, or refused with a number"
abbrev pub finding_answer : code.Result (code.Option Found) Refusal → Answer
finding_answer (code.Err r) = refused (number_of r)
finding_answer (code.Ok code.None) = nothing
finding_answer (code.Ok (code.Some f)) = best f.id f.result

-- the scratch s after a query with this answer: refused, "all lent memory unchanged"; "after an accepted one, none included, every
-- scratch word is zero"
abbrev pub scratch_after : Answer → List ℤ → List ℤ
scratch_after built s = replicate (length s) (pos 0)
scratch_after (stored id) s = replicate (length s) (pos 0)
scratch_after (removed b) s = replicate (length s) (pos 0)
scratch_after (count n) s = replicate (length s) (pos 0)
scratch_after (best id r) s = replicate (length s) (pos 0)
scratch_after nothing s = replicate (length s) (pos 0)
scratch_after (refused n) s = s
