-- The answer of a query whose best candidate is `best`: the code's `Ok(best)`. Assumes nothing.
use mathlib.Core.Path.{◌≡◌, refl}
use Rattle.std.specs.Prelude.{Option, Some, None, Ok}
use Rattle.model.specs.Calls.{answer_of}
use Rattle.query_rank.specs.declared.Found.{Found}
use Rattle.query_rank.specs.Answers.{best_so_far, finding_answer}

pub answered : (best : Option Found) → finding_answer (Ok best) ≡ answer_of (best_so_far best)
answered None = refl
answered (Some f) = refl
