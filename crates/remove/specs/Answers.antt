-- The answers of live_count and remove as document 01's cases. Definitions only. Assumes nothing.
use Rattle.std.specs.Prelude.{Bool, ℕ, Result, Ok, Err}
use Rattle.refusals.specs.declared.Refusal.{Refusal}
use Rattle.refusals.specs.Numbers.{number_of}
use Rattle.model.specs.Calls.{Answer, count, removed, refused}

-- "a live count", "or refused with a number"
abbrev pub count_answer : Result ℕ Refusal → Answer
count_answer (Ok n) = count n
count_answer (Err r) = refused (number_of r)

-- "removed yes or no", "or refused with a number"
abbrev pub removal_answer : Result Bool Refusal → Answer
removal_answer (Ok b) = removed b
removal_answer (Err r) = refused (number_of r)
