-- The verdict on a candidate. Definitions only. Assumes nothing.
use Rattle.std.specs.Prelude as code
use Rattle.std.proofs.Math.Option.{Option, none, some}
use Rattle.matching.specs.declared.MatchResult.{MatchResult}

-- a judge says none, or the candidate's result: as a verdict
abbrev pub verdict_of : Option MatchResult → code.Option MatchResult
verdict_of none = code.None
verdict_of (some r) = code.Some r

-- the result in a verdict
abbrev pub result_in : code.Option MatchResult → Option MatchResult
result_in code.None = none
result_in (code.Some r) = some r
