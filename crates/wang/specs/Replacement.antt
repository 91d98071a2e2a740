-- A recording swapped in one call, for WangIndex. Definitions only. Assumes nothing.
use Rattle.model.specs.Replacement.{Swaps, Corrected}
use Rattle.wang_judge.specs.Scheme.{wang}

-- "Where it isn't refused, it answers and leaves what the removal and then the insertion would"
abbrev pub WangSwaps : Type 0
WangSwaps = Swaps wang

-- and a corrected take changes an answer that wasn't its own only by being the better answer itself, over any list of calls
abbrev pub WangCorrected : Type 0
WangCorrected = Corrected wang
