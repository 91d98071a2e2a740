-- A recording swapped in one call, for PanakoIndex. Definitions only. Assumes nothing.
use Rattle.model.specs.Replacement.{Swaps, Corrected}
use Rattle.panako_judge.specs.Scheme.{panako}

-- "Where it isn't refused, it answers and leaves what the removal and then the insertion would"
abbrev pub PanakoSwaps : Type 0
PanakoSwaps = Swaps panako

-- and a corrected take changes an answer that wasn't its own only by being the better answer itself, over any list of calls
abbrev pub PanakoCorrected : Type 0
PanakoCorrected = Corrected panako
