-- Refused calls of PanakoIndex. Definitions only. Assumes nothing.
use Rattle.model.specs.Refusals.{InOrder}
use Rattle.query_rank.specs.Unchanged.{Unchanged}
use Rattle.panako_judge.specs.Scheme.{panako}

-- "all lent memory unchanged, here and below": a refused call alters neither the store nor the scratch
abbrev pub PanakoUnchanged : Type 0
PanakoUnchanged = Unchanged panako

-- "The lowest number that applies is returned."
abbrev pub PanakoInOrder : Type 0
PanakoInOrder = InOrder panako
