-- Refused calls of WangIndex. Definitions only. Assumes nothing.
use Rattle.model.specs.Refusals.{InOrder}
use Rattle.query_rank.specs.Unchanged.{Unchanged}
use Rattle.wang_judge.specs.Scheme.{wang}

-- "all lent memory unchanged, here and below": a refused call alters neither the store nor the scratch
abbrev pub WangUnchanged : Type 0
WangUnchanged = Unchanged wang

-- "The lowest number that applies is returned."
abbrev pub WangInOrder : Type 0
WangInOrder = InOrder wang
