-- Age sets on one card, for WangIndex. Definitions only. Assumes nothing.
use Rattle.model.specs.Sets.{AnswersAlike, Elsewhere}
use Rattle.wang_judge.specs.Scheme.{wang}

-- "two sound stores with the same rows, ids and postings in the asked set answer it alike"
abbrev pub WangAnswersAlike : Type 0
WangAnswersAlike = AnswersAlike wang

-- "Recordings of other sets can't alter its answer", over any list of calls
abbrev pub WangElsewhere : Type 0
WangElsewhere = Elsewhere wang
