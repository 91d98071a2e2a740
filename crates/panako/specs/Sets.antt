-- Age sets on one card, for PanakoIndex. Definitions only. Assumes nothing.
use Rattle.model.specs.Sets.{AnswersAlike, Elsewhere}
use Rattle.panako_judge.specs.Scheme.{panako}

-- "two sound stores with the same rows, ids and postings in the asked set answer it alike"
abbrev pub PanakoAnswersAlike : Type 0
PanakoAnswersAlike = AnswersAlike panako

-- "Recordings of other sets can't alter its answer", over any list of calls
abbrev pub PanakoElsewhere : Type 0
PanakoElsewhere = Elsewhere panako
