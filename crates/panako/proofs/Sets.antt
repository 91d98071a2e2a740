-- Recordings of other sets, for PanakoIndex: it is the model's, at Panako's scheme. Assumes nothing.
use native.Mathlib.Omega.{arith}
use Rattle.model.proofs.Sets.{answers-alike, elsewhere}
use Rattle.panako_judge.specs.Scheme.{panako}
use Rattle.panako.proofs.Demand3.{panako-claim}
use Rattle.panako.specs.Sets.{PanakoAnswersAlike, PanakoElsewhere}

pub panako-answers-alike : PanakoAnswersAlike
panako-answers-alike = answers-alike panako (omega arith)

pub panako-elsewhere : PanakoElsewhere
panako-elsewhere = elsewhere panako panako-claim
