-- Recordings of other sets, for WangIndex: it is the model's, at Wang's scheme. Assumes nothing.
use native.Mathlib.Omega.{arith}
use Rattle.model.proofs.Sets.{answers-alike, elsewhere}
use Rattle.wang_judge.specs.Scheme.{wang}
use Rattle.wang.proofs.Demand3.{wang-claim}
use Rattle.wang.specs.Sets.{WangAnswersAlike, WangElsewhere}

pub wang-answers-alike : WangAnswersAlike
wang-answers-alike = answers-alike wang (omega arith)

pub wang-elsewhere : WangElsewhere
wang-elsewhere = elsewhere wang wang-claim
