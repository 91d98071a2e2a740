-- WangIndex has the claim about histories: it is the model's, at Wang's scheme. Assumes nothing.
use native.Mathlib.Omega.{arith}
use Rattle.model.proofs.Claim.{claim}
use Rattle.wang_judge.specs.Scheme.{wang}
use Rattle.wang.specs.Demand3.{WangClaim}

pub wang-claim : WangClaim
wang-claim = claim wang (omega arith)
