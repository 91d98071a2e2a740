-- PanakoIndex has the claim about histories: it is the model's, at Panako's scheme. Assumes nothing.
use native.Mathlib.Omega.{arith}
use Rattle.model.proofs.Claim.{claim}
use Rattle.panako_judge.specs.Scheme.{panako}
use Rattle.panako.specs.Demand3.{PanakoClaim}

pub panako-claim : PanakoClaim
panako-claim = claim panako (omega arith)
