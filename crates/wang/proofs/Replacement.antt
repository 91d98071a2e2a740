-- A recording swapped in one call, for WangIndex: it is the model's, at Wang's scheme. Assumes nothing.
use native.Mathlib.Omega.{arith}
use Rattle.model.proofs.Replacement.{swaps, corrected}
use Rattle.wang_judge.specs.Scheme.{wang}
use Rattle.wang.proofs.Demand3.{wang-claim}
use Rattle.wang.specs.Replacement.{WangSwaps, WangCorrected}

pub wang-swaps : WangSwaps
wang-swaps = swaps wang (omega arith)

pub wang-corrected : WangCorrected
wang-corrected = corrected wang wang-claim
