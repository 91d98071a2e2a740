-- A recording swapped in one call, for PanakoIndex: it is the model's, at Panako's scheme. Assumes nothing.
use native.Mathlib.Omega.{arith}
use Rattle.model.proofs.Replacement.{swaps, corrected}
use Rattle.panako_judge.specs.Scheme.{panako}
use Rattle.panako.proofs.Demand3.{panako-claim}
use Rattle.panako.specs.Replacement.{PanakoSwaps, PanakoCorrected}

pub panako-swaps : PanakoSwaps
panako-swaps = swaps panako (omega arith)

pub panako-corrected : PanakoCorrected
panako-corrected = corrected panako panako-claim
