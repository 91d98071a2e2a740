-- What holds of refused calls of PanakoIndex: it is the model's, at Panako's scheme. Assumes nothing.
use native.Mathlib.Omega.{arith}
use Rattle.model.proofs.Refusals.{in_order}
use Rattle.query_rank.proofs.Unchanged.{unchanged}
use Rattle.panako_judge.specs.Scheme.{panako}
use Rattle.panako.specs.Refusals.{PanakoUnchanged, PanakoInOrder}

pub panako-unchanged : PanakoUnchanged
panako-unchanged = unchanged panako (omega arith)

pub panako-in-order : PanakoInOrder
panako-in-order = in_order panako (omega arith)
