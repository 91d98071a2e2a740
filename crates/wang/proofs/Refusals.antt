-- What holds of refused calls of WangIndex: it is the model's, at Wang's scheme. Assumes nothing.
use native.Mathlib.Omega.{arith}
use Rattle.model.proofs.Refusals.{in_order}
use Rattle.query_rank.proofs.Unchanged.{unchanged}
use Rattle.wang_judge.specs.Scheme.{wang}
use Rattle.wang.specs.Refusals.{WangUnchanged, WangInOrder}

pub wang-unchanged : WangUnchanged
wang-unchanged = unchanged wang (omega arith)

pub wang-in-order : WangInOrder
wang-in-order = in_order wang (omega arith)
