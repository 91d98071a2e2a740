-- A refused call leaves all that it was lent as it was, of any scheme. Assumes nothing.
use mathlib.Core.Path.{ap}
use Prim.Native.Nat.{◌≤◌}
use Rattle.model.specs.Query.{Scheme}
use Rattle.model.specs.Calls.{Answer}
use Rattle.model.proofs.Refusals.{alters-nothing}
use Rattle.query_rank.specs.Answers.{scratch_after}
use Rattle.query_rank.specs.Unchanged.{Unchanged}

pub unchanged : (S : Scheme) → 2 ≤ S.width → Unchanged S
unchanged S w2 = record { store = alters-nothing S w2; scratch = λ m q s n e. ap (λ (a : Answer). scratch_after a s) e }
