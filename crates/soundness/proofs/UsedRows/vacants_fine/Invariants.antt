-- `soundness::UsedRows::vacants_fine` meets its contract. Assumes nothing.
use Rattle.std.proofs.Common.{◌≡◌, true}
use Rattle.lists.specs.Every.{every}
use Rattle.model.specs.Soundness.{vacant_entry}
use Rattle.soundness.proofs.Vacant.{Marked}
use Rattle.soundness.proofs.UsedRows.vacants_fine.Given as goal

abbrev pub invariant-loop-j : goal.invariant-loop-j
invariant-loop-j l = (every l.j (vacant_entry l.self.refs.now l.self.count) ≡ true) × Marked l.self.refs.now l.marks l.j
