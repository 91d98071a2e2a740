-- `soundness::UsedRows::entries_unused` meets its contract. Assumes nothing.
use Rattle.std.proofs.Common.{◌≡◌, ◌-◌, true}
use Rattle.lists.specs.Every.{every}
use Rattle.model.specs.Soundness.{entry_unused}
use Rattle.soundness.proofs.UsedRows.entries_unused.Given as goal

abbrev pub invariant-loop-j : goal.invariant-loop-j
invariant-loop-j l = every (l.j - l.v) (entry_unused l.self.refs.now l.v) ≡ true
