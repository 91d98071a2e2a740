use Rattle.std.proofs.Common.{◌≡◌, ◌≤◌}
use Rattle.lists.specs.Every.{count}
use Rattle.model.specs.Soundness.{dead_row}
use Rattle.soundness.proofs.UsedRows.dead.Given as goal

abbrev pub invariant-loop-j : goal.invariant-loop-j
invariant-loop-j l = (l.c ≡ count l.j (dead_row l.self.refs.now)) × (l.c ≤ l.j)
