-- `soundness::UsedRows::are_fine` meets its contract. Assumes nothing.
use Rattle.std.proofs.Common.{◌≡◌, true}
use Rattle.lists.specs.Every.{every}
use Rattle.soundness.specs.Scan.{row_fine}
use Rattle.soundness.proofs.UsedRows.are_fine.Given as goal

abbrev pub invariant-loop-j : goal.invariant-loop-j
invariant-loop-j l = every l.j (row_fine l.w l.self.refs.now) ≡ true
