-- `soundness::UsedPostings::are_fine` meets its contract. Assumes nothing.
use Rattle.std.proofs.Common.{◌≡◌, true}
use Rattle.lists.specs.Every.{every}
use Rattle.soundness.specs.Scan.{entry_fine}
use Rattle.soundness.proofs.Postings.{Ascended}
use Rattle.soundness.proofs.UsedPostings.are_fine.Given as goal

abbrev pub invariant-loop-i : goal.invariant-loop-i
invariant-loop-i l = Ascended l.self.words.now l.self.width l.i l.last × (every l.i (entry_fine l.self.width l.rows.refs.now l.rows.count l.self.words.now) ≡ true)
