-- `soundness::UsedPostings::listed` meets its contract. Assumes nothing.
use Rattle.std.proofs.Common.{◌≡◌, ◌≤◌, true}
use Rattle.lists.specs.Every.{every}
use Rattle.postings.specs.Retain.{Noted}
use Rattle.soundness.specs.Scan.{entry_fine}
use Rattle.soundness.proofs.Postings.{Ascended}
use Rattle.soundness.proofs.UsedPostings.listed.Given as goal

abbrev pub invariant-loop-i : goal.invariant-loop-i
invariant-loop-i l =
    Ascended l.self.words.now l.self.width l.i l.last
    × (every l.i (entry_fine l.self.width l.rows.refs.now l.rows.count l.self.words.now) ≡ true)
    × (l.own ≤ l.i)
    × Noted l.self.width l.self.count 1 l.id l.self.words.now l.i l.list l.own
