-- `postings::Entries::others` meets its contract. Assumes nothing.
use Rattle.std.proofs.Common.{◌≡◌, [], ◌∷◌, ◌≤◌, length}
use Rattle.postings.specs.Retain.{staying}
use Rattle.postings.proofs.Entries.others.Given as goal

abbrev pub invariant-loop-i : goal.invariant-loop-i
invariant-loop-i l = (l.c ≡ length (staying l.self.width l.i l.self.field (l.x ∷ []) l.self.words.now)) × (l.c ≤ l.i)
