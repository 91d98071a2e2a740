-- `soundness::UsedPostings::none_stopped` meets its contract. Assumes nothing.
use Rattle.std.proofs.Common.{◌≤◌, length}
use Rattle.soundness.proofs.Stopped.{Walked}
use Rattle.soundness.proofs.UsedPostings.none_stopped.Given as goal

abbrev pub invariant-loop-key : goal.invariant-loop-key
invariant-loop-key l = (l.i ≤ l.self.count) × Walked l.self.width l.stops (length l.stops) l.self.words.now l.self.count l.i l.key-index
