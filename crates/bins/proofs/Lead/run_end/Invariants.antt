-- The words from i up to r have one lead.
use Rattle.std.proofs.Common.{◌≡◌, ℕ, ◌≤◌, ◌<◌, pos, get_or}
use Rattle.bins.specs.Votes.{lead_of}
use Rattle.bins.proofs.Lead.run_end.Given as goal

abbrev pub invariant-loop-r : goal.invariant-loop-r
invariant-loop-r l = (t : ℕ) → l.i ≤ t → t < l.r → lead_of l.self.low l.self.bits (get_or l.s t (pos 0)) ≡ lead_of l.self.low l.self.bits (get_or l.s l.i (pos 0))
