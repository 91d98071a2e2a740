-- `panako_votes::list_met`: those of the first i query hashes that meet a posting are the first k words. Assumes nothing.
use Rattle.std.proofs.Common.{◌≤◌}
use Rattle.panako_votes.specs.Listed.{Listed}
use Rattle.panako_votes.proofs.list_met.Given as goal

abbrev pub invariant-loop-i : goal.invariant-loop-i
invariant-loop-i l = Listed l.starts l.ends l.which l.i l.k × (l.k ≤ l.i)
