use Rattle.std.proofs.Common.{◌≡◌, take}
use Rattle.lists.specs.Lists.{sum}
use Rattle.build_ranges.specs.Codes.{ranks_from}
use Rattle.build_entries.proofs.fill_ranks.Given as goal

abbrev pub invariant-loop-i : goal.invariant-loop-i
invariant-loop-i l = (l.m ≡ sum (take l.i l.lengths)) × (take l.m l.posts ≡ ranks_from 0 (take l.i l.lengths))
