use Rattle.std.proofs.Common.{◌≡◌, length, take}
use Rattle.lists.specs.Lists.{sum}
use Rattle.build_entries.specs.Laid.{StartsTo}
use Rattle.build_entries.proofs.fill_starts.Given as goal

abbrev pub invariant-loop-i : goal.invariant-loop-i
invariant-loop-i l = (l.total ≡ sum (take l.i l.lengths)) × StartsTo l.starts l.lengths l.i × (length l.starts ≡ 4096)
