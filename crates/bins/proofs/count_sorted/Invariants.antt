-- The first i votes are binned.
use Rattle.std.proofs.Common.{◌-◌}
use Rattle.bins.proofs.Binning.{Binning}
use Rattle.bins.proofs.count_sorted.Given as goal

abbrev pub invariant-loop-i : goal.invariant-loop-i
invariant-loop-i l = Binning l.f l.middle l.fn.s l.s l.a l.g l.at l.i l.n l.j

abbrev pub decreases-loop-i : goal.decreases-loop-i
decreases-loop-i l = l.g - l.i
