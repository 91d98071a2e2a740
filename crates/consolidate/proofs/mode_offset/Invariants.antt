use Rattle.consolidate.proofs.Peaks.{TalliedBetween}
use Rattle.consolidate.proofs.mode_offset.Given as goal

abbrev pub invariant-loop-i : goal.invariant-loop-i
invariant-loop-i l = TalliedBetween l.s l.from l.to l.i l.t
