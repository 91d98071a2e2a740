-- `slices::move_up`: all but the first j words are moved. Assumes nothing.
use Rattle.slices.proofs.Moved.{Moving}
use Rattle.slices.proofs.move_up.Given as goal

abbrev pub invariant-loop-j : goal.invariant-loop-j
invariant-loop-j l = Moving l.initial.s l.s l.to l.from l.n l.j
