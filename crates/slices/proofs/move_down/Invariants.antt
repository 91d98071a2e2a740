-- `slices::move_down`: the first j words are moved. Assumes nothing.
use Rattle.std.proofs.Common.{◌≡◌}
use Rattle.slices.specs.Parts.{pasted}
use Rattle.slices.proofs.move_down.Given as goal

abbrev pub invariant-loop-j : goal.invariant-loop-j
invariant-loop-j l = l.s ≡ pasted l.initial.s l.to l.initial.s l.from l.j
