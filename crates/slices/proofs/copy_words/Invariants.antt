-- `slices::copy_words`: the first j words are copied. Assumes nothing.
use Rattle.std.proofs.Common.{◌≡◌}
use Rattle.slices.specs.Parts.{pasted}
use Rattle.slices.proofs.copy_words.Given as goal

abbrev pub invariant-loop-j : goal.invariant-loop-j
invariant-loop-j l = l.dst ≡ pasted l.initial.dst l.to l.src l.from l.j
