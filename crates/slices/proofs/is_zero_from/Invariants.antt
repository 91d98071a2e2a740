use Rattle.std.proofs.Common.{◌≡◌}
use Rattle.lists.specs.Every.{every}
use Rattle.lists.specs.Entries.{zero_word}
use Rattle.slices.proofs.is_zero_from.Given as goal

abbrev pub invariant-loop-x : goal.invariant-loop-x
invariant-loop-x l = l.ok ≡ every l.x-index (zero_word l.s l.a)
