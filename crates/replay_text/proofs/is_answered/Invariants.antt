-- `replay_text::is_answered`: the first i words have the line's halves. Assumes nothing.
use Rattle.std.proofs.Common.{◌≡◌, true, eqb, get_or}
use Rattle.lists.specs.Every.{every}
use Rattle.replay_text.specs.Words.{pair_of}
use Rattle.replay_text.proofs.is_answered.Given as goal

abbrev pub invariant-loop-i : goal.invariant-loop-i
invariant-loop-i l = every l.i (λ i. eqb (get_or l.answer i 0) (pair_of l.words i)) ≡ true
