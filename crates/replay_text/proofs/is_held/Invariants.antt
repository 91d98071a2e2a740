-- `replay_text::is_held`: the first i words are held. Assumes nothing.
use Rattle.std.proofs.Common.{◌≡◌, true}
use Rattle.lists.specs.Every.{every}
use Rattle.replay_text.specs.Words.{same_at}
use Rattle.replay_text.proofs.is_held.Given as goal

abbrev pub invariant-loop-i : goal.invariant-loop-i
invariant-loop-i l = every l.i (same_at l.slice l.words) ≡ true
