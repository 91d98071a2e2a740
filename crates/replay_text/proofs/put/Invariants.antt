-- `replay_text::put`: the first i words are put. Assumes nothing.
use Rattle.std.proofs.Common.{◌≡◌, take}
use Rattle.replay_text.specs.Words.{padded_to}
use Rattle.replay_text.proofs.put.Given as goal

abbrev pub invariant-loop-i : goal.invariant-loop-i
invariant-loop-i l = take l.i l.slice ≡ padded_to l.i l.words
