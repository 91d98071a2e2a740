-- `replay_text::read_words`: the first i words stand in the text, and are put. Assumes nothing.
use Rattle.std.proofs.Common.{◌≡◌, true, take}
use Rattle.lists.specs.Every.{every}
use Rattle.replay_text.specs.Digits.{word_stands, first_words}
use Rattle.replay_text.proofs.read_words.Given as goal

abbrev pub invariant-loop-i : goal.invariant-loop-i
invariant-loop-i l = record {
  stand : every l.i (word_stands l.text) ≡ true;
  put : take l.i l.words ≡ first_words l.i l.text;
}
