-- `replay_text::read_words` meets its contract. Assumes nothing.
use Rattle.std.proofs.Common.{refl, sym, ◌∙◌, arith}
use Rattle.lists.proofs.Every.{every-none, every_more, every-fail}
use Rattle.replay_text.specs.Digits.{word_stands, first_words}
use Rattle.replay_text.proofs.Holding.{word-turn}
use Rattle.replay_text.proofs.read_words.Goals as goal

pub loop-i-init : goal.loop-i-init
unfolding first_words
loop-i-init c = record { stand = every-none (word_stands c.args.text.now); put = refl }

pub returns-then-not-is_word-clause-value : goal.returns-then-not-is_word-clause-value
returns-then-not-is_word-clause-value c = sym (every-fail (word_stands c.args.text.now) c.args.n c.loop-i.i c.loop-i-test.true (sym c.is_word.ensures ∙ c.if-not-is_word.true))

pub loop-i-preserved : goal.loop-i-preserved
loop-i-preserved c = record {
  stand = every_more (word_stands c.args.text.now) c.loop-i.i c.loop-i.invariant.stand (sym c.is_word.ensures ∙ c.if-not-is_word.false);
  put = word-turn c.args.text.now c.loop-i.words c.loop-i.i c.word_at.result (omega arith) c.loop-i.invariant.put c.word_at.ensures;
}
