-- `replay_text::is_answered` meets its contract. Assumes nothing.
use Rattle.std.proofs.Common.{◌≡◌, sym, ◌∙◌, arith, eqb, get_or}
use borrow.Author.Tests.{eq-eqb}
use Rattle.lists.proofs.Every.{every-none, every_more}
use Rattle.replay_text.specs.Words.{pair_of}
use Rattle.replay_text.proofs.Holding.{pairs-differ, pairs-end}
use Rattle.replay_text.proofs.is_answered.Goals as goal

pub loop-i-init : goal.loop-i-init
loop-i-init c = every-none (λ i. eqb (get_or c.args.answer.now i 0) (pair_of c.args.words.now i))

pub returns-then-x-pair_of : goal.returns-then-x-pair_of
returns-then-x-pair_of c =
    pairs-differ c.args.answer.now c.args.words.now c.loop-i.i c.loop-i-test.true (λ e. c.if-x-pair_of.true (e ∙ sym c.pair_of.ensures))

pub loop-i-preserved : goal.loop-i-preserved
loop-i-preserved c =
    every_more (λ i. eqb (get_or c.args.answer.now i 0) (pair_of c.args.words.now i)) c.loop-i.i c.loop-i.invariant
    (eq-eqb _ _ (c.if-x-pair_of.false ∙ c.pair_of.ensures))

pub returns : goal.returns
returns c =
    let e : c.loop-i.i ≡ 8 = omega arith in
    pairs-end c.args.answer.now c.args.words.now (rw e at c.loop-i.invariant)
