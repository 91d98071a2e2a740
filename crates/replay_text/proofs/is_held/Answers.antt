-- `replay_text::is_held` meets its contract. Assumes nothing.
use Rattle.std.proofs.Common.{◌≡◌, sym, ◌∙◌, arith, length}
use borrow.Author.Tests.{eq-eqb}
use Rattle.lists.proofs.Every.{every-none, every_more}
use Rattle.replay_text.specs.Words.{same_at}
use Rattle.replay_text.proofs.Holding.{differs, holds-all}
use Rattle.replay_text.proofs.is_held.Goals as goal

pub loop-i-init : goal.loop-i-init
loop-i-init c = every-none (same_at c.args.slice.now c.args.words.now)

pub returns-then-x-padded : goal.returns-then-x-padded
returns-then-x-padded c =
    differs c.args.slice.now c.args.words.now c.loop-i.i c.loop-i-test.true (λ e. c.if-x-padded.true (e ∙ sym c.padded.ensures))

pub loop-i-preserved : goal.loop-i-preserved
loop-i-preserved c =
    every_more (same_at c.args.slice.now c.args.words.now) c.loop-i.i c.loop-i.invariant (eq-eqb _ _ (c.if-x-padded.false ∙ c.padded.ensures))

pub returns : goal.returns
returns c =
    let e : c.loop-i.i ≡ length c.args.slice.now = omega arith in
    holds-all c.args.slice.now c.args.words.now (rw e at c.loop-i.invariant)
