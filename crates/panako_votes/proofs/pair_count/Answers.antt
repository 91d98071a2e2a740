-- Assumes nothing.
use Rattle.std.proofs.Common.{sym, ◌∙◌, arith}
use Rattle.panako_votes.proofs.Pairs.{count-one, count_none}
use Rattle.panako_votes.proofs.pair_count.Goals as goal

pub returns-then-has_vote : goal.returns-then-has_vote
returns-then-has_vote c =
    let has = rw c.span_of.ensures at c.has_vote.ensures in
    (c.votes_at.ensures.0 ∙ sym (count-one _ _ _ c.args.posting.now c.args.voters.set c.args.voters.refs.now (sym has ∙ c.if-has_vote.true)), c.votes_at.ensures.1)

pub returns : goal.returns
returns c =
    let has = rw c.span_of.ensures at c.has_vote.ensures in
    (sym (count_none _ _ _ c.args.posting.now c.args.voters.set c.args.voters.refs.now (sym has ∙ c.if-has_vote.false)), omega arith)
