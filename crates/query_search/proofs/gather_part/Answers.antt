-- Assumes nothing.
use Rattle.std.proofs.Common.{◌≡◌, length, sym, ◌∙◌, arith, rules}
use Rattle.query_search.proofs.Parts.{part_begun, part_done, part-row, part-id, part-room, part-voted, part-passed}
use Rattle.query_search.proofs.gather_part.Goals as goal
use Rattle.query_search.proofs.gather_part.Goals.{then-may_vote, else-may_vote}

pub loop-posting-init : goal.loop-posting-init
loop-posting-init g c = part_begun c.args.voters.set c.args.voters.refs.now c.args.postings.now (g.H.Votes.words_with c.args.hash) _ _

pub may_vote-requires : goal.may_vote-requires
may_vote-requires g c = part-row c.args.voters.set _ _ (g.H.Votes.words_with c.args.hash) _ _ (omega arith) c.posting-item.is c.requires.2

pub put-v-requires : goal.put-v-requires
put-v-requires g c = (
  search rules,
  (
    part-id c.args.voters.set c.args.voters.refs.now _ (g.H.Votes.words_with c.args.hash) _ _ (omega arith) c.posting-item.is c.requires.3,
    part-room c.args.voters.set c.args.voters.refs.now _ (g.H.Votes.words_with c.args.hash) _ _ (omega arith) c.posting-item.is
        (sym c.may_vote.ensures ∙ c.if-may_vote.true) _ _ _ c.loop-posting.invariant.0 (omega (arith, c.requires.4)),
  ),
)

pub loop-posting-preserved : goal.loop-posting-preserved
loop-posting-preserved g c =
    elim c.if-may_vote.branch [
      | then-may_vote w ↦
          rw (w.v-is, w.s-is) (part-voted c.args.voters.set c.args.voters.refs.now _ (g.H.Votes.words_with c.args.hash) _ _ (omega arith) c.posting-item.is
          _ _ _ _ c.loop-posting.invariant.0 c.loop-posting.invariant.1 (sym c.may_vote.ensures ∙ w.if-may_vote.true) _ _ w.put-v.ensures.0 w.put-v.ensures.1)
      | else-may_vote w ↦
          rw (w.v-is, w.s-is) (part-passed c.args.voters.set c.args.voters.refs.now _ (g.H.Votes.words_with c.args.hash) _ _ (omega arith) c.posting-item.is
          _ _ _ _ c.loop-posting.invariant.0 c.loop-posting.invariant.1 (sym c.may_vote.ensures ∙ w.if-may_vote.false))
    ]

pub returns : goal.returns
returns g c =
    let e : c.loop-posting.posting-index ≡ length c.args.postings.now = omega arith in
    part_done c.args.voters.set c.args.voters.refs.now c.args.postings.now (g.H.Votes.words_with c.args.hash) _ _ _ _
    (rw e at c.loop-posting.invariant.0) (rw e at c.loop-posting.invariant.1)
