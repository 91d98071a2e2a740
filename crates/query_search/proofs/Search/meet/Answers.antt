-- Assumes nothing.
use Rattle.std.proofs.Common.{sym, ◌∙◌, arith}
use Rattle.query_search.proofs.Meeting.{met-none, ends_more}
use Rattle.query_search.proofs.Turns.{first-asks, walk-begun, reached-most, reached-few, under-row, walk-more, walk-counts, walk-ends}
use Rattle.query_search.proofs.Search.meet.Goals as goal

pub hashes-init : goal.hashes-init
hashes-init g c = (sym (met-none _ _ _), omega arith, record { stops = λ i l. absurd (omega arith) })

pub first_votes-v-requires : goal.first_votes-v-requires
first_votes-v-requires g c =
    let s = c.args.self in
    first-asks c.args.voters.set _ _ _ _ _ _ _ s.sought c.requires.4 c.hashes.i c.hashes-test.true _ _ (c.requires.0.begins _ c.hashes-test.true) c.first_under-n.ensures

pub returns-then-room-v-clause-value : goal.returns-then-room-v-clause-value
returns-then-room-v-clause-value g c =
    let s = c.args.self in
    let a = first-asks c.args.voters.set _ _ _ _ _ _ _ s.sought c.requires.4 c.hashes.i c.hashes-test.true _ _ (c.requires.0.begins _ c.hashes-test.true) c.first_under-n.ensures in
    let k = walk-begun c.args.voters.set _ _ _ _ _ _ _ s.sought c.requires.4 c.hashes.i c.hashes-test.true _ _ (c.requires.0.begins _ c.hashes-test.true) c.first_under-n.ensures _ _ c.hashes.invariant.0 c.first_votes-v.ensures.0 in
    let most = reached-most _ _ _ _ _ _ _ _ s.sought c.requires.4 c.hashes.i c.hashes-test.true _ _ k in
    omega (arith, a.2, most, c.first_votes-v.ensures.1, c.hashes.invariant.1, c.if-room-v.true)

pub loop-voters-init : goal.loop-voters-init
loop-voters-init g c =
    let s = c.args.self in
    (walk-begun c.args.voters.set _ _ _ _ _ _ _ s.sought c.requires.4 c.hashes.i c.hashes-test.true _ _ (c.requires.0.begins _ c.hashes-test.true) c.first_under-n.ensures _ _ c.hashes.invariant.0 c.first_votes-v.ensures.0, omega arith)

pub votes_at-v-requires : goal.votes_at-v-requires
votes_at-v-requires g c =
    under-row _ _ _ _ _ _ _ _ c.args.self.sought c.requires.4 c.hashes.i c.hashes-test.true _ _ c.loop-voters.invariant.0 (sym c.is_under.ensures ∙ c.loop-voters-test.true)

pub returns-then-room-v-2-clause-value : goal.returns-then-room-v-2-clause-value
returns-then-room-v-2-clause-value g c =
    let s = c.args.self in
    let k = walk-more _ _ _ _ _ _ _ _ s.sought c.requires.4 c.hashes.i c.hashes-test.true _ _ c.loop-voters.invariant.0 (sym c.is_under.ensures ∙ c.loop-voters-test.true) _ c.votes_at-v.ensures.0 in
    let most = reached-most _ _ _ _ _ _ _ _ s.sought c.requires.4 c.hashes.i c.hashes-test.true _ _ k in
    omega (arith, most, c.votes_at-v.ensures.1, c.loop-voters.invariant.1, c.if-room-v-2.true)

pub loop-voters-preserved : goal.loop-voters-preserved
loop-voters-preserved g c =
    (walk-more _ _ _ _ _ _ _ _ c.args.self.sought c.requires.4 c.hashes.i c.hashes-test.true _ _ c.loop-voters.invariant.0 (sym c.is_under.ensures ∙ c.loop-voters-test.true) _ c.votes_at-v.ensures.0, omega arith)

pub overflow_cast-ends : goal.overflow_cast-ends
overflow_cast-ends g c = record { fits = reached-few _ _ _ _ _ _ _ _ c.args.self.sought c.requires.4 c.hashes.i c.hashes-test.true _ _ c.loop-voters.invariant.0 }

pub hashes-preserved : goal.hashes-preserved
hashes-preserved g c =
    let s = c.args.self in
    let off = sym c.is_under.ensures ∙ c.loop-voters-test.false in (
      walk-counts _ _ _ _ _ _ _ _ s.sought c.requires.4 c.hashes.i c.hashes-test.true _ _ c.loop-voters.invariant.0 off,
      c.loop-voters.invariant.1,
      ends_more _ _ _ _ _ _ _ _ c.hashes.invariant.2 (omega (arith, c.requires.2, c.hashes.auto.ends, c.hashes-test.true))
          (walk-ends _ _ _ _ _ _ _ _ s.sought c.requires.4 c.hashes.i c.hashes-test.true _ _ c.loop-voters.invariant.0 off),
    )
