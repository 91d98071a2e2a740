-- Assumes nothing.
use Rattle.std.proofs.Common.{◌≡◌, ℕ, ◌+◌, ◌/◌, List, length, refl, sym, ap, ◌∙◌, arith}
use Rattle.lists.specs.Entries.{key_at}
use Rattle.maps.proofs.Entries.{first-splits}
use Rattle.query_search.specs.Voting.{if_voting}
use Rattle.query_search.proofs.Meeting.{ends_more}
use Rattle.query_search.proofs.Parts.{chunk-at}
use Rattle.panako_vote.specs.declared.Span.{Span}
use Rattle.panako_votes.specs.Gathered.{words_with}
use Rattle.panako_votes.proofs.Walks.{before-all, before-none, counting-none, counting-row, counting_more, counting-all, counting-end, counting-over}
use Rattle.panako_votes.proofs.count_votes.Goals as goal

pub hashes-init : goal.hashes-init
hashes-init c =
    let s = c.args.search in
    (sym (ap length (before-none c.args.g c.args.voters.set c.args.voters.refs.now s.posts.now s.count s.hashes.now)), omega arith, record { stops = λ j l. absurd (omega arith) })

pub loop-posting-init : goal.loop-posting-init
loop-posting-init c =
    counting-none c.args.g c.args.voters.set c.args.voters.refs.now _ _ _ c.args.search.sought.postings c.args.room c.hashes.i _ _ _ _ c.hashes.v
    (ap (λ (s : Span). s.anchor) c.span_at-span.ensures) (ap (λ (s : Span). s.end) c.span_at-span.ensures) c.part_at-part.ensures refl c.hashes.invariant.0 c.hashes.invariant.1

pub pair_count-v-requires : goal.pair_count-v-requires
pair_count-v-requires c =
    let part = c.part_at-part.result.now in
    let is = chunk-at 5 (length part / 5) part c.as_chunks.result.0.now c.loop-posting.posting-index c.as_chunks.ensures.front (omega arith) in
    counting-row c.args.g c.args.voters.set _ _ _ _ c.args.search.sought.postings c.args.room c.hashes.i _ _ _ _ c.loop-posting.v c.loop-posting.posting-index c.loop-posting.invariant
    c.requires.4 (omega arith) _ is

pub returns-then-room-v-clause-value : goal.returns-then-room-v-clause-value
returns-then-room-v-clause-value c =
    let s = c.args.search in
    let part = c.part_at-part.result.now in
    let is = chunk-at 5 (length part / 5) part c.as_chunks.result.0.now c.loop-posting.posting-index c.as_chunks.ensures.front (omega arith) in
    let given = c.pair_count-v.ensures.0
    ∙ ap (λ (e : List ℕ). length (if_voting c.args.voters.set c.args.voters.refs.now (words_with c.args.g c.span_at-span.result.anchor c.span_at-span.result.end) e)) is in
    let most = counting-over c.args.g c.args.voters.set c.args.voters.refs.now _ _ _ s.sought.postings c.args.room c.hashes.i _ _ _ _ c.loop-posting.v c.loop-posting.posting-index c.loop-posting.invariant
    c.pair_count-v.result given (omega arith) s.hash_count c.hashes-test.true in
    omega (arith, most, ap length (before-all c.args.g c.args.voters.set c.args.voters.refs.now s.posts.now s.count s.hashes.now s.hash_count), c.pair_count-v.ensures.1, c.loop-posting.invariant.fits, c.if-room-v.true)

pub loop-posting-preserved : goal.loop-posting-preserved
loop-posting-preserved c =
    let part = c.part_at-part.result.now in
    let is = chunk-at 5 (length part / 5) part c.as_chunks.result.0.now c.loop-posting.posting-index c.as_chunks.ensures.front (omega arith) in
    let given = c.pair_count-v.ensures.0
    ∙ ap (λ (e : List ℕ). length (if_voting c.args.voters.set c.args.voters.refs.now (words_with c.args.g c.span_at-span.result.anchor c.span_at-span.result.end) e)) is in
    counting_more c.args.g c.args.voters.set _ _ _ _ c.args.search.sought.postings c.args.room c.hashes.i _ _ _ _ c.loop-posting.v c.loop-posting.posting-index c.loop-posting.invariant
    c.pair_count-v.result given (omega arith) (omega arith)

pub overflow_add-ends : goal.overflow_add-ends
overflow_add-ends c =
    let s = c.args.search in
    let key = key_at s.hashes.now 4 c.hashes.i in
    let end = counting-end c.args.g c.args.voters.set c.args.voters.refs.now _ _ _ s.sought.postings c.args.room c.hashes.i _ _ _ _ c.loop-posting.v c.loop-posting.posting-index c.loop-posting.invariant
    s.sought.ascend _ (c.requires.0.begins c.hashes.i c.hashes-test.true) in
    omega (arith, end, (first-splits s.posts.now 5 s.count (key + 1) s.sought.ascend).within, s.sought.counted)

pub overflow_cast-ends : goal.overflow_cast-ends
overflow_cast-ends c =
    let s = c.args.search in
    let key = key_at s.hashes.now 4 c.hashes.i in
    let end = counting-end c.args.g c.args.voters.set c.args.voters.refs.now _ _ _ s.sought.postings c.args.room c.hashes.i _ _ _ _ c.loop-posting.v c.loop-posting.posting-index c.loop-posting.invariant
    s.sought.ascend _ (c.requires.0.begins c.hashes.i c.hashes-test.true) in
    omega (arith, end, (first-splits s.posts.now 5 s.count (key + 1) s.sought.ascend).within, s.sought.counted)

pub hashes-preserved : goal.hashes-preserved
hashes-preserved c =
    let s = c.args.search in
    let end = counting-end c.args.g c.args.voters.set c.args.voters.refs.now _ _ _ s.sought.postings c.args.room c.hashes.i _ _ _ _ c.loop-posting.v c.loop-posting.posting-index c.loop-posting.invariant
    s.sought.ascend _ (c.requires.0.begins c.hashes.i c.hashes-test.true) in (
      counting-all c.args.g c.args.voters.set c.args.voters.refs.now _ _ _ s.sought.postings c.args.room c.hashes.i _ _ _ _ c.loop-posting.v c.loop-posting.posting-index c.loop-posting.invariant (omega (arith, c.loop-posting.invariant.on)),
      c.loop-posting.invariant.fits,
      ends_more _ _ _ _ _ _ _ _ c.hashes.invariant.2 (omega (arith, c.requires.2, c.hashes.auto.ends, c.hashes-test.true)) end,
    )

pub returns-after-hashes-clause-value : goal.returns-after-hashes-clause-value
returns-after-hashes-clause-value c =
    let s = c.args.search in
    let e : c.hashes.i ≡ s.hash_count = omega arith in
    let q = rw e at c.hashes.invariant.0 in
    omega (arith, q, c.hashes.invariant.1, ap length (before-all c.args.g c.args.voters.set c.args.voters.refs.now s.posts.now s.count s.hashes.now s.hash_count))
