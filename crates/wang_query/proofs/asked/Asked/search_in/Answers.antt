-- The votes that were counted, up to one more than the room, are all where they fit.
use Rattle.std.proofs.Common.{◌≡◌, List, ℕ, ◌+◌, ◌/◌, min, length, get_or, arith, rules}
use Rattle.lists.specs.Entries.{entries}
use Rattle.query_search.specs.Starts.{met}
use Rattle.query_search.specs.Voting.{voting}
use Rattle.query_rank.specs.Answers.{best_so_far}
use Rattle.query_rank.proofs.Answers as rank
use Rattle.query_laws.proofs.Answers.{too_many, all_fit, answered}
use Rattle.wang_judge.specs.declared.WangQuery.{WangQuery}
use Rattle.wang_query.specs.Candidates.{reading, words_in}
use Rattle.wang_query.proofs.Sorted.{counted-all}
use Rattle.wang_query.proofs.asked.Asked.search_in.Goals as goal

counted : (p m room v set : ℕ) (q : WangQuery) (rs ps hs : List ℕ) → p ≡ get_or rs 2 0 → m ≡ q.q_len
    → v ≡ min (room + 1) (met (voting set rs (entries 3 p ps)) (entries 2 m hs)) → v ≡ min (room + 1) (length (words_in set q rs ps hs))
counted p m room v set q rs ps hs pe me e = counted-all set q rs ps hs room v (rw (pe, me) at e)

pub returns-then-room-met : goal.returns-then-room-met
returns-then-room-met c =
    let a = c.args.self in
    let room = length c.args.s.now / 6 in
    let n = counted a.search.count a.search.hash_count room c.meet-met.result a.voters.set a.q a.voters.refs.now a.search.posts.now a.search.hashes.now a.all_postings a.all_hashes c.meet-met.ensures.value in
    too_many (reading a.q) room a.voters.refs.now (words_in a.voters.set a.q a.voters.refs.now a.search.posts.now a.search.hashes.now) c.meet-met.result n c.args.s.now c.if-room-met.true

pub best_candidate-best-requires : goal.best_candidate-best-requires
best_candidate-best-requires c =
    let a = c.args.self in
    let room = length c.args.s.now / 6 in
    let n = counted a.search.count a.search.hash_count room c.meet-met.result a.voters.set a.q a.voters.refs.now a.search.posts.now a.search.hashes.now a.all_postings a.all_hashes c.meet-met.ensures.value in
    let fit = all_fit (reading a.q) room a.voters.refs.now (words_in a.voters.set a.q a.voters.refs.now a.search.posts.now a.search.hashes.now) c.meet-met.result n c.if-room-met.false in (
      omega (arith, c.requires.0),
      omega arith,
      c.seek.ensures,
      c.meet-met.ensures.ends c.if-room-met.false,
      omega (arith, c.requires.1.long, c.seek.auto.starts),
      omega (arith, c.requires.2, c.meet-met.auto.ends),
    )

pub returns : goal.returns
returns c =
    let a = c.args.self in
    let room = length c.args.s.now / 6 in
    let zs = words_in a.voters.set a.q a.voters.refs.now a.search.posts.now a.search.hashes.now in
    let best = c.best_candidate-best in
    let n = counted a.search.count a.search.hash_count room c.meet-met.result a.voters.set a.q a.voters.refs.now a.search.posts.now a.search.hashes.now a.all_postings a.all_hashes c.meet-met.ensures.value in
    answered (reading a.q) room a.voters.refs.now zs c.meet-met.result n c.if-room-met.false
    (best_so_far best.result) _ c.args.s.now c.fill.new.self _ best.ensures (rank.answered best.result) best.auto.s (search rules)
