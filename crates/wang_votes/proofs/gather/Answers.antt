-- Assumes nothing.
use Rattle.std.proofs.Common.{◌≡◌, ◌+◌, List, ℕ, sym, ◌∙◌, arith}
use Rattle.lists.specs.Entries.{entries}
use Rattle.query_search.specs.Voting.{voting}
use Rattle.query_search.proofs.Meeting.{met-none, met-more, met-longer}
use Rattle.query_search.proofs.Walks.{firsts-all, firsts-none}
use Rattle.wang_votes.specs.Gathered.{pair_word}
use Rattle.wang_votes.proofs.Walks.{put-hash}
use Rattle.wang_votes.proofs.gather.Goals as goal

pub loop-i-init : goal.loop-i-init
loop-i-init c = (sym (met-none _ _ _), sym (firsts-none (pair_word c.args.top) _ 2 _))

pub gather_key-v-requires : goal.gather_key-v-requires
gather_key-v-requires c =
    let es : List (List ℕ) = voting c.args.voters.set c.args.voters.refs.now (entries 3 c.args.search.count c.args.search.posts.now) in
    let i = c.loop-i.i in
    let hs = c.args.search.hashes.now in (
      c.requires.1.begins i c.loop-i-test.true,
      c.requires.2.stops i c.loop-i-test.true,
      c.requires.0.ids,
      c.requires.0.rowed,
      omega (arith, c.loop-i.invariant.0, c.requires.5, c.loop-i.auto.s, met-more es 2 hs (omega arith) i, met-longer es 2 hs (omega arith) (i + 1) c.args.search.hash_count (omega (arith, c.loop-i-test.true))),
    )

pub loop-i-preserved : goal.loop-i-preserved
loop-i-preserved c =
    let es : List (List ℕ) = voting c.args.voters.set c.args.voters.refs.now (entries 3 c.args.search.count c.args.search.posts.now) in
    let e = rw c.from.ensures at c.gather_key-v.ensures.1 in (
      omega (arith, c.loop-i.invariant.0, c.gather_key-v.ensures.0, met-more es 2 c.args.search.hashes.now (omega arith) c.loop-i.i),
      put-hash es c.args.search.hashes.now c.args.top c.loop-i.i _ _ c.loop-i.invariant.1 e,
    )

pub returns : goal.returns
returns c =
    let l = c.loop-i in
    let e : l.i ≡ c.args.search.hash_count = omega arith in
    (rw e at l.invariant.0, rw e at l.invariant.1 ∙ firsts-all (pair_word c.args.top) _ 2 c.args.search.hashes.now c.args.search.hash_count)
