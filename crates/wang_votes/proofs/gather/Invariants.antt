-- `wang_votes::gather`: the votes of the first i query hashes are the first v words. Assumes nothing.
use Rattle.std.proofs.Common.{◌≡◌, take}
use Rattle.lists.specs.Entries.{entries}
use Rattle.query_search.proofs.Walks.{firsts}
use Rattle.query_search.specs.Starts.{met}
use Rattle.query_search.specs.Voting.{voting}
use Rattle.wang_votes.specs.Gathered.{pair_word}
use Rattle.wang_votes.proofs.gather.Given as goal

abbrev pub invariant-loop-i : goal.invariant-loop-i
invariant-loop-i l =
    (l.v ≡ met (voting l.voters.set l.voters.refs.now (entries 3 l.search.count l.search.posts.now)) (entries 2 l.i l.search.hashes.now))
    × (take l.v l.s ≡ firsts (pair_word l.top) (voting l.voters.set l.voters.refs.now (entries 3 l.search.count l.search.posts.now)) 2 l.search.hashes.now l.i)
