-- `query_search::gather_part`: the votes with the first postings stand behind the first `at` words. Assumes nothing.
use Rattle.std.proofs.Common.{◌≡◌, ◌+◌, ◌++◌, length, take}
use Rattle.query_search.specs.Gathered.{words_by}
use Rattle.query_search.specs.Voting.{if_voting}
use Rattle.query_search.proofs.gather_part.Given as goal

abbrev pub invariant-loop-posting : goal.invariant-loop-posting
invariant-loop-posting g l =
    (l.v ≡ l.at + length (words_by (if_voting l.voters.set l.voters.refs.now (g.H.Votes.words_with l.hash)) (take l.posting-index l.postings)))
    × (take l.v l.s ≡ take l.at l.initial.s ++ words_by (if_voting l.voters.set l.voters.refs.now (g.H.Votes.words_with l.hash)) (take l.posting-index l.postings))
