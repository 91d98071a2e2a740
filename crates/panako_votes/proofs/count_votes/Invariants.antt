-- `panako_votes::count_votes`: at the outer loop's test v is the number of votes of the first i query hashes, at the inner one's those with the
-- first postings of a part come to them, and neither passes the room. The ends of the first i are known. Assumes nothing.
use Rattle.std.proofs.Common.{◌≡◌, ◌/◌, ◌≤◌, length}
use Rattle.query_search.specs.Starts.{Ends}
use Rattle.panako_votes.proofs.Walks.{before, Counting}
use Rattle.panako_votes.proofs.count_votes.Given as goal

abbrev pub invariant-loop-posting : goal.invariant-loop-posting
invariant-loop-posting l =
    Counting l.g l.voters.set l.voters.refs.now l.search.posts.now l.search.count l.search.hashes.now l.room l.i l.span.anchor l.span.end l.part (length l.part / 5) l.v l.posting-index

abbrev pub invariant-hashes : goal.invariant-hashes
invariant-hashes l =
    (l.v ≡ length (before l.g l.voters.set l.voters.refs.now l.search.posts.now l.search.count l.search.hashes.now l.i))
    × (l.v ≤ l.room)
    × Ends l.search.posts.now 5 l.search.count l.search.hashes.now 4 l.i l.ends
