-- `query_search::Search::meet`: at the outer loop's test v is how many postings that vote the first i hashes meet, and their ends are known; at
-- the inner one's, v has besides those under the key that stand before word e. Neither passes the room. Assumes nothing.
use Rattle.std.proofs.Common.{◌≡◌, ◌-◌, ◌*◌, ◌≤◌}
use Rattle.lists.specs.Entries.{entries}
use Rattle.query_search.specs.Starts.{Ends, met}
use Rattle.query_search.specs.Voting.{voting}
use Rattle.query_search.proofs.Counting.{Reached}
use Rattle.query_search.proofs.Search.meet.Given as goal

abbrev pub invariant-loop-voters : goal.invariant-loop-voters
invariant-loop-voters g l =
    Reached l.voters.set l.voters.refs.now l.self.posts.now g.row.W l.self.count l.key (met (voting l.voters.set l.voters.refs.now (entries g.row.W l.self.count l.self.posts.now)) (entries g.row.H l.i l.self.hashes.now)) l.v l.e
    × (l.v ≤ l.room)

abbrev pub decreases-loop-voters : goal.decreases-loop-voters
decreases-loop-voters g l = g.row.W * l.self.count - l.e

abbrev pub invariant-hashes : goal.invariant-hashes
invariant-hashes g l =
    (l.v ≡ met (voting l.voters.set l.voters.refs.now (entries g.row.W l.self.count l.self.posts.now)) (entries g.row.H l.i l.self.hashes.now))
    × (l.v ≤ l.room)
    × Ends l.self.posts.now g.row.W l.self.count l.self.hashes.now g.row.H l.i l.ends
