-- `query_search::Search::seek`: each hash has a window of `len` postings. Assumes nothing.
use Rattle.std.proofs.Common.{◌≤◌}
use Rattle.query_search.specs.Starts.{Windows}
use Rattle.query_search.proofs.Search.seek.Given as goal

abbrev pub invariant-loop-len : goal.invariant-loop-len
invariant-loop-len g l = Windows l.self.posts.now g.row.W l.self.count l.self.hashes.now g.row.H l.self.hash_count l.len l.starts × (l.len ≤ l.self.count)

abbrev pub decreases-loop-len : goal.decreases-loop-len
decreases-loop-len g l = l.len
