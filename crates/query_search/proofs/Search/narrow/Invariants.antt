-- `query_search::Search::narrow`: the windows of the first i hashes have been halved three times. Assumes nothing.
use Rattle.std.proofs.Common.{◌/◌}
use Rattle.query_search.proofs.Levels.{Level}
use Rattle.query_search.proofs.Search.narrow.Given as goal

abbrev pub invariant-loop-i : goal.invariant-loop-i
invariant-loop-i g l = Level l.self.posts.now g.row.W l.self.count l.self.hashes.now g.row.H l.self.hash_count l.len (l.len / 2 / 2 / 2) l.starts l.i
