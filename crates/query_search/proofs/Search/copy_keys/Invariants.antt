-- `query_search::Search::copy_keys`: the first i keys have been copied. Assumes nothing.
use Rattle.lists.specs.Entries.{key_at}
use Rattle.query_search.proofs.Eighths.{Filled}
use Rattle.query_search.proofs.Search.copy_keys.Given as goal

abbrev pub invariant-loop-i : goal.invariant-loop-i
invariant-loop-i g l = Filled (key_at l.self.hashes.now g.row.H) l.initial.starts l.starts l.i
