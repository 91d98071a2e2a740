-- `query_search::spread`: the first i keys have been replaced. Assumes nothing.
use Rattle.std.proofs.Common.{◌*◌, get_or}
use Rattle.query_search.specs.Starts.{pivots_below}
use Rattle.query_search.proofs.Eighths.{Filled}
use Rattle.query_search.proofs.spread.Given as goal

abbrev pub invariant-loop-i : goal.invariant-loop-i
invariant-loop-i l = Filled (λ j. pivots_below l.pivots (get_or l.initial.starts j 0) * l.size) l.initial.starts l.starts l.i
