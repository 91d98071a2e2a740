-- `query_search::passed`: n of the first pivots are below the key. Assumes nothing.
use Rattle.std.proofs.Common.{◌≡◌, ◌≤◌, take}
use Rattle.query_search.specs.Starts.{pivots_below}
use Rattle.query_search.proofs.passed.Given as goal

abbrev pub invariant-loop-pivot : goal.invariant-loop-pivot
invariant-loop-pivot l = (l.n ≡ pivots_below (take l.pivot-index l.pivot-items) l.key) × (l.n ≤ l.pivot-index)
