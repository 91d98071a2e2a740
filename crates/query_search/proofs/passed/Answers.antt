-- Assumes nothing.
use Rattle.std.proofs.Common.{◌≡◌, ◌≤◌, ltb, get_or, sym, arith, rules}
use Rattle.maps.specs.Sums.{when}
use Rattle.query_search.proofs.Eighths.{pivots-none, pivots-more}
use Rattle.query_search.proofs.passed.Goals as goal

pub loop-pivot-init : goal.loop-pivot-init
loop-pivot-init c = (sym (pivots-none c.args.pivots c.args.key), omega arith)

pub loop-pivot-preserved : goal.loop-pivot-preserved
loop-pivot-preserved c =
    let one : c.from-n.result ≡ when (ltb (get_or c.args.pivots c.loop-pivot.pivot-index 0) c.args.key) 1 = search rules in
    let less : c.from-n.result ≤ 1 = search rules in
    (omega (arith, one, c.loop-pivot.invariant.0, pivots-more c.args.pivots c.args.key c.loop-pivot.pivot-index (omega arith)), omega (arith, less, c.loop-pivot.invariant.1))
