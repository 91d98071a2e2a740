use Rattle.std.proofs.Common.{sym, arith, get_or}
use Rattle.maps.proofs.Sums.{sum-zero, sum-next}
use Rattle.bins.proofs.count_marks.Goals as goal

pub loop-h-init : goal.loop-h-init
loop-h-init c = (sym (sum-zero (λ i. get_or c.args.seen.now i 0)), omega arith)

pub loop-h-preserved : goal.loop-h-preserved
loop-h-preserved c =
    let i = c.loop-h.h-index in
    (omega (arith, sum-next (λ i. get_or c.args.seen.now i 0) i, c.from-n.ensures), omega (arith, c.from-n.ensures, c.requires i (omega arith)))
