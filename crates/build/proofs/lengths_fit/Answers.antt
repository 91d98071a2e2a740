-- `build::lengths_fit` meets its contract. Assumes nothing.
use Rattle.std.proofs.Common.{get_or, arith, sym}
use borrow.Author.Tests.{le-ltb}
use Rattle.build_ranges.proofs.Ranks.{sum-none, sum_more}
use Rattle.build.proofs.Tests.{long, some-none, some_more, too_long, too_many}
use Rattle.build.proofs.lengths_fit.Goals as goal
use Rattle.build.proofs.lengths_fit.Goals.{then-n-gt8192-via-then-n-gt8192, then-n-gt8192-via-else-n-gt8192+then-m-total}

pub loop-n-init : goal.loop-n-init
loop-n-init c = (sym sum-none, omega arith, some-none long)

pub returns-then-n-gt8192 : goal.returns-then-n-gt8192
returns-then-n-gt8192 c =
    elim c.then-n-gt8192.branch [
      | then-n-gt8192-via-then-n-gt8192 w ↦ too_long c.args.lengths.now c.args.m c.loop-n.n-index c.loop-n-test.true w.if-n-gt8192.true
      | then-n-gt8192-via-else-n-gt8192+then-m-total w ↦ too_many c.args.lengths.now c.args.m c.loop-n.n-index c.loop-n-test.true (omega (arith, w.if-m-total.true))
    ]

pub loop-n-preserved : goal.loop-n-preserved
loop-n-preserved c =
    let n = c.args.lengths.now in
    let i = c.loop-n.n-index in
    let inv = c.loop-n.invariant in (
      omega (arith, inv.0, sum_more n i c.loop-n-test.true),
      omega (arith, inv.1, c.if-m-total.false),
      some_more long n i c.loop-n-test.true inv.2 (le-ltb 8192 (get_or n i 0) c.if-n-gt8192.false),
    )
