-- `build_entries::fill_starts` meets its contract. Assumes nothing.
use Rattle.std.proofs.Common.{◌+◌, arith, sym, ◌∙◌}
use lib.ListN.{length-set}
use Rattle.build_ranges.proofs.Ranks.{sum-none, sum_more, sum-take}
use Rattle.build_entries.proofs.Prefix.{starts_more}
use Rattle.build_entries.proofs.fill_starts.Goals as goal

pub loop-i-init : goal.loop-i-init
loop-i-init c = (sym sum-none, λ k l. absurd (omega arith), c.requires.2)

pub overflow_add-total : goal.overflow_add-total
overflow_add-total c =
    let n = c.args.lengths.now in
    omega (arith, sum_more n c.loop-i.i c.loop-i-test.true, c.loop-i.invariant.0, sum-take n (c.loop-i.i + 1), c.requires.1)

pub loop-i-preserved : goal.loop-i-preserved
loop-i-preserved c =
    let n = c.args.lengths.now in
    let l = c.loop-i in (
      omega (arith, l.invariant.0, sum_more n l.i c.loop-i-test.true),
      starts_more l.starts n l.i l.total (omega (arith, l.invariant.2, c.requires.0)) l.invariant.0 l.invariant.1,
      length-set l.starts l.i l.total ∙ l.invariant.2,
    )
