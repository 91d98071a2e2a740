-- `build_entries::fill_ranks` meets its contract. Assumes nothing.
use Rattle.std.proofs.Common.{ℕ, List, ◌++◌, ◌+◌, ◌*◌, ◌≤◌, get_or, arith, sym, ap, ◌∙◌}
use Rattle.lists.proofs.Keep.{all-at}
use Rattle.build_ranges.specs.Codes.{tabulate}
use Rattle.build_ranges.proofs.Ranks.{sum-none, sum_more, sum-take}
use Rattle.build_entries.proofs.Placing.{ranks-none, ranks-next}
use Rattle.build_entries.proofs.fill_ranks.Goals as goal

pub loop-i-init : goal.loop-i-init
loop-i-init c = (sym sum-none, ranks-none c.args.lengths.now)

pub fill_part-requires : goal.fill_part-requires
fill_part-requires c =
    let n = c.args.lengths.now in
    let i = c.loop-i.i in
    let short = all-at (λ n. n ≤ 8192) n 0 c.requires.2 i c.loop-i-test.true in
    (omega (arith, sum_more n i c.loop-i-test.true, sum-take n (i + 1), c.loop-i.invariant.0, c.requires.0), omega (arith, short, c.requires.1))

pub overflow_add-m : goal.overflow_add-m
overflow_add-m c =
    let n = c.args.lengths.now in
    let i = c.loop-i.i in
    omega (arith, sum_more n i c.loop-i-test.true, sum-take n (i + 1), c.loop-i.invariant.0, c.requires.0)

pub loop-i-preserved : goal.loop-i-preserved
loop-i-preserved c =
    let n = c.args.lengths.now in
    let l = c.loop-i in (
      omega (arith, sum_more n l.i c.loop-i-test.true, l.invariant.0),
      c.fill_part.ensures ∙ ap (λ (r : List ℕ). r ++ tabulate (λ j. 8192 * l.i + j) (get_or n l.i 0)) l.invariant.1 ∙ ranks-next n l.i c.loop-i-test.true,
    )
