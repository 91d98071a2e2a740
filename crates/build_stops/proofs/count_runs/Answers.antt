-- `build_stops::count_runs` meets its contract. Assumes nothing.
use Rattle.std.proofs.Common.{◌≡◌, cond, eqb, ◌+◌, ◌/◌, arith, ap, rules}
use Rattle.build_stops.specs.Over.{key_in}
use Rattle.build_stops.proofs.Counting.{count_turn, next_le, hit_le}
use Rattle.build_stops.proofs.count_runs.Goals as goal

pub loop-t-preserved : goal.loop-t-preserved
loop-t-preserved c =
    let l = c.loop-t in
    let s = c.args.st in
    let hit : c.from.result ≡ cond (eqb c.next_run.result (c.args.limit + 1)) 1 0 = search rules in (
      omega (arith, c.next_run.ensures, next_le l.st.run (eqb (c.word_at-key.result / 33554432) l.st.key)),
      omega (arith, hit, hit_le (eqb c.next_run.result (c.args.limit + 1))),
      λ a cs e o h. count_turn c.args.limit c.args.codes.now a cs l.t l.st.key l.st.run l.st.over (c.word_at-key.result / 33554432) c.next_run.result c.from.result
          e c.loop-t-test.true o (ap key_in c.word_at-key.ensures.0) c.next_run.ensures hit (l.invariant.2 a cs e o h),
    )
