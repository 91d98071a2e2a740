-- A candidate is barred at the first gates, or weighed by its bins, which lie behind its votes.
use Rattle.std.proofs.Common.{List, ◌+◌, ◌*◌, ◌≤◌, None, length, arith, rules, ◌∙◌}
use Rattle.maps.proofs.Words.{outside-none}
use Rattle.gates.proofs.Passing.{bar-entry, goes_on}
use Rattle.panako_vote.specs.declared.Vote.{Vote}
use Rattle.panako_judge.specs.Judge.{Seen, thresholds_of, at_peak, result_of}
use Rattle.panako_judge.specs.Candidates.{votes_in}
use Rattle.panako_judge.proofs.Words.{bins-good, bins-some, weighed-bins, bins-few, bins-number, bins-outside, part-is}
use Rattle.panako_judge.proofs.Lent.{lent-bins, lent-roomy, lent_back}
use Rattle.panako_judge.proofs.Gates.{seen, judged-by}
use Rattle.panako_judge.proofs.Entry.{entry}
use Rattle.panako_judge.proofs.judge.Goals as goal

pub returns-then-not-admitted : goal.returns-then-not-admitted
returns-then-not-admitted c =
    let q = c.args.q in
    let vs : List Vote = votes_in c.args.s.now c.args.a c.args.g in
    let f = c.f32_from_bits-fps in
    let w : Seen = seen q c.args.rate vs in (
      judged-by q c.args.rate vs f.result f.ensures None
          (bar-entry (thresholds_of q) f.result (length vs) (at_peak w) (result_of q f.result w)
          (entry q c.args.s.now c.args.a c.args.g (omega (arith, c.requires.group.before, c.requires.room)) f.result c.thresholds.result c.thresholds.ensures
          c.admitted.result c.admitted.ensures ∙ c.if-not-admitted.true)),
      outside-none c.args.s.now c.args.at (c.args.at + 4 * c.args.g),
    )

pub overflow_mul-n : goal.overflow_mul-n
overflow_mul-n c =
    let b = c.count_sorted-n in
    let few = bins-few c.args.s.now c.args.a c.args.g (omega (arith, c.requires.group.before, c.requires.room)) c.args.at b.result b.new.s c.requires.room b.ensures.0 b.ensures.1 in
    search rules

pub overflow_add-at : goal.overflow_add-at
overflow_add-at c =
    let b = c.count_sorted-n in
    let few = bins-few c.args.s.now c.args.a c.args.g (omega (arith, c.requires.group.before, c.requires.room)) c.args.at b.result b.new.s c.requires.room b.ensures.0 b.ensures.1 in
    search rules

pub slice_bounds-sum_and_weigh-end : goal.slice_bounds-sum_and_weigh-end
slice_bounds-sum_and_weigh-end c =
    let b = c.count_sorted-n in
    let few = bins-few c.args.s.now c.args.a c.args.g (omega (arith, c.requires.group.before, c.requires.room)) c.args.at b.result b.new.s c.requires.room b.ensures.0 b.ensures.1 in
    search rules

pub sum_and_weigh-requires : goal.sum_and_weigh-requires
sum_and_weigh-requires c =
    let s = c.args.s.now in
    let b = c.count_sorted-n in
    let h : c.args.a + c.args.g ≤ length s = omega (arith, c.requires.group.before, c.requires.room) in
    let few = bins-few s c.args.a c.args.g h c.args.at b.result b.new.s c.requires.room b.ensures.0 b.ensures.1 in
    let number = bins-number s c.args.a c.args.g h c.args.at b.result b.new.s c.requires.room b.ensures.0 b.ensures.1 in
    let part = part-is s c.args.a c.args.g h c.args.at b.result b.new.s c.requires.room b.ensures.0 b.ensures.1 in (
      lent-roomy b.new.s c.args.at b.result (omega (arith, c.requires.room)) (bins-good s c.args.a c.args.g h b.result _ number part c.requires.few),
      bins-some s c.args.a c.args.g h b.result _ number part c.requires.some,
      c.requires.tolerance,
    )

pub returns : goal.returns
returns c =
    let q = c.args.q in
    let s = c.args.s.now in
    let vs : List Vote = votes_in s c.args.a c.args.g in
    let z : Seen = seen q c.args.rate vs in
    let f = c.f32_from_bits-fps in
    let b = c.count_sorted-n in
    let w = c.sum_and_weigh in
    let h : c.args.a + c.args.g ≤ length s = omega (arith, c.requires.group.before, c.requires.room) in
    let few = bins-few s c.args.a c.args.g h c.args.at b.result b.new.s c.requires.room b.ensures.0 b.ensures.1 in
    let number = bins-number s c.args.a c.args.g h c.args.at b.result b.new.s c.requires.room b.ensures.0 b.ensures.1 in
    let part = part-is s c.args.a c.args.g h c.args.at b.result b.new.s c.requires.room b.ensures.0 b.ensures.1 in
    let long : c.args.at + 4 * b.result ≤ length b.new.s = omega (arith, c.requires.room) in (
      judged-by q c.args.rate vs f.result f.ensures w.result
          (goes_on (thresholds_of q) f.result (length vs) (at_peak z) (result_of q f.result z)
          (entry q s c.args.a c.args.g h f.result c.thresholds.result c.thresholds.ensures c.admitted.result c.admitted.ensures ∙ c.if-not-admitted.false) w.result
          (weighed-bins s c.args.a c.args.g h b.result _ number (lent-bins b.new.s c.args.at b.result long ∙ part) q f.result w.result w.ensures)),
      lent_back b.new.s c.args.at b.result long s w.new.s (c.args.at + 4 * c.args.g) w.auto.s (omega arith)
          (bins-outside s c.args.a c.args.g h c.args.at b.result b.new.s c.requires.room b.ensures.0 b.ensures.1),
    )
