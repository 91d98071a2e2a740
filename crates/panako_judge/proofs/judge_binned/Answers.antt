-- A candidate is barred at the first gates, or weighed by the bins that stand behind its votes.
use Rattle.std.proofs.Common.{List, ◌+◌, ◌≤◌, None, length, arith, ◌∙◌}
use Rattle.gates.proofs.Passing.{bar-entry, goes_on}
use Rattle.panako_vote.specs.declared.Vote.{Vote}
use Rattle.panako_judge.specs.Judge.{Seen, thresholds_of, at_peak, result_of}
use Rattle.panako_judge.specs.Candidates.{votes_in}
use Rattle.panako_judge.proofs.Words.{bins-good, bins-some, weighed-bins}
use Rattle.panako_judge.proofs.Lent.{lent-bins, lent-roomy}
use Rattle.panako_judge.proofs.Gates.{seen, judged-by}
use Rattle.panako_judge.proofs.Entry.{entry}
use Rattle.panako_judge.proofs.judge_binned.Goals as goal

pub returns-then-not-admitted : goal.returns-then-not-admitted
returns-then-not-admitted c =
    let q = c.args.q in
    let vs : List Vote = votes_in c.args.s.now 0 c.args.g in
    let f = c.f32_from_bits-fps in
    let w : Seen = seen q c.args.rate vs in
    judged-by q c.args.rate vs f.result f.ensures None
    (bar-entry (thresholds_of q) f.result (length vs) (at_peak w) (result_of q f.result w)
    (entry q c.args.s.now 0 c.args.g (omega (arith, c.requires.0.before, c.requires.0.room)) f.result c.thresholds.result c.thresholds.ensures c.admitted.result c.admitted.ensures
    ∙ c.if-not-admitted.true))

pub sum_and_weigh-requires : goal.sum_and_weigh-requires
sum_and_weigh-requires c =
    let s = c.args.s.now in
    let b = c.requires.0 in
    let h : 0 + c.args.g ≤ length s = omega (arith, b.before, b.room) in (
      lent-roomy s c.args.at c.args.n b.room (bins-good s 0 c.args.g h c.args.n _ b.number b.bins c.requires.2),
      bins-some s 0 c.args.g h c.args.n _ b.number b.bins c.requires.1,
      c.requires.3,
    )

pub returns : goal.returns
returns c =
    let q = c.args.q in
    let s = c.args.s.now in
    let vs : List Vote = votes_in s 0 c.args.g in
    let z : Seen = seen q c.args.rate vs in
    let f = c.f32_from_bits-fps in
    let w = c.sum_and_weigh in
    let b = c.requires.0 in
    let h : 0 + c.args.g ≤ length s = omega (arith, b.before, b.room) in
    judged-by q c.args.rate vs f.result f.ensures w.result
    (goes_on (thresholds_of q) f.result (length vs) (at_peak z) (result_of q f.result z)
    (entry q s 0 c.args.g h f.result c.thresholds.result c.thresholds.ensures c.admitted.result c.admitted.ensures ∙ c.if-not-admitted.false) w.result
    (weighed-bins s 0 c.args.g h c.args.n _ b.number (lent-bins s c.args.at c.args.n b.room ∙ b.bins) q f.result w.result w.ensures))
