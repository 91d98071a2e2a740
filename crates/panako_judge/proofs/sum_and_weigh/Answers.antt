-- The sums leave the bins as they are.
use Rattle.std.proofs.Common.{List, ℤ, ap, ◌∙◌}
use Rattle.hough.proofs.Summing.{roomy-kept}
use Rattle.gates.specs.Gates.{peak_gates, passing}
use Rattle.query_rank.specs.Verdicts.{verdict_of}
use Rattle.panako_judge.specs.Judge.{seen_of, thresholds_of, at_peak, result_of}
use Rattle.panako_judge.proofs.sum_and_weigh.Goals as goal

pub weigh-requires : goal.weigh-requires
weigh-requires c =
    let m = c.put_sums in
    (roomy-kept c.args.s.now m.new.s c.args.n m.auto.s m.ensures.kept c.requires.0, c.requires.1, c.requires.2, rw c.tolerance.ensures at m.ensures.sums)

pub returns : goal.returns
returns c =
    let q = c.args.q in
    c.weigh.ensures
    ∙ ap (λ (l : List ℤ). verdict_of (passing (peak_gates (thresholds_of q) (at_peak (seen_of q l c.args.n))) (result_of q c.args.fps (seen_of q l c.args.n)))) c.put_sums.ensures.kept.bins
