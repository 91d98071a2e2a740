-- Each return of `gates::weigh` is a gate that bars, or the last one passed.
use Rattle.std.proofs.Common.{◌≤◌, sym, ◌∙◌, arith}
use Rattle.gates.proofs.Passing.{bar-peak, bar-prominence, bar-score, pass_all, peak-is}
use Rattle.gates.proofs.weigh.Goals as goal

pub returns-then-votes-from : goal.returns-then-votes-from
returns-then-votes-from g c p r ve pe se re = bar-peak c.args.k p r c.args.votes (sym ve) (omega (arith, c.from.ensures))

pub returns-then-below_threshold : goal.returns-then-below_threshold
returns-then-below_threshold g c p r ve pe se re =
    bar-prominence c.args.k p r c.args.votes (sym ve) (omega (arith, c.from.ensures)) c.prominence-prominence.result (pe _ c.prominence-prominence.ensures)
    (sym c.below_threshold.ensures ∙ c.if-below_threshold.true)

pub returns-then-below_threshold-2 : goal.returns-then-below_threshold-2
returns-then-below_threshold-2 g c p r ve pe se re =
    bar-score c.args.k p r c.args.votes (sym ve) (omega (arith, c.from.ensures)) c.prominence-prominence.result (pe _ c.prominence-prominence.ensures)
    (sym c.below_threshold.ensures ∙ c.if-below_threshold.false)
    c.score-score.result (se _ c.score-score.ensures) (sym c.below_threshold-2.ensures ∙ c.if-below_threshold-2.true)

pub returns : goal.returns
returns g c p r ve pe se re =
    let enough : c.args.k.min_votes ≤ c.args.votes = omega (arith, c.from.ensures) in
    let clear = sym c.below_threshold.ensures ∙ c.if-below_threshold.false in
    let x = pe _ c.prominence-prominence.ensures in
    let y = se _ c.score-score.ensures in
    let found = peak-is c.args.k p r c.args.votes (sym ve) enough c.prominence-prominence.result x clear c.score-score.result y in
    pass_all c.args.k p r c.args.votes (sym ve) enough c.prominence-prominence.result x clear
    c.score-score.result y (sym c.below_threshold-2.ensures ∙ c.if-below_threshold-2.false)
    c.passed.result (re _ (rw found at c.passed.ensures))
