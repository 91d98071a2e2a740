-- `matching::score_compare_desc_rank` meets its contract. Assumes nothing.
use Rattle.std.proofs.Common.{sym, ap, ◌∙◌, unwrap_or, Equal}
use Rattle.matching.specs.Results.{compare_desc}
use Rattle.matching.proofs.Ranking.{partial-is}
use Rattle.matching.proofs.score_compare_desc_rank.Goals as goal

pub returns-in-true-true : goal.returns-in-true-true
unfolding compare_desc
returns-in-true-true c = rw (sym c.in-true-true.ensures.value, sym c.in-true-true.ensures'.value)

pub returns-in-true-false : goal.returns-in-true-false
unfolding compare_desc
returns-in-true-false c = rw (sym c.in-true-false.ensures.value, sym c.in-true-false.ensures'.value)

pub returns-in-false-true : goal.returns-in-false-true
unfolding compare_desc
returns-in-false-true c = rw (sym c.in-false-true.ensures.value, sym c.in-false-true.ensures'.value)

pub returns-in-false-false : goal.returns-in-false-false
returns-in-false-false c =
    c.unwrap_or.ensures
    ∙ ap (λ p. unwrap_or p Equal) c.partial_cmp.ensures
    ∙ partial-is c.args.a c.args.b (sym c.in-false-false.ensures.value) (sym c.in-false-false.ensures'.value)
