-- `matching::match_result_compare_desc` meets its contract. Assumes nothing.
use Rattle.std.proofs.Common.{◌≡◌, refl, sym, ◌∙◌, Ordering, Less, Equal, Greater}
use Rattle.std.specs.Ordering.{ordering_then}
use Rattle.matching.specs.Results.{compare_desc, result_compare}
use Rattle.matching.proofs.match_result_compare_desc.Goals as goal

-- what is not equal is not looked at further
unequal-is : (x y : Ordering) → (x ≡ Equal → ⊥) → x ≡ ordering_then x y
unequal-is Less y h = refl
unequal-is Equal y h = absurd (h refl)
unequal-is Greater y h = refl

pub returns-in-Equal : goal.returns-in-Equal
unfolding result_compare
returns-in-Equal c =
    let e : compare_desc c.args.a.score c.args.b.score ≡ Equal = sym c.score_compare_desc_rank.ensures ∙ c.in-Equal.is in
    rw e c.score_compare_desc_rank-in-Equal.ensures

pub returns-in_default : goal.returns-in_default
unfolding result_compare
returns-in_default c =
    let e = c.score_compare_desc_rank.ensures in
    rw (sym e) (unequal-is c.score_compare_desc_rank.result (compare_desc c.args.a.prominence c.args.b.prominence) c.in_default.not-Equal)
