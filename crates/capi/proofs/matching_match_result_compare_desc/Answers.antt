-- The order of two results with these scores and prominences. Assumes nothing.
use Rattle.std.proofs.Common.{◌≡◌, ℕ}
use lib.Ieee.{Float}
use Rattle.matching.specs.declared.MatchResult.{MatchResult}
use Rattle.std.specs.declared.cmp.Ordering.{Ordering}
use Rattle.matching.specs.Results.{result_compare}
use Rattle.capi.specs.Codes.{order_code, compare_code}
use Rattle.capi.proofs.matching_match_result_compare_desc.Goals as goal

compared : (a b : MatchResult) (o : Ordering) (r : ℕ) (s p s' p' : Float) → (a.score ≡ s) × (a.prominence ≡ p) → (b.score ≡ s') × (b.prominence ≡ p')
    → o ≡ result_compare a b → r ≡ order_code o → r ≡ compare_code s p s' p'
unfolding result_compare
compared a b o r s p s' p' e f g h = rw (h, g, e.0, e.1, f.0, f.1)

pub returns : goal.returns
returns c = compared _ _ _ _ _ _ _ _ c.scored-a.ensures c.scored-b.ensures c.match_result_compare_desc.ensures c.order_code.ensures
