-- Match results and how they rank. Definitions only. Assumes nothing.
use Rattle.std.specs.Prelude.{Bool, true, false, cond, not, ◌&&◌, ◌||◌, is_nan, Float}
use Rattle.std.specs.Float.Ieee.{lt}
use Rattle.std.specs.Ordering.{ordering_then}
use Rattle.floats.specs.Selection.{zero, one}
use Rattle.matching.specs.Offsets.{zero_offset}
use Rattle.std.specs.declared.cmp.Ordering.{Ordering}
use Rattle.std.specs.declared.cmp.Ordering.TheVariants.{Less, Equal, Greater}
use Rattle.matching.specs.declared.MatchResult.{MatchResult}

-- `MatchResult::NONE`
abbrev pub no_match : MatchResult
no_match = record { is_match = false; score = zero; votes = 0; prominence = zero; offset = zero_offset; time_scale = one }

-- x is higher than y; a NaN is higher than nothing, and every number is higher than it
abbrev pub higher : Float → Float → Bool
higher x y = cond (is_nan x) false (cond (is_nan y) true (lt y x))

abbrev pub pick : Bool → Ordering → Ordering → Ordering
pick true a b = a
pick false a b = b

-- `score_compare_desc_rank`: the higher comes first
unfoldable pub compare_desc : Float → Float → Ordering
compare_desc x y = pick (higher x y) Less (pick (higher y x) Greater Equal)

-- by the first, and where that says nothing by the second
abbrev pub then_by : Ordering → Ordering → Ordering
then_by = ordering_then

-- `match_result_compare_desc`
unfoldable pub result_compare : MatchResult → MatchResult → Ordering
result_compare a b = then_by (compare_desc a.score b.score) (compare_desc a.prominence b.prominence)

-- "higher score, then higher prominence"
unfoldable pub better : MatchResult → MatchResult → Bool
better a b = higher a.score b.score || (not (higher b.score a.score) && higher a.prominence b.prominence)
