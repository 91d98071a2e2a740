-- What gates 3 and 4 say of calls that yield a candidate's prominence, its score and its result. Definitions only. Assumes nothing.
use Rattle.std.specs.Prelude.{◌≡◌, ℕ, Float, Option}
use Rattle.matching.specs.declared.MatchResult.{MatchResult}
use Rattle.query_rank.specs.Verdicts.{verdict_of}
use Rattle.gates.specs.Gates.{peak_gates, passing}
use Rattle.gates.specs.declared.Thresholds.{Thresholds}
use Rattle.gates.specs.declared.AtPeak.{AtPeak}

-- whatever peak p and result r the calls yield, they are weighed by the gates
abbrev pub Weighs : Thresholds → ℕ → (Float → Type 0) → (Float → Type 0) → (AtPeak → MatchResult → Type 0) → Option MatchResult → Type 0
Weighs k votes Prominence Score Passed out =
    (p : AtPeak) (r : MatchResult) → p.votes ≡ votes → ((x : Float) → Prominence x → x ≡ p.prominence) → ((x : Float) → Score x → x ≡ p.score)
    → ((m : MatchResult) → Passed p m → m ≡ r) → out ≡ verdict_of (passing (peak_gates k p) r)
