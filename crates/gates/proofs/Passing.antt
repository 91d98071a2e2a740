-- The gates as the code reads them, one after the other, of Wang and of Panako alike. Assumes nothing.
use mathlib.Core.Path.{◌≡◌, refl, ap}
use mathlib.Core.Bool.{true, false}
use Prim.Native.Nat.{ℕ, ◌≤◌, ◌<◌}
use lib.IntN.{ℤ}
use lib.Dec.{leb}
use lib.Ieee.{Float}
use borrow.Author.Tests.{le-leb, lt-leb}
use Rattle.lists.specs.Every.{all_true}
use Rattle.matching.specs.Scores.{below_threshold}
use Rattle.matching.specs.declared.MatchResult.{MatchResult}
use Rattle.gates.specs.declared.Thresholds.{Thresholds}
use Rattle.gates.specs.declared.AtPeak.{AtPeak}
use Rattle.gates.specs.Gates.{admits, peak_gates, gates, result_at, passing}
use Rattle.query_rank.specs.Verdicts.{verdict_of}
use Rattle.std.specs.Prelude.{Option, Some, None}

-- ---- gates 3 and 4, with what the code found
module _ (k : Thresholds) (p : AtPeak) (r : MatchResult) where
  abbrev pub Weighed : Option MatchResult → Type 0
  Weighed v = v ≡ verdict_of (passing (peak_gates k p) r)

  module _ (votes : ℕ) (ve : votes ≡ p.votes) where
    pub bar-peak : votes < k.min_votes → Weighed None
    unfolding peak_gates all_true
    bar-peak h = let e = rw ve at h in rw (lt-leb k.min_votes p.votes e) refl

    module _ (some : k.min_votes ≤ votes) (prominence : Float) (re : prominence ≡ p.prominence) where
      enough : leb k.min_votes p.votes ≡ true
      enough = let e = rw ve at some in le-leb k.min_votes p.votes e

      pub bar-prominence : below_threshold prominence k.min_prominence ≡ true → Weighed None
      unfolding peak_gates all_true
      bar-prominence b = let e = rw re at b in rw (enough, e) refl

      module _ (clear : below_threshold prominence k.min_prominence ≡ false) (score : Float) (se : score ≡ p.score) where
        pub bar-score : below_threshold score k.min_score ≡ true → Weighed None
        unfolding peak_gates all_true
        bar-score b = let e = rw se at b in let f = rw re at clear in rw (enough, f, e) refl

        pub pass_all : below_threshold score k.min_score ≡ false → (r' : MatchResult) → r' ≡ r → Weighed (Some r')
        unfolding peak_gates all_true
        pass_all b r' w = let e = rw se at b in let f = rw re at clear in rw (enough, f, e) (ap Some w)

        -- what the code found is what the gates look at
        pub peak-is : record { votes = votes; prominence = prominence; score = score } ≡ p
        peak-is = λ i. record { votes = ve i; prominence = re i; score = se i }

pub result-same : (p p' : AtPeak) (frames frames' : ℤ) (rate scale scale' : Float) → p ≡ p' → frames ≡ frames' → scale ≡ scale' → result_at p frames rate scale ≡ result_at p' frames' rate scale'
result-same p p' frames frames' rate scale scale' pe fe se = cc

-- ---- gates 1 and 2
module _ (k : Thresholds) (rate : Float) (votes : ℕ) (p : AtPeak) (r : MatchResult) where
  abbrev pub Judged : Option MatchResult → Type 0
  Judged v = v ≡ verdict_of (passing (gates k rate votes p) r)

  pub bar-entry : admits k.rate rate k.min_votes votes ≡ false → Judged None
  unfolding gates all_true
  bar-entry b = rw b refl

  pub goes_on : admits k.rate rate k.min_votes votes ≡ true → (v : Option MatchResult) → Weighed k p r v → Judged v
  unfolding gates all_true
  goes_on b v w = rw b w
