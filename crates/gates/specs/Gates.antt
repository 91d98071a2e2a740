-- The gates of a candidate, of Wang and of Panako alike: steps 1 to 4 of document 01's "Each candidate", and what passes them.
-- Definitions only. Assumes nothing.
use Rattle.std.specs.Prelude.{Bool, true, cond, not, ◌&&◌, List, [], ◌∷◌, ℕ, ℤ, leb, Float}
use Rattle.std.proofs.Math.Option.{Option, none, some}
use Rattle.lists.specs.Every.{all_true}
use Rattle.matching.specs.Offsets.{from_frames}
use Rattle.matching.specs.Rates.{rates_agree}
use Rattle.matching.specs.Scores.{below_threshold}
use Rattle.matching.specs.declared.MatchResult.{MatchResult}
use Rattle.gates.specs.declared.Thresholds.{Thresholds}
use Rattle.gates.specs.declared.AtPeak.{AtPeak}

-- gates 3 and 4: whether a peak passes each
unfoldable pub peak_gates : Thresholds → AtPeak → List Bool
peak_gates k p =
    -- 3. "Peak as below; again min_votes."
    leb k.min_votes p.votes
    -- 4. "Prominence, then score. `below_threshold` bars whatever isn't ≥ the threshold, so NaN bars all and equality passes."
    ∷ not (below_threshold p.prominence k.min_prominence)
    ∷ not (below_threshold p.score k.min_score)
    ∷ []

-- gates 1 and 2: the query's rate, the candidate's, min_votes, its votes
abbrev pub admits : Float → Float → ℕ → ℕ → Bool
admits a b least votes =
    -- 1. "Rates a, b: finite, positive, |a − b| ≤ 0.001 × the larger, in f32."
    rates_agree a b
    -- 2. "Too few votes against min_votes: no candidate."
    && leb least votes

-- "1 to 4, which are the gates": whether a candidate with this rate and so many votes passes them
unfoldable pub gates : Thresholds → Float → ℕ → AtPeak → List Bool
gates k rate votes p = admits k.rate rate k.min_votes votes ∷ peak_gates k p

-- the result of a candidate at its peak, with these frames, its rate and this time scale
unfoldable pub result_at : AtPeak → ℤ → Float → Float → MatchResult
result_at p frames rate scale = record {
  is_match = true;
  score = p.score;
  votes = p.votes;
  prominence = p.prominence;
  offset = from_frames frames rate;
  time_scale = scale;
}

-- a candidate that passes them all has this result
abbrev pub passing : List Bool → MatchResult → Option MatchResult
passing gs r = cond (all_true gs) (some r) none
