-- The sheet's example of document 01 and others, by computation. Assumes nothing.
use Rattle.std.specs.Prelude.{◌≡◌, refl, List, [], ◌∷◌, ℕ, ℤ, pos, negsuc}
use Rattle.std.proofs.Math.Option.{Option, none, some}
use Rattle.std.specs.Float.{binary32}
use Rattle.std.specs.Float.Ieee.{add, sub, mul, div, le, lt, is_nan, of_int, of_bits, to_bits}
use Rattle.lists.specs.Every.{all_true}
use Rattle.maps.specs.Sums.{sum_to, sum_to_ℤ, greatest, first}
use Rattle.maps.specs.Lists.{count_if}
use Rattle.floats.specs.Rounding.{round_to_i64}
use Rattle.floats.specs.Selection.{abs, maximum}
use Rattle.matching.specs.Offsets.{millis}
use Rattle.matching.specs.Rates.{rates_agree}
use Rattle.matching.specs.Scores.{clamp_score, wang_prominence, score_of}
use Rattle.matching.specs.declared.MatchResult.{MatchResult}
use Rattle.consolidate.specs.Runs.{first_greatest, run_end}
use Rattle.consolidate.specs.Modes.{mode}
use Rattle.consolidate.specs.Box.{peak_over}
use Rattle.model.specs.Fingerprints.{Hash}
use Rattle.model.specs.Rows.{Row, largest_anchor}
use Rattle.gates.specs.Gates.{peak_gates, gates, result_at}
use Rattle.wang_judge.specs.Judge.{Vote, mode_within, peak_of, distinct, seen_of, judge_by}
use Rattle.wang_judge.specs.Scheme.{Ask, vote_of, judge}

-- what the sheet prints of a result: votes, score bits, prominence bits, frames, ms
data Line : Type 0 where
  N : Line
  M : ℕ → ℕ → ℕ → ℤ → ℤ → Line

abbrev line : Option MatchResult → Line
line none = N
line (some r) = M r.votes (to_bits binary32 r.score) (to_bits binary32 r.prominence) r.offset.frames r.offset.ms

abbrev hash : ℕ → ℕ → Hash
hash k t = record { key = k; times = t ∷ [] }

-- tolerance, min_votes, min_score bits, min_prominence bits, rate bits
abbrev ask : ℕ → ℕ → ℕ → ℕ → ℕ → Ask
ask t v s p r = record {
  cfg = record { offset_tolerance_frames = t; min_votes = v; min_score = of_bits binary32 s; min_prominence = of_bits binary32 p };
  rate = of_bits binary32 r;
}

-- a query, a candidate's row and votes, and the line
data Example : Type 0 where
  judged : Ask → List Hash → Row → List Vote → Line → Example

abbrev Right : Example → Type 0
Right (judged a hs r vs l) = line (judge a hs r vs) ≡ l

abbrev All : List Example → Type 0
All [] = Unit {0}
All (e ∷ es) = Right e × All es

-- the sheet's query, its recording's row, and the votes of the recording's two hashes
abbrev query : List Hash
query = hash 7 1 ∷ hash 9 3 ∷ []

abbrev row : Row
row = record { rate = 0x427A0000; rmax = 6; set = 1 }

abbrev votes : List Vote
votes = vote_of 0 (hash 7 1) (hash 7 4) ∷ vote_of 1 (hash 9 3) (hash 9 6) ∷ []

abbrev table : List Example
table =
    -- "M 0 2 3F800000 40000000 3 48 I"
    judged (ask 0 2 0x3F000000 0x40000000 0x427A0000) query row votes (M 2 0x3F800000 0x40000000 (pos 3) (pos 48))
    -- one vote more is asked for
    ∷ judged (ask 0 3 0x3F000000 0x40000000 0x427A0000) query row votes N
    -- the prominence is just below what is asked for
    ∷ judged (ask 0 2 0x3F000000 0x40000001 0x427A0000) query row votes N
    -- a NaN as a gate bars all
    ∷ judged (ask 0 2 0x7FC00000 0x40000000 0x427A0000) query row votes N
    -- rates 62.4 and 62.5 don't agree
    ∷ judged (ask 0 2 0x3F000000 0x40000000 0x4279999A) query row votes N
    -- two votes of one position: two votes, and one distinct position of two
    ∷ judged (ask 0 1 0 0 0x427A0000) query row
    (record { delta = pos 3; position = 0 } ∷ record { delta = pos 3; position = 0 } ∷ []) (M 2 0x3F000000 0x40000000 (pos 3) (pos 48))
    -- three votes at δ 0, tolerance 2, span 0 .. 4: the greatest sum is that of centres 0 to 2, whose midpoint is 1; the mode, 0, is reported
    ∷ judged (ask 2 3 0x3F800000 0x3F99999A 0x447A0000) (hash 7 0 ∷ hash 8 0 ∷ hash 9 0 ∷ []) (record { rate = 0x447A0000; rmax = 4; set = 1 })
    (record { delta = pos 0; position = 0 } ∷ record { delta = pos 0; position = 1 } ∷ record { delta = pos 0; position = 2 } ∷ [])
    (M 3 0x3F800000 0x3F99999A (pos 0) (pos 0))
    -- a clip that starts before its recording: δ −2
    ∷ judged (ask 1 1 0 0 0x447A0000) (hash 7 2 ∷ []) (record { rate = 0x447A0000; rmax = 1; set = 1 })
    (record { delta = negsuc 1; position = 0 } ∷ []) (M 1 0x3F800000 0x3F400000 (negsuc 1) (negsuc 1))
    ∷ []

right : All table
unfolding mode_within peak_of distinct seen_of peak_gates gates result_at judge_by judge largest_anchor all_true count_if sum_to sum_to_ℤ greatest first first_greatest run_end mode peak_over wang_prominence clamp_score score_of rates_agree millis round_to_i64 abs maximum add sub mul div le lt is_nan of_int of_bits to_bits
right = (refl, (refl, (refl, (refl, (refl, (refl, (refl, (refl, tt))))))))
