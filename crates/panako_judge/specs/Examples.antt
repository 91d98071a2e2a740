-- Candidates judged by computation; the lines are those of the Rust. Assumes nothing.
use Rattle.std.specs.Prelude.{◌≡◌, refl, Bool, true, false, List, [], ◌∷◌, ◌++◌, map, ℕ, ◌+◌, ℤ, pos, negsuc}
use Rattle.std.proofs.Math.Option.{Option, none, some}
use Rattle.std.specs.Float.{binary32}
use Rattle.std.specs.Float.Ieee.{add, sub, mul, div, le, lt, is_nan, of_int, to_unsigned, of_bits, to_bits}
use Rattle.lists.specs.Lists.{flat}
use Rattle.lists.specs.Every.{all_true}
use Rattle.maps.specs.Sums.{sum_to, sum_to_ℤ, greatest, first}
use Rattle.maps.specs.Lists.{count_if}
use Rattle.floats.specs.Rounding.{round_to_i64, narrow}
use Rattle.floats.specs.Selection.{abs, maximum}
use Rattle.matching.specs.Offsets.{millis}
use Rattle.matching.specs.Rates.{rates_agree}
use Rattle.matching.specs.Scales.{per_bin, bin_centre, time_scale}
use Rattle.matching.specs.Scores.{clamp_score, score_of}
use Rattle.matching.specs.declared.MatchResult.{MatchResult}
use Rattle.consolidate.specs.Runs.{first_greatest}
use Rattle.consolidate.specs.Modes.{mode}
use Rattle.hough.specs.Hough.{hough_sum, hough_peak, merged, peak_offset, far_sum, far_count, prominence}
use Rattle.panako_vote.specs.Settings.{normalised, within_limits}
use Rattle.panako_vote.specs.Grids.{bin_at, grid_of}
use Rattle.panako_vote.specs.Votes.{vote_at_scale, vote_on}
use Rattle.model.specs.Fingerprints.{Hash}
use Rattle.gates.specs.Gates.{peak_gates, gates, result_at}
use Rattle.panako_vote.specs.declared.Vote.{Vote}
use Rattle.panako_judge.specs.Judge.{with_bin, occupied_bins, hough_bins, bin_count, seen_of, time_scale_of, judge_by}
use Rattle.panako_judge.specs.Scheme.{Ask, beyond, votes_of, judge}

-- ---- the occupied bins of votes

-- the vote of a scale bin and an offset
abbrev at : ℕ → ℤ → Vote
at bin offset = record { bin = bin; offset = offset }

-- in any order: two are alike, −3 and −7 are among the offsets, and 10 stands on two scales
abbrev mixed : List Vote
mixed = at 5 (pos 10) ∷ at 4 (negsuc 2) ∷ at 5 (negsuc 6) ∷ at 4 (pos 10) ∷ at 5 (pos 10) ∷ []

abbrev bins : List ℤ
bins =
    pos 4 ∷ negsuc 2 ∷ pos 1
    ∷ pos 4 ∷ pos 10 ∷ pos 1
    ∷ pos 5 ∷ negsuc 6 ∷ pos 1
    ∷ pos 5 ∷ pos 10 ∷ pos 2
    ∷ []

binned : hough_bins mixed ≡ bins
unfolding hough_bins occupied_bins with_bin flat count_if
binned = refl

four : bin_count mixed ≡ 4
unfolding occupied_bins with_bin
four = refl

-- no offset is too far off: −2^39 − 1 and −2^39 + 1 are two bins
far : hough_bins (at 0 (negsuc 549755813886) ∷ at 0 (negsuc 549755813888) ∷ []) ≡ pos 0 ∷ negsuc 549755813888 ∷ pos 1 ∷ pos 0 ∷ negsuc 549755813886 ∷ pos 1 ∷ []
unfolding hough_bins occupied_bins with_bin flat count_if
far = refl

-- ---- candidates

-- what the result of a candidate says: votes, score bits, prominence bits, frames, ms, time scale bits
data Line : Type 0 where
  N : Line
  M : ℕ → ℕ → ℕ → ℤ → ℤ → ℕ → Line

abbrev line : Option MatchResult → Line
line none = N
line (some r) = M r.votes (to_bits binary32 r.score) (to_bits binary32 r.prominence) r.offset.frames r.offset.ms (to_bits binary32 r.time_scale)

-- t_anchor and the span to t_c
abbrev hash : ℕ → ℕ → Hash
hash t span = record { key = 7; times = t ∷ t ∷ (t + span) ∷ [] }

-- scale_min bits, scale_max bits, scale_bins; tolerance, min_votes, min_score bits, min_prominence bits; rate bits
abbrev ask : ℕ → ℕ → ℕ → ℕ → ℕ → ℕ → ℕ → ℕ → Ask
ask low high bins t v s p r = record {
  cfg = record {
    scale_min = of_bits binary32 low;
    scale_max = of_bits binary32 high;
    scale_bins = bins;
    offset_tolerance_frames = t;
    min_votes = v;
    min_score = of_bits binary32 s;
    min_prominence = of_bits binary32 p;
  };
  rate = of_bits binary32 r;
}

-- the votes of query hashes, each with one held hash
abbrev votes : Ask → List Hash → List Hash → List Vote
votes a [] gs = []
votes a (h ∷ hs) [] = []
votes a (h ∷ hs) (g ∷ gs) = votes_of a h g ++ votes a hs gs

-- a query, a candidate's rate bits and hashes, and the line
data Example : Type 0 where
  judged : Ask → List Hash → ℕ → List Hash → Line → Example

abbrev Right : Example → Type 0
Right (judged a hs rate gs l) = line (judge a hs (record { rate = rate; rmax = 0; set = 1 }) (votes a hs gs)) ≡ l

abbrev All : List Example → Type 0
All [] = Unit {0}
All (e ∷ es) = Right e × All es

-- two hashes, and the same 100 frames later
abbrev two : List Hash
two = hash 10 10 ∷ hash 30 10 ∷ []

abbrev later : List Hash
later = hash 110 10 ∷ hash 130 10 ∷ []

-- document 01's Hough example: scales 1.0625, 1.1875 and 1.6875, in the bins 4, 5 and 9 of 16 from 0.5 to 2.5
abbrev six : List Hash
six = hash 0 16 ∷ hash 0 16 ∷ hash 0 16 ∷ hash 0 16 ∷ hash 0 16 ∷ hash 0 16 ∷ []

abbrev scaled : List Hash
scaled = hash 10 27 ∷ hash 10 19 ∷ hash 10 17 ∷ hash 10 19 ∷ hash 10 17 ∷ hash 10 19 ∷ []

abbrev table : List Example
table =
    judged (ask 0x3F4CCCCD 0x3FA00000 24 1 2 0x3F000000 0x40000000 0x427A0000) two 0x427A0000 later (M 2 0x3F800000 0x40000000 (pos 100) (pos 1600) 0x3F8066B9)
    -- settings that `normalize_config` replaces: a NaN, and no scale bins
    ∷ judged (ask 0x7FC00000 0x3FA00000 0 1 2 0x3F000000 0x40000000 0x427A0000) two 0x427A0000 later (M 2 0x3F800000 0x40000000 (pos 100) (pos 1600) 0x3F8066B9)
    -- one vote more is asked for
    ∷ judged (ask 0x3F4CCCCD 0x3FA00000 24 1 3 0x3F000000 0x40000000 0x427A0000) two 0x427A0000 later N
    -- the prominence is just below what is asked for
    ∷ judged (ask 0x3F4CCCCD 0x3FA00000 24 1 2 0x3F000000 0x40000001 0x427A0000) two 0x427A0000 later N
    -- a NaN as a gate bars all
    ∷ judged (ask 0x3F4CCCCD 0x3FA00000 24 1 2 0x7FC00000 0x40000000 0x427A0000) two 0x427A0000 later N
    -- rates 62.4 and 62.5 don't agree
    ∷ judged (ask 0x3F4CCCCD 0x3FA00000 24 1 2 0x3F000000 0x40000000 0x4279999A) two 0x427A0000 later N
    -- "(4,10):2, (5,10):3, (9,10):1, tolerance 0 → peak 5 at the first bin, frames 10, prominence 2.5"; the time scale is that bin's
    ∷ judged (ask 0x3F000000 0x40200000 16 0 5 0x3F000000 0x40200000 0x427A0000) six 0x427A0000 scaled (M 5 0x3F555555 0x40200000 (pos 10) (pos 160) 0x3F70F0F1)
    -- six votes, but five at the peak
    ∷ judged (ask 0x3F000000 0x40200000 16 0 6 0x3F000000 0x40200000 0x427A0000) six 0x427A0000 scaled N
    -- offsets 10, 11, 11 and 40, 41 with tolerance 1: the mode of the first three is 11, and the background is the sum 2 of each of the others
    ∷ judged (ask 0x3F000000 0x40200000 16 1 3 0x3F000000 0x3F800000 0x427A0000) (hash 0 16 ∷ hash 0 16 ∷ hash 0 16 ∷ hash 0 16 ∷ hash 0 16 ∷ []) 0x427A0000
    (hash 41 16 ∷ hash 11 16 ∷ hash 10 16 ∷ hash 40 16 ∷ hash 11 16 ∷ []) (M 3 0x3F19999A 0x3F800000 (pos 11) (pos 176) 0x3F70F0F1)
    -- at twice the time, a clip that starts 20 frames before its recording
    ∷ judged (ask 0x3F000000 0x40200000 16 0 1 0 0 0x447A0000) (hash 10 10 ∷ hash 12 10 ∷ []) 0x447A0000 (hash 0 20 ∷ hash 4 20 ∷ [])
    (M 2 0x3F800000 0x40000000 (negsuc 19) (negsuc 19) 0x3F000000)
    ∷ []

-- "Tolerance 65,535 passes; 65,536 is refused 4." So are 4,097 scale bins and a scale end beyond 64, but not one that `normalize_config` replaces
limits : List Bool
limits =
    map beyond
    (ask 0x3F4CCCCD 0x3FA00000 24 65535 2 0 0 0
    ∷ ask 0x3F4CCCCD 0x3FA00000 24 65536 2 0 0 0
    ∷ ask 0x3F4CCCCD 0x3FA00000 4097 1 2 0 0 0
    ∷ ask 0x3F4CCCCD 0x42800001 24 1 2 0 0 0
    ∷ ask 0x42800001 0x3FA00000 24 1 2 0 0 0
    ∷ [])

refused : limits ≡ false ∷ true ∷ true ∷ true ∷ false ∷ []
unfolding limits beyond within_limits normalised abs le lt of_bits
refused = refl

right : All table
unfolding votes_of judge judge_by with_bin occupied_bins hough_bins seen_of time_scale_of peak_gates gates result_at flat all_true count_if sum_to sum_to_ℤ greatest first first_greatest mode hough_sum hough_peak merged peak_offset far_sum far_count prominence normalised grid_of bin_at vote_at_scale vote_on per_bin bin_centre time_scale clamp_score score_of rates_agree millis round_to_i64 narrow abs maximum add sub mul div le lt is_nan of_int to_unsigned of_bits to_bits
right = (refl, (refl, (refl, (refl, (refl, (refl, (refl, (refl, (refl, (refl, tt))))))))))
