-- Panako's judge: steps 1 to 4 of document 01's "Each candidate", from a candidate's votes, its rate and the query. The votes count by
-- the occupied bins only, so their order can't matter (proofs/Counts.antt). Definitions only. Assumes nothing.
use Rattle.std.specs.Prelude.{Bool, cond, ◌&&◌, ◌||◌, List, [], ◌∷◌, map, ℕ, ℤ, pos, length, eqb, ltb, Float}
use Rattle.std.proofs.Math.Option.{Option}
use Rattle.std.specs.Int.Signed.{lt_z}
use Rattle.std.specs.Float.{binary32}
use Rattle.std.specs.Float.Ieee.{of_bits}
use Rattle.lists.specs.Lists.{flat}
use Rattle.maps.specs.Lists.{count_if}
use Rattle.matching.specs.Scales.{bin_centre, time_scale}
use Rattle.matching.specs.Scores.{score_of}
use Rattle.matching.specs.declared.MatchResult.{MatchResult}
use Rattle.panako_vote.specs.Grids.{per}
use Rattle.panako_vote.specs.declared.Vote.{Vote}
use Rattle.panako_vote.specs.declared.PanakoMatchConfig.{PanakoMatchConfig}
use Rattle.hough.specs.Hough.{scale, gap, hough_peak, peak_offset, prominence}
use Rattle.hough.specs.declared.Peak.{Peak}
use Rattle.gates.specs.Gates.{gates, result_at, passing}
use Rattle.gates.specs.declared.Thresholds.{Thresholds}
use Rattle.gates.specs.declared.AtPeak.{AtPeak}
use Rattle.panako_judge.specs.declared.PanakoQuery.{PanakoQuery}

-- ── the occupied bins ──

-- two votes in one bin: the same scale bin and the same offset
abbrev pub same_bin : Vote → Vote → Bool
same_bin v u = eqb v.bin u.bin && eqb (gap v.offset u.offset) 0

-- "(scale, offset) order"
abbrev pub before : Vote → Vote → Bool
before v u = ltb v.bin u.bin || (eqb v.bin u.bin && lt_z v.offset u.offset)

-- the bin of v put among bins that stand in that order, unless it is there
unfoldable pub with_bin : Vote → List Vote → List Vote
with_bin v [] = v ∷ []
with_bin v (u ∷ us) = cond (same_bin u v) (u ∷ us) (cond (before v u) (v ∷ u ∷ us) (u ∷ with_bin v us))

-- "an occupied bin": a scale bin and an offset that a vote has. Each stands once, in order.
unfoldable pub occupied_bins : List Vote → List Vote
occupied_bins [] = []
occupied_bins (v ∷ vs) = with_bin v (occupied_bins vs)

-- a bin as `hough` has it: its scale bin, its offset, and how many of the votes are in it
abbrev pub counted_bin : List Vote → Vote → List ℤ
counted_bin vs b = pos b.bin ∷ b.offset ∷ pos (count_if (λ v. same_bin v b) vs) ∷ []

-- the words of all, and how many bins there are
unfoldable pub hough_bins : List Vote → List ℤ
hough_bins vs = flat (map (counted_bin vs) (occupied_bins vs))

abbrev pub bin_count : List Vote → ℕ
bin_count vs = length (occupied_bins vs)

-- ── the judge ──

-- what is seen of n bins l
pub record Seen : Type 0 where
  pub peak : Peak
  pub prominence : Float
  pub score : Float
  pub frames : ℤ
  pub bin : ℕ

-- the Hough peak, its prominence, "Its frames" and its scale bin; "Panako score = peak votes over query hashes"
unfoldable pub seen_of : PanakoQuery → List ℤ → ℕ → Seen
seen_of q l n =
    let tol : ℕ = q.cfg.offset_tolerance_frames in
    let peak : Peak = hough_peak l n tol in
    record {
      peak = peak;
      prominence = prominence l n tol peak.votes peak.at;
      score = score_of peak.votes q.q_len;
      frames = peak_offset l n tol peak.at;
      bin = scale l peak.at;
    }

-- what the gates ask, and what they look at
abbrev pub thresholds_of : PanakoQuery → Thresholds
thresholds_of q = record { rate = q.frames_per_sec; min_votes = q.cfg.min_votes; min_score = q.cfg.min_score; min_prominence = q.cfg.min_prominence }

abbrev pub at_peak : Seen → AtPeak
at_peak s = record { votes = s.peak.votes; prominence = s.prominence; score = s.score }

-- "c = scale_min + (bin + 0.5) × per; 1/c held to 0.5 .. 2.0, as f32; 1.0 if |c| ≤ 1e-6"
unfoldable pub time_scale_of : PanakoMatchConfig → ℕ → Float
time_scale_of cfg bin = time_scale (bin_centre cfg.scale_min (per cfg) bin)

abbrev pub result_of : PanakoQuery → Float → Seen → MatchResult
result_of q rate s = result_at (at_peak s) s.frames rate (time_scale_of q.cfg s.bin)

-- a candidate whose row has this word as its rate
unfoldable pub judge_by : PanakoQuery → ℕ → List Vote → Option MatchResult
judge_by q rate vs =
    let fps : Float = of_bits binary32 rate in
    let s : Seen = seen_of q (hough_bins vs) (bin_count vs) in
    passing (gates (thresholds_of q) fps (length vs) (at_peak s)) (result_of q fps s)
