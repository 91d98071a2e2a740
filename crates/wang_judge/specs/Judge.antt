-- Wang's judge: steps 1 to 4 of document 01's "Each candidate", from a candidate's votes, its row and the query. All of it is said by
-- counts of votes, so their order can't matter. Definitions only. Assumes nothing.
use Rattle.std.specs.Prelude as code
use Rattle.std.specs.Prelude.{Bool, true, ◌&&◌, ℕ, ◌+◌, ℤ, pos, neg_ℤ, ◌+ℤ◌, eqb, ltb, Float}
use Rattle.std.proofs.Math.Option.{Option}
use Rattle.std.specs.Float.{binary32}
use Rattle.std.specs.Float.Ieee.{of_bits}
use Rattle.maps.specs.Sums.{sum_to, when}
use Rattle.floats.specs.Selection.{one}
use Rattle.matching.specs.Scores.{wang_prominence, score_of}
use Rattle.matching.specs.declared.MatchResult.{MatchResult}
use Rattle.consolidate.specs.Modes.{mode}
use Rattle.consolidate.specs.Box.{within, peak_over}
use Rattle.consolidate.specs.declared.Peak.{Peak}
use Rattle.gates.specs.Gates.{gates, result_at, passing}
use Rattle.gates.specs.declared.Thresholds.{Thresholds}
use Rattle.gates.specs.declared.AtPeak.{AtPeak}
use Rattle.wang_judge.specs.declared.WangQuery.{WangQuery}

-- "Wang vote: id, δ = t_anchor of the posting − t_anchor of the query hash, position of the query hash". The id is the candidate's.
pub record Vote : Type 0 where
  pub delta : ℤ
  pub position : ℕ

-- how many of a candidate's votes pass a test
abbrev pub Counts : Type 0
Counts = (Vote → Bool) → ℕ

abbrev pub any_vote : Vote → Bool
any_vote v = true

-- δ is within ± tol of c
abbrev pub near : ℕ → ℤ → Vote → Bool
near tol c v = within tol c c v.delta

-- ── the peak: the box sweep over the centres low, low + 1, .., low + k - 1 ──

-- the votes at an offset
abbrev pub votes_at : Counts → ℤ → ℕ
votes_at n d = n (near 0 d)

-- the mode of those offsets that are "within tolerance of the run" from a to b
unfoldable pub mode_within : Counts → ℕ → ℤ → ℕ → ℤ → ℤ → code.Option ℤ
mode_within n tol low k a b = mode (λ x. when (within tol a b (low +ℤ pos x)) (votes_at n (low +ℤ pos x))) (λ x. low +ℤ pos x) k

-- the peak of "the sum of counts within ± tolerance". A candidate has a vote: that there is no bin isn't met.
unfoldable pub peak_of : Counts → ℕ → ℤ → ℕ → Peak
peak_of n tol low k = peak_over (λ x. n (near tol (low +ℤ pos x))) (mode_within n tol low k) low k

-- ── the score ──

-- "distinct query positions with δ within tolerance of the centre", of m query positions
unfoldable pub distinct : Counts → ℕ → ℤ → ℕ → ℕ
distinct n tol c m = sum_to (λ i. when (ltb 0 (n (λ v. eqb v.position i && near tol c v))) 1) m

-- ── the judge ──

-- what is seen of a candidate, its rate aside
pub record Seen : Type 0 where
  pub votes : ℕ
  pub peak : Peak
  pub prominence : Float
  pub score : Float

-- "Over all centres from −(largest query anchor) to r_max"; "Wang score = distinct query positions .., over query hashes"
unfoldable pub seen_of : WangQuery → ℕ → Counts → Seen
seen_of q rmax n =
    let tol : ℕ = q.cfg.offset_tolerance_frames in
    let width : ℕ = q.q_max + rmax + 1 in
    let peak : Peak = peak_of n tol (neg_ℤ (pos q.q_max)) width in
    record {
      votes = n any_vote;
      peak = peak;
      prominence = wang_prominence peak.votes peak.total width;
      score = score_of (distinct n tol peak.centre q.q_len) q.q_len;
    }

-- what the gates ask, and what they look at
abbrev pub thresholds_of : WangQuery → Thresholds
thresholds_of q = record { rate = q.frames_per_sec; min_votes = q.cfg.min_votes; min_score = q.cfg.min_score; min_prominence = q.cfg.min_prominence }

abbrev pub at_peak : Seen → AtPeak
at_peak s = record { votes = s.peak.votes; prominence = s.prominence; score = s.score }

-- "The result's frames are the mode." "Wang time scale is 1.0."
abbrev pub result_of : Float → Seen → MatchResult
result_of rate s = result_at (at_peak s) s.peak.mode rate one

-- by the row's rate bits and r_max, and the counts of votes
unfoldable pub judge_by : WangQuery → ℕ → ℕ → Counts → Option MatchResult
judge_by q bits rmax n =
    let rate : Float = of_bits binary32 bits in
    let s : Seen = seen_of q rmax n in
    passing (gates (thresholds_of q) rate s.votes (at_peak s)) (result_of rate s)
