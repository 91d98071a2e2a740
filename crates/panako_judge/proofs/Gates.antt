-- What the code finds of n bins is what is seen of them; the gates, from the word of the row's rate. Assumes nothing.
use mathlib.Core.Path.{◌≡◌, refl}
use mathlib.Core.List.{List}
use mathlib.Core.Bool.{and-false}
use mathlib.Core.Option.{none}
use Prim.Native.Nat.{ℕ, ◌<◌}
use lib.IntN.{ℤ}
use lib.ListN.{length}
use lib.Ieee.{Float, binary32, of_bits}
use borrow.Author.Tests.{lt-leb}
use Rattle.lists.specs.Every.{all_true}
use Rattle.matching.specs.Rates.{rates_agree}
use Rattle.matching.specs.Scores.{score_of}
use Rattle.hough.specs.Hough.{scale, hough_peak, peak_offset, prominence}
use Rattle.hough.specs.declared.Peak.{Peak}
use Rattle.gates.specs.Gates.{gates, result_at}
use Rattle.gates.specs.declared.AtPeak.{AtPeak}
use Rattle.query_rank.specs.Verdicts.{verdict_of}
use Rattle.std.specs.Prelude.{Option}
use Rattle.matching.specs.declared.MatchResult.{MatchResult}
use Rattle.gates.proofs.Passing.{Judged}
use Rattle.panako_vote.specs.declared.Vote.{Vote}
use Rattle.panako_judge.specs.Judge.{hough_bins, bin_count, Seen, seen_of, thresholds_of, at_peak, time_scale_of, result_of, judge_by}
use Rattle.panako_judge.specs.declared.PanakoQuery.{PanakoQuery}

module _ (q : PanakoQuery) (l : List ℤ) (n : ℕ) where
  module _ (tol : ℕ) (te : tol ≡ q.cfg.offset_tolerance_frames) (p : Peak) (pe : p ≡ hough_peak l n tol) where
    pub peak-found : p ≡ (seen_of q l n).peak
    unfolding seen_of
    peak-found = rw te at pe

    pub prominence-found : (x : Float) → x ≡ prominence l n tol p.votes p.at → x ≡ (seen_of q l n).prominence
    unfolding seen_of
    prominence-found x e = rw (pe, te) at e

    pub score-found : (x : Float) → x ≡ score_of p.votes q.q_len → x ≡ (seen_of q l n).score
    unfolding seen_of
    score-found x e = rw (pe, te) at e

    pub result-found : (z : AtPeak) (fps : Float) → z ≡ at_peak (seen_of q l n)
        → result_at z (peak_offset l n q.cfg.offset_tolerance_frames p.at) fps (time_scale_of q.cfg (scale l p.at)) ≡ result_of q fps (seen_of q l n)
    unfolding seen_of
    result-found z fps e = rw (e, pe, te) refl

module _ (q : PanakoQuery) (rate : ℕ) (vs : List Vote) where
  abbrev pub seen : Seen
  seen = seen_of q (hough_bins vs) (bin_count vs)

  pub judged-by : (fps : Float) → fps ≡ of_bits binary32 rate → (v : Option MatchResult)
      → Judged (thresholds_of q) fps (length vs) (at_peak seen) (result_of q fps seen) v → v ≡ verdict_of (judge_by q rate vs)
  unfolding judge_by
  judged-by fps e v w = rw e at w

  -- "Too few votes against min_votes: no candidate."
  pub judged-few : length vs < q.cfg.min_votes → judge_by q rate vs ≡ none
  unfolding judge_by gates all_true
  judged-few h = rw (lt-leb q.cfg.min_votes (length vs) h, and-false (rates_agree q.frames_per_sec (of_bits binary32 rate))) refl
