-- What is seen of a candidate whose bins are there, and the gates that it goes through. Assumes nothing.
use mathlib.Core.Path.{◌≡◌, refl, sym, ap, ◌∙◌}
use mathlib.Core.List.{List}
use Prim.Native.Nat.{ℕ, ◌+◌, ◌^◌, ◌≤◌, ◌<◌}
use native.Mathlib.Omega.{arith}
use lib.IntN.{ℤ, pos, neg_ℤ, nat_abs, ◌+ℤ◌, +ℤ_comm, +ℤ_assoc, +ℤ_invl, +ℤ_idl, -ℤ-+ℤ_cancel}
use lib.ListN.{length, drop, length-drop}
use lib.Signed.{non_neg}
use lib.Dec.{T}
use lib.Ieee.{Float, binary32, of_bits}
use Rattle.signed.proofs.Sizes.{abs_neg}
use Rattle.matching.specs.Scores.{wang_prominence}
use Rattle.bins.specs.Votes.{places, positions}
use Rattle.consolidate.specs.Box.{box_peak}
use Rattle.consolidate.specs.Limits.{Span}
use Rattle.consolidate.specs.declared.Peak.{Peak}
use Rattle.consolidate.proofs.Facts.{midpoint, midpoint-le}
use Rattle.query_rank.specs.Verdicts.{verdict_of}
use Rattle.wang_judge.specs.Judge.{Counts, any_vote, seen_of, thresholds_of, at_peak, result_of, judge_by}
use Rattle.wang_judge.specs.Candidates.{counts_in, seen_in, Counted}
use Rattle.wang_judge.specs.declared.WangQuery.{WangQuery}
use Rattle.std.specs.Prelude.{Option}
use Rattle.matching.specs.declared.MatchResult.{MatchResult}
use Rattle.gates.proofs.Passing.{Judged}
use Rattle.wang_judge.proofs.Words.{counts-tell, counts-few}
use Rattle.wang_judge.proofs.Peaks.{peak-is, span_of, sums, peak-le, peak-under, peak-centre}

high_is : (top far : ℕ) → pos far ≡ neg_ℤ (pos top) +ℤ pos (top + far)
high_is top far = sym (+ℤ_idl (pos far)) ∙ ap (λ (z : ℤ). z +ℤ pos far) (sym (+ℤ_invl (pos top))) ∙ +ℤ_assoc (neg_ℤ (pos top)) (pos top) (pos far)

up-again : (top x : ℕ) → (neg_ℤ (pos top) +ℤ pos x) +ℤ pos top ≡ pos x
up-again top x = ap (λ (z : ℤ). z +ℤ pos top) (+ℤ_comm (neg_ℤ (pos top)) (pos x)) ∙ -ℤ-+ℤ_cancel (pos x) (pos top)

-- ---- a candidate whose n bins are there
module _ (s : List ℤ) (a g at n : ℕ) (q : WangQuery) (rmax : ℕ) (C : Counted s a g at n q rmax) (bottom : q.q_max < 2 ^ 32) (top : rmax < 2 ^ 32) where
  within-s : a + g ≤ length s
  within-s = omega (arith, C.before, C.room)

  pub span-is : (tol low high : ℕ) → tol ≡ q.cfg.offset_tolerance_frames → low ≡ q.q_max → high ≡ rmax → Span (drop at s) n tol (neg_ℤ (pos low)) (pos high)
  span-is tol low high te le he =
      rw (te, le, he)
      (span_of (counts_in q.q_max s a g) (neg_ℤ (pos q.q_max)) (places s a) (positions s a) g (counts-tell q.q_max s a g within-s) (drop at s) n C.bins
      (q.q_max + rmax) C.limited.spanned (pos rmax) (high_is q.q_max rmax) q.cfg.offset_tolerance_frames
      (omega (arith, length-drop at s, C.room, C.bins.few)) C.limited.few (omega (arith, abs_neg q.q_max)) top C.limited.tolerance)

  -- the sweep's answer
  pub peak-found : (tol low high : ℕ) → tol ≡ q.cfg.offset_tolerance_frames → low ≡ q.q_max → high ≡ rmax
      → box_peak (drop at s) n tol (neg_ℤ (pos low)) (pos high) ≡ (seen_in q rmax s a g).peak
  unfolding seen_of
  peak-found tol low high te le he =
      rw (te, le, he)
      (peak-is (counts_in q.q_max s a g) (neg_ℤ (pos q.q_max)) (places s a) (positions s a) g (counts-tell q.q_max s a g within-s) (drop at s) n C.bins
      (q.q_max + rmax) C.limited.spanned q.cfg.offset_tolerance_frames (pos rmax) (high_is q.q_max rmax) (C.bins.some C.limited.some))

-- ---- what is seen of any votes
module _ (q : WangQuery) (rmax : ℕ) (s : List ℤ) (a g : ℕ) where
  abbrev tol : ℕ
  tol = q.cfg.offset_tolerance_frames

  abbrev low : ℤ
  low = neg_ℤ (pos q.q_max)

  abbrev width : ℕ
  width = q.q_max + rmax + 1

  pub peak-total : (seen_in q rmax s a g).peak.votes ≤ (seen_in q rmax s a g).peak.total
  unfolding seen_of
  peak-total = peak-le (counts_in q.q_max s a g) tol low width

  pub peak-few : a + g ≤ length s → (seen_in q rmax s a g).peak.votes ≤ g
  unfolding seen_of
  peak-few h = peak-under (counts_in q.q_max s a g) tol low width g (counts-few q.q_max s a g h)

  pub prominence-found : (peak : Peak) (bottom top : ℕ) → peak ≡ (seen_in q rmax s a g).peak → bottom ≡ q.q_max → top ≡ rmax
      → wang_prominence peak.votes peak.total (bottom + top + 1) ≡ (seen_in q rmax s a g).prominence
  unfolding seen_of
  prominence-found peak bottom top pe be te = rw (pe, be, te) refl

  -- how far the centre lies above the low end
  up_is : (seen_in q rmax s a g).peak.centre +ℤ pos q.q_max ≡ pos (midpoint (sums (counts_in q.q_max s a g) tol low) width)
  unfolding seen_of
  up_is =
      ap (λ (z : ℤ). z +ℤ pos q.q_max) (peak-centre (counts_in q.q_max s a g) tol low width)
      ∙ up-again q.q_max (midpoint (sums (counts_in q.q_max s a g) tol low) width)

  pub centre-up : T (non_neg ((seen_in q rmax s a g).peak.centre +ℤ pos q.q_max))
  centre-up = rw up_is tt

  pub centre-few : nat_abs ((seen_in q rmax s a g).peak.centre +ℤ pos q.q_max) ≤ width
  centre-few = rw up_is (midpoint-le (sums (counts_in q.q_max s a g) tol low) width)

-- ---- the gates, from the word of the row's rate
module _ (q : WangQuery) (rate rmax : ℕ) (n : Counts) where
  pub seen-votes : (seen_of q rmax n).votes ≡ n any_vote
  unfolding seen_of
  seen-votes = refl

  pub judged-by : (fps : Float) → fps ≡ of_bits binary32 rate → (v : Option MatchResult)
      → Judged (thresholds_of q) fps (seen_of q rmax n).votes (at_peak (seen_of q rmax n)) (result_of fps (seen_of q rmax n)) v
      → v ≡ verdict_of (judge_by q rate rmax n)
  unfolding judge_by
  judged-by fps e v w = rw e at w
