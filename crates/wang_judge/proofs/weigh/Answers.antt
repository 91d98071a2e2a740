-- The peak is the one that is seen; what the calls yield is what is seen of it.
use Rattle.std.proofs.Common.{◌≡◌, List, ℕ, ℤ, neg_ℤ, drop, ◌≤◌, ◌<◌, ◌^◌, ◌+◌, pos, nat_abs, ◌+ℤ◌, T, arith, rules, refl, sym, ap, ◌∙◌, subst, Option, Float, take, length, map}
use lib.ListN.{length-drop}
use lib.Seq.{take-take, length-take-le}
use Rattle.std.specs.Int.Signed.{non_neg}
use Rattle.std.specs.Float.{binary32}
use Rattle.std.specs.Float.Ieee.{of_bits}
use Rattle.floats.specs.Selection.{one}
use Rattle.maps.proofs.Words.{word, read_is}
use Rattle.consolidate.specs.Box.{box_peak}
use Rattle.consolidate.specs.declared.Peak.{Peak}
use Rattle.wang_judge.specs.declared.WangQuery.{WangQuery}
use Rattle.matching.specs.Scores.{wang_prominence, score_of}
use Rattle.gates.specs.Gates.{result_at}
use Rattle.gates.specs.Weighing.{Weighs}
use Rattle.gates.specs.declared.AtPeak.{AtPeak}
use Rattle.gates.specs.declared.Thresholds.{Thresholds}
use Rattle.matching.specs.declared.MatchResult.{MatchResult}
use Rattle.gates.proofs.Passing.{result-same}
use Rattle.wang_judge.specs.Judge.{distinct, seen_of, thresholds_of, at_peak, result_of}
use Rattle.wang_judge.specs.Scheme.{counts_of}
use Rattle.wang_judge.specs.Candidates.{vote_in, counts_in, seen_in, Counted}
use Rattle.wang_judge.proofs.Gates.{span-is, peak-found, prominence-found, peak-total, peak-few, centre-up, centre-few}
use Rattle.wang_judge.proofs.weigh.Goals as goal

found_peak : (s : List ℤ) (a g at n : ℕ) (q : WangQuery) (rmax : ℕ) → Counted s a g at n q rmax → q.q_max < 2 ^ 32 → rmax < 2 ^ 32
    → (tol : ℕ) → tol ≡ q.cfg.offset_tolerance_frames → (p : Peak) → p ≡ box_peak (drop at s) n tol (neg_ℤ (pos q.q_max)) (pos rmax) → p ≡ (seen_in q rmax s a g).peak
found_peak s a g at n q rmax C low high tol te p pe = pe ∙ peak-found s a g at n q rmax C low high tol q.q_max rmax te refl refl

score-found : (q : WangQuery) (rmax : ℕ) (s : List ℤ) (a g : ℕ) (p : Peak) → p ≡ (seen_in q rmax s a g).peak
    → score_of (distinct (counts_in q.q_max s a g) q.cfg.offset_tolerance_frames p.centre q.q_len) q.q_len ≡ (seen_in q rmax s a g).score
unfolding seen_of
score-found q rmax s a g p e = rw e refl

-- the votes in a slice of their own
counts-part : (top : ℕ) (s : List ℤ) (a g : ℕ) → a + g ≤ length s → counts_in top (take g (drop a s)) 0 (length (take g (drop a s))) ≡ counts_in top s a g
unfolding counts_in
counts-part top s a g h =
    let n : length (take g (drop a s)) ≡ g = length-take-le g (drop a s) (omega (arith, length-drop a s)) in
    rw n (ap (λ (l : List ℤ). counts_of (map (vote_in top) l)) (take-take g g (drop a s) (omega arith)))

-- what the gates ask is what the query asks
asked : {k : Thresholds} {votes : ℕ} {P S : Float → Type 0} {R : AtPeak → MatchResult → Type 0} {v : Option MatchResult} (q : WangQuery) → Weighs k votes P S R v
    → k.rate ≡ q.frames_per_sec → k.min_votes ≡ q.cfg.min_votes → k.min_score ≡ q.cfg.min_score → k.min_prominence ≡ q.cfg.min_prominence → Weighs (thresholds_of q) votes P S R v
asked {k} {votes} {P} {S} {R} {v} q w a b c d = subst (λ (t : Thresholds). Weighs t votes P S R v) (λ i. record { rate = a i; min_votes = b i; min_score = c i; min_prominence = d i }) w

one-is : of_bits binary32 1065353216 ≡ one
unfolding of_bits
one-is = refl

pub peak_of-peak-requires : goal.peak_of-peak-requires
peak_of-peak-requires c =
    let low : c.args.q.q_max < 2 ^ 32 = omega arith in
    let high : c.args.r_max < 2 ^ 32 = omega arith in (
      omega (arith, c.requires.room),
      span-is c.args.s.now c.args.a c.args.g c.args.at c.args.n c.args.q c.args.r_max c.requires low high c.tolerance.result c.args.q.q_max c.args.r_max c.tolerance.ensures refl refl,
    )

pub weigh-requires-clause-prominence_there : goal.weigh-requires-clause-prominence_there
weigh-requires-clause-prominence_there c =
    let found : c.peak_of-peak.result ≡ (seen_in c.args.q c.args.r_max c.args.s.now c.args.a c.args.g).peak = found_peak c.args.s.now c.args.a c.args.g c.args.at c.args.n c.args.q c.args.r_max c.requires (omega arith) (omega arith) c.tolerance.result c.tolerance.ensures c.peak_of-peak.result c.peak_of-peak.ensures in
    let h : c.peak_of-peak.result.votes ≤ c.peak_of-peak.result.total =
    rw found (peak-total c.args.q c.args.r_max c.args.s.now c.args.a c.args.g) in
    search rules

pub weigh-requires-clause-score_there : goal.weigh-requires-clause-score_there
weigh-requires-clause-score_there c =
    let found : c.peak_of-peak.result ≡ (seen_in c.args.q c.args.r_max c.args.s.now c.args.a c.args.g).peak = found_peak c.args.s.now c.args.a c.args.g c.args.at c.args.n c.args.q c.args.r_max c.requires (omega arith) (omega arith) c.tolerance.result c.tolerance.ensures c.peak_of-peak.result c.peak_of-peak.ensures in
    let h : T (non_neg (c.peak_of-peak.result.centre +ℤ pos c.args.q.q_max)) = rw found (centre-up c.args.q c.args.r_max c.args.s.now c.args.a c.args.g) in
    let low : c.args.q.q_max < 2 ^ 32 = omega arith in
    let high : c.args.r_max < 2 ^ 32 = omega arith in
    let few = centre-few c.args.q c.args.r_max c.args.s.now c.args.a c.args.g in
    let k : nat_abs (c.peak_of-peak.result.centre +ℤ pos c.args.q.q_max) ≤ 2 ^ 40 = rw found (omega arith) in
    search rules

pub weigh-requires-clause-passed_there : goal.weigh-requires-clause-passed_there
weigh-requires-clause-passed_there c =
    let found : c.peak_of-peak.result ≡ (seen_in c.args.q c.args.r_max c.args.s.now c.args.a c.args.g).peak = found_peak c.args.s.now c.args.a c.args.g c.args.at c.args.n c.args.q c.args.r_max c.requires (omega arith) (omega arith) c.tolerance.result c.tolerance.ensures c.peak_of-peak.result c.peak_of-peak.ensures in
    let few = peak-few c.args.q c.args.r_max c.args.s.now c.args.a c.args.g (omega (arith, c.requires.before, c.requires.room)) in
    let h : c.peak_of-peak.result.votes < 2 ^ 32 = rw found (omega arith) in
    search rules

pub returns : goal.returns
returns c =
    let q = c.args.q in
    let rmax = c.args.r_max in
    let s = c.args.s.now in
    let p : Peak = c.peak_of-peak.result in
    let found : p ≡ (seen_in q rmax s c.args.a c.args.g).peak = found_peak c.args.s.now c.args.a c.args.g c.args.at c.args.n c.args.q c.args.r_max c.requires (omega arith) (omega arith) c.tolerance.result c.tolerance.ensures c.peak_of-peak.result c.peak_of-peak.ensures in
    let e = asked q (rw c.thresholds.ensures at c.weigh.ensures) refl (omega arith) refl refl in
    let centre : word p.centre ≡ p.centre = read_is p.centre (search rules) in
    let mode : word p.mode ≡ p.mode = read_is p.mode (search rules) in
    e (at_peak (seen_in q rmax s c.args.a c.args.g)) (result_of c.args.fps (seen_in q rmax s c.args.a c.args.g)) (sym (ap (λ (x : Peak). x.votes) found))
    (λ x h.
    let k : x ≡ wang_prominence p.votes p.total (c.from.result + c.from-2.result + 1) = search rules in
    k ∙ prominence-found q rmax s c.args.a c.args.g p c.from.result c.from-2.result found c.from.ensures c.from-2.ensures)
    (λ x h.
    let k : x ≡ score_of (distinct (counts_in q.q_max (take c.args.g (drop c.args.a s)) 0 (length (take c.args.g (drop c.args.a s)))) q.cfg.offset_tolerance_frames (word p.centre) q.q_len) q.q_len = search rules in
    rw (centre, counts-part q.q_max s c.args.a c.args.g (omega (arith, c.requires.before, c.requires.room))) at k ∙ score-found q rmax s c.args.a c.args.g p found)
    (λ x h.
    let k : x ≡ result_at (at_peak (seen_in q rmax s c.args.a c.args.g)) (word p.mode) c.args.fps (of_bits binary32 1065353216) = search rules in
    k ∙ result-same _ _ _ _ c.args.fps _ one refl (mode ∙ ap (λ (x : Peak). x.mode) found) one-is)
