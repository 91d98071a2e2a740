-- A candidate is barred at the first gates, or weighed by its bins, which lie behind its votes.
use Rattle.std.proofs.Common.{◌≡◌, List, ℕ, ℤ, ◌+◌, ◌*◌, ◌≤◌, None, Bool, length, arith, refl, sym, ap, ◌∙◌, Float}
use Rattle.maps.proofs.Words.{outside-none}
use Rattle.gates.specs.Gates.{admits}
use Rattle.gates.specs.declared.Thresholds.{Thresholds}
use Rattle.gates.proofs.Passing.{bar-entry, goes_on}
use Rattle.wang_judge.specs.Judge.{seen_of, thresholds_of, at_peak, result_of}
use Rattle.wang_judge.specs.Candidates.{counts_in}
use Rattle.wang_judge.specs.declared.WangQuery.{WangQuery}
use Rattle.wang_judge.proofs.Words.{votes-are, counts-kept, candidate-counted}
use Rattle.wang_judge.proofs.Gates.{seen-votes, judged-by}
use Rattle.wang_judge.proofs.judge.Goals as goal

-- what the first gates said
entry : (q : WangQuery) (rmax : ℕ) (s : List ℤ) (a g : ℕ) → a + g ≤ length s → (fps : Float) (k : Thresholds) → k ≡ thresholds_of q
    → (b : Bool) → b ≡ admits k.rate fps k.min_votes g → admits q.frames_per_sec fps q.cfg.min_votes (seen_of q rmax (counts_in q.q_max s a g)).votes ≡ b
entry q rmax s a g h fps k ke b e =
    let f = rw ke at e in
    ap (λ (n : ℕ). admits q.frames_per_sec fps q.cfg.min_votes n) (seen-votes q 0 rmax (counts_in q.q_max s a g) ∙ votes-are q.q_max s a g h) ∙ sym f

pub returns-then-not-admitted : goal.returns-then-not-admitted
returns-then-not-admitted c =
    let q = c.args.q in
    let n = counts_in q.q_max c.args.s.now c.args.a c.args.g in
    let seen = seen_of q c.args.r_max n in
    let fps = c.f32_from_bits-fps in (
      judged-by q c.args.rate c.args.r_max n fps.result fps.ensures None
          (bar-entry (thresholds_of q) fps.result seen.votes (at_peak seen) (result_of fps.result seen)
          (entry q c.args.r_max c.args.s.now c.args.a c.args.g (omega (arith, c.requires.group.before, c.requires.group.room)) fps.result (thresholds_of q) refl
          c.admitted.result (rw c.thresholds.ensures at c.admitted.ensures) ∙ c.if-not-admitted.true)),
      outside-none c.args.s.now c.args.at (c.args.at + 2 * c.args.g),
    )

pub weigh-requires : goal.weigh-requires
weigh-requires c =
    let b = c.count_sorted-n in
    (candidate-counted c.args.s.now b.new.s c.args.a c.args.g c.args.at b.result c.args.q c.args.r_max c.from.result c.from.ensures c.requires b.ensures.0 b.ensures.1).0

pub returns : goal.returns
returns c =
    let q = c.args.q in
    let s = c.args.s.now in
    let n = counts_in q.q_max s c.args.a c.args.g in
    let seen = seen_of q c.args.r_max n in
    let fps = c.f32_from_bits-fps in
    let b = c.count_sorted-n in
    let end = c.args.at + 2 * c.args.g in
    let same = (candidate-counted s b.new.s c.args.a c.args.g c.args.at b.result q c.args.r_max c.from.result c.from.ensures c.requires b.ensures.0 b.ensures.1).1 in
    let kept = counts-kept s b.new.s c.args.a c.args.g c.args.at end same c.requires.group.before q.q_max b.auto.s (omega (arith, c.requires.group.room)) in (
      judged-by q c.args.rate c.args.r_max n fps.result fps.ensures c.weigh.result
          (goes_on (thresholds_of q) fps.result seen.votes (at_peak seen) (result_of fps.result seen)
          (entry q c.args.r_max s c.args.a c.args.g (omega (arith, c.requires.group.before, c.requires.group.room)) fps.result (thresholds_of q) refl
          c.admitted.result (rw c.thresholds.ensures at c.admitted.ensures) ∙ c.if-not-admitted.false) c.weigh.result (rw kept at c.weigh.ensures)),
      same,
    )
