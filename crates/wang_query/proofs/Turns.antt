-- The walk over the candidates: what a candidate's votes are, and a turn of the walk. Assumes nothing.
use mathlib.Core.Path.{◌≡◌, ap, ap₂, ◌∙◌, fun_ext}
use mathlib.Core.List.{List}
use mathlib.Core.Option.{Option}
use Prim.Native.Nat.{ℕ, ◌+◌, ◌*◌, ◌-◌, ◌/◌, ◌^◌, ◌≤◌, ◌<◌}
use native.Mathlib.Omega.{arith}
use lib.IntN.{ℤ, pos}
use lib.ListN.{length, get_or}
use Rattle.maps.specs.Words.{SameOutside}
use Rattle.bins.specs.Votes.{above, lead_of, recording_of, places, Run}
use Rattle.bins.proofs.Above.{above-le}
use Rattle.matching.specs.declared.MatchResult.{MatchResult}
use Rattle.model.specs.Query.{track_best}
use Rattle.model.specs.Soundness.{row_word}
use Rattle.model.specs.Words.{at_rate, at_rmax}
use Rattle.wang_judge.specs.declared.WangQuery.{WangQuery}
use Rattle.std.specs.Prelude as code
use Rattle.wang_judge.specs.Judge.{judge_by}
use Rattle.query_rank.specs.Verdicts.{verdict_of, result_in}
use Rattle.wang_judge.specs.Candidates.{counts_in, Candidate}
use Rattle.query_laws.specs.Candidates.{Fair, Rising}
use Rattle.query_laws.proofs.Turns.{Judged, turn}
use Rattle.wang_query.specs.Candidates.{reading, Limits, Spanned}

pub fair : (q : WangQuery) → Fair (reading q)
fair q r vs us e = ap (judge_by q r.rate r.rmax) (fun_ext e)

recording-le : (m n : ℕ) → m ≤ n → m / 2 ^ 44 ≤ n / 2 ^ 44
recording-le m n h = omega arith

rises : (q : WangQuery) → Rising (reading q)
rises q y z h = recording-le (above 0 y) (above 0 z) (above-le 0 y z h)

-- the words before i are judged
abbrev pub Walked : List ℕ → WangQuery → List ℤ → List ℤ → ℕ → Option (ℕ × MatchResult) → ℕ → Type 0
Walked rs q s₀ s v best i = Judged (reading q) rs (Spanned rs q.q_max) 4 s₀ s v best i

module _ (rs : List ℕ) (q : WangQuery) (s₀ s : List ℤ) (v : ℕ) (best : Option (ℕ × MatchResult)) (i : ℕ) (J : Walked rs q s₀ s v best i) (h : i < v)
    (e : ℕ) (U : Run (λ (t : ℕ). lead_of 0 44 (get_or s t (pos 0))) i v e) where
  -- the votes from i to e are one candidate's
  pub candidate : Limits rs q → Candidate s i (e - i) (2 * v) q (row_word rs (recording_of (get_or s i (pos 0))) at_rmax)
  unfolding places
  candidate L = record {
    limited = record {
      some = omega (arith, U.since);
      few = omega (arith, U.within, J.votes.few);
      spanned = λ t lt.
          let m = U.same (i + t) (omega arith) (omega arith) in
          let n = (J.votes.each (i + t) (omega (arith, U.within))).near in
          rw m at n;
      tolerance = L.tolerance;
      short = L.short;
    };
    group = record {
      one = λ t lt. U.same (i + t) (omega arith) (omega arith);
      ascend = λ a b lt k. above-le 0 (get_or s (i + a) (pos 0)) (get_or s (i + b) (pos 0)) (J.votes.ascend (i + a) (i + b) (omega arith) (omega (arith, U.within)));
      before = omega (arith, U.within, U.since);
      room = omega (arith, U.within, U.since, J.votes.room);
    };
  }

  -- a turn, by what the calls say
  pub walked_on : (s' : List ℤ) (to : ℕ) → length s' ≡ length s → SameOutside s s' (2 * v) to → (id rate rmax : ℕ) (r : code.Option MatchResult) (best' : Option (ℕ × MatchResult))
      → id ≡ recording_of (get_or s i (pos 0)) → rate ≡ row_word rs id at_rate → rmax ≡ row_word rs id at_rmax
      → r ≡ verdict_of (judge_by q rate rmax (counts_in q.q_max s i (e - i))) → best' ≡ track_best best id (result_in r) → Walked rs q s₀ s' v best' e
  unfolding counts_in
  walked_on s' to len S id rate rmax r best' e1 e2 e3 e4 e5 =
      turn (reading q) rs (Spanned rs q.q_max) 4 (omega arith) (rises q) (λ z k. k.known) s₀ s v best i J h e U s' (2 * v) to (omega arith) len S id r best' e1
      (e4 ∙ ap₂ (λ (a b : ℕ). verdict_of (judge_by q a b (counts_in q.q_max s i (e - i)))) e2 e3) e5
