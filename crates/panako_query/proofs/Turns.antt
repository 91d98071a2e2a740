-- The walk over the candidates: what a candidate's votes are, and a turn of the walk. Assumes nothing.
use mathlib.Core.Path.{◌≡◌, ap, ◌∙◌}
use mathlib.Core.List.{List}
use mathlib.Core.Option.{Option}
use Prim.Native.Nat.{ℕ, ◌+◌, ◌*◌, ◌-◌, ◌/◌, ◌^◌, ◌≤◌, ◌<◌}
use native.Mathlib.Omega.{arith}
use lib.IntN.{ℤ, pos}
use lib.ListN.{length, get_or}
use Rattle.maps.specs.Words.{SameOutside}
use Rattle.bins.specs.Votes.{above, lead_of, Run}
use Rattle.bins.proofs.Above.{above-le}
use Rattle.matching.specs.declared.MatchResult.{MatchResult}
use Rattle.model.specs.Query.{track_best}
use Rattle.model.specs.Soundness.{row_word}
use Rattle.model.specs.Words.{at_rate}
use Rattle.std.specs.Prelude as code
use Rattle.query_rank.specs.Verdicts.{verdict_of, result_in}
use Rattle.query_laws.specs.Candidates.{Fair, Rising}
use Rattle.query_laws.proofs.Turns.{Judged, turn}
use Rattle.panako_judge.specs.declared.PanakoQuery.{PanakoQuery}
use Rattle.panako_judge.specs.Judge.{judge_by}
use Rattle.panako_vote.specs.Words.{lowest}
use Rattle.panako_judge.specs.Candidates.{recording_of, votes_in, Candidate}
use Rattle.panako_judge.proofs.Counts.{judged-same}
use Rattle.panako_query.specs.Candidates.{reading, Limits, Known}

pub fair : (q : PanakoQuery) → Fair (reading q)
fair q r vs us e = judged-same vs us e q r.rate

recording-le : (m n : ℕ) → m ≤ n → m / 2 ^ 52 ≤ n / 2 ^ 52
recording-le m n h = omega arith

rises : (q : PanakoQuery) → Rising (reading q)
rises q y z h = recording-le (above lowest y) (above lowest z) (above-le lowest y z h)

-- the words before i are judged
abbrev pub Walked : List ℕ → PanakoQuery → List ℤ → List ℤ → ℕ → Option (ℕ × MatchResult) → ℕ → Type 0
Walked rs q s₀ s v best i = Judged (reading q) rs (Known rs) 6 s₀ s v best i

module _ (rs : List ℕ) (q : PanakoQuery) (s₀ s : List ℤ) (v : ℕ) (best : Option (ℕ × MatchResult)) (i : ℕ) (J : Walked rs q s₀ s v best i) (h : i < v)
    (e : ℕ) (U : Run (λ (t : ℕ). lead_of lowest 52 (get_or s t (pos 0))) i v e) where
  -- the votes from i to e are one candidate's
  pub candidate : Limits rs q → Candidate s i (e - i) (2 * v) q
  candidate L = record {
    some = omega (arith, U.since);
    few = omega (arith, U.within, J.votes.few);
    tolerance = L.tolerance;
    group = record {
      one = λ t lt. U.same (i + t) (omega arith) (omega arith);
      ascend = λ a b lt k. above-le lowest (get_or s (i + a) (pos 0)) (get_or s (i + b) (pos 0)) (J.votes.ascend (i + a) (i + b) (omega arith) (omega (arith, U.within)));
      before = omega (arith, U.within, U.since);
      room = omega (arith, U.within, U.since, J.votes.room);
    };
    room = omega (arith, U.within, U.since, J.votes.room);
  }

  -- a turn, by what the calls say
  pub walked_on : (s' : List ℤ) (to : ℕ) → length s' ≡ length s → SameOutside s s' (2 * v) to → (id rate : ℕ) (r : code.Option MatchResult) (best' : Option (ℕ × MatchResult))
      → id ≡ recording_of (get_or s i (pos 0)) → rate ≡ row_word rs id at_rate
      → r ≡ verdict_of (judge_by q rate (votes_in s i (e - i))) → best' ≡ track_best best id (result_in r) → Walked rs q s₀ s' v best' e
  walked_on s' to len S id rate r best' e1 e2 e3 e4 =
      turn (reading q) rs (Known rs) 6 (omega arith) (rises q) (λ z k. k) s₀ s v best i J h e U s' (2 * v) to (omega arith) len S id r best' e1
      (e3 ∙ ap (λ (n : ℕ). verdict_of (judge_by q n (votes_in s i (e - i)))) e2) e4
