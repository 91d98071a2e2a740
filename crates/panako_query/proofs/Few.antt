-- Votes of one recording that have few bins: it is the one candidate. Assumes nothing.
use mathlib.Core.Path.{◌≡◌, sym, ap, ◌∙◌}
use mathlib.Core.List.{List}
use mathlib.Core.Option.{Option, none}
use Prim.Native.Nat.{ℕ, ◌*◌, ◌≤◌, ◌<◌}
use native.Mathlib.Omega.{arith}
use lib.IntN.{ℤ, pos}
use lib.ListN.{length, get_or, take}
use lib.Seq.{get_or-take, length-take-le}
use Rattle.lists.specs.Lists.{All}
use Rattle.lists.proofs.Keep.{all-make}
use Rattle.bins.specs.Votes.{lead_of, Run}
use Rattle.matching.specs.declared.MatchResult.{MatchResult}
use Rattle.model.specs.Query.{track_best}
use Rattle.model.specs.Soundness.{row_word}
use Rattle.model.specs.Words.{at_rate}
use Rattle.std.specs.Prelude as code
use Rattle.query_rank.specs.Verdicts.{verdict_of, result_in}
use Rattle.query_laws.proofs.Judged.{one-recording}
use Rattle.query_laws.proofs.Turns.{result-of, word_same}
use Rattle.panako_judge.specs.declared.PanakoQuery.{PanakoQuery}
use Rattle.panako_judge.specs.Judge.{judge_by}
use Rattle.panako_vote.specs.Words.{lowest}
use Rattle.panako_judge.specs.Candidates.{recording_of, votes_in, Binned}
use Rattle.panako_query.specs.Candidates.{reading, best_in, Known, OneRecording, Alike}

-- words that stay as they are, all of one recording, with their bins behind them
pub alike : (s l : List ℤ) (v n r : ℕ) → 0 < v → take v l ≡ take v s → Run (λ t. lead_of lowest 52 (get_or s t (pos 0))) 0 v r → v ≤ r → Binned l v (2 * v) n → Alike l v n
alike s l v n r some same U all B = record {
  votes = record { some = some; one = λ t h. ap recording_of (word_same s l v same t h) ∙ U.same t (omega arith) (omega arith) ∙ sym (ap recording_of (word_same s l v same 0 some)) };
  binned = B;
}

-- words of which a run ends early aren't of one recording
pub not-one : (s : List ℤ) (v r : ℕ) → Run (λ t. lead_of lowest 52 (get_or s t (pos 0))) 0 v r → r < v → OneRecording s v → ⊥
not-one s v r U h O = U.stop h (O.one r h)

module _ (rs : List ℕ) (q : PanakoQuery) (s : List ℤ) (v n : ℕ) (A : Alike s v n) (K : Known rs (get_or s 0 (pos 0))) where
  short : v ≤ length s
  short = omega (arith, A.binned.before, A.binned.room)

  each : All (λ z. recording_of z ≡ recording_of (get_or s 0 (pos 0))) (take v s)
  each = all-make (λ z. recording_of z ≡ recording_of (get_or s 0 (pos 0))) (take v s) (pos 0) (λ t h.
      let lt : t < v = omega (arith, length-take-le v s short) in
      ap recording_of (get_or-take v s t (pos 0) lt) ∙ A.votes.one t lt)

  -- the best, by what the calls say
  pub few-best : (id rate : ℕ) (r : code.Option MatchResult) (best : Option (ℕ × MatchResult)) → id ≡ recording_of (get_or s 0 (pos 0)) → rate ≡ row_word rs id at_rate
      → r ≡ verdict_of (judge_by q rate (votes_in s 0 v)) → best ≡ track_best none id (result_in r) → best ≡ best_in q rs (take v s)
  few-best id rate r best e1 e2 e3 e4 =
      e4 ∙ rw (e3, result-of (judge_by q rate (votes_in s 0 v)), e2, e1) (sym (one-recording (reading q) rs (take v s) (recording_of (get_or s 0 (pos 0))) K each (omega (arith, length-take-le v s short, A.votes.some))))
