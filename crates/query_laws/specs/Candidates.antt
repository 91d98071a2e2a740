-- The candidates of a query, from the words zs of its votes and the references rs. Definitions only. Assumes nothing.
use Rattle.std.specs.Prelude.{Bool, true, cond, ◌≡◌, List, [], ◌∷◌, map, ℕ, ◌*◌, ◌≤◌, ◌<◌, ℤ, pos, length, get_or, eqb, ltb}
use Rattle.std.proofs.Math.Option.{Option, none}
use Rattle.std.specs.Int.Signed.{le_z}
use Rattle.lists.specs.Lists.{keep}
use Rattle.maps.specs.Lists.{count_if}
use Rattle.matching.specs.declared.MatchResult.{MatchResult}
use Rattle.model.specs.Rows.{Row}
use Rattle.model.specs.Query.{best_below}
use Rattle.model.specs.Calls.{Answer, refused, answer_of}
use Rattle.model.specs.Soundness.{row_word}
use Rattle.model.specs.Words.{at_rate, at_rmax, at_set}

-- how an index reads the word of a vote, and judges a recording by its row and its votes
pub record Reading (Vote : Type 0) : Type 0 where
  pub recording_of : ℤ → ℕ
  pub vote_in : ℤ → Vote
  pub judge : Row → List Vote → Option MatchResult

-- the row of recording j
abbrev pub row_at : List ℕ → ℕ → Row
row_at rs j = record { rate = row_word rs j at_rate; rmax = row_word rs j at_rmax; set = row_word rs j at_set }

module _ {Vote : Type 0} (R : Reading Vote) where
  -- the words of recording j; its votes
  abbrev pub of_recording : ℕ → List ℤ → List ℤ
  of_recording j zs = keep (λ z. eqb (R.recording_of z) j) zs

  abbrev pub votes_of : ℕ → List ℤ → List Vote
  votes_of j zs = map R.vote_in (of_recording j zs)

  -- a recording with a vote is judged
  abbrev pub judged_by : Row → List Vote → Option MatchResult
  judged_by r [] = none
  judged_by r (v ∷ vs) = R.judge r (v ∷ vs)

  unfoldable pub candidate_in : List ℕ → List ℤ → ℕ → Option MatchResult
  candidate_in rs zs j = judged_by (row_at rs j) (votes_of j zs)

  -- the best of the recordings in the references
  abbrev pub best_in : List ℕ → List ℤ → Option (ℕ × MatchResult)
  best_in rs zs = best_below (get_or rs 0 0) (candidate_in rs zs)

  -- the answer, where the scratch has room for so many votes
  unfoldable pub answer_in : ℕ → List ℕ → List ℤ → Answer
  answer_in room rs zs = cond (ltb room (length zs)) (refused 8) (answer_of (best_in rs zs))

  -- the judge looks at the counts of votes alone, so their order does not matter
  abbrev pub Fair : Type 0
  Fair = (r : Row) (vs us : List Vote) → ((p : Vote → Bool) → count_if p vs ≡ count_if p us) → R.judge r vs ≡ R.judge r us

  -- the recording of word t
  abbrev pub recording_at : List ℤ → ℕ → ℕ
  recording_at s t = R.recording_of (get_or s t (pos 0))

  -- recordings ascend with the words
  abbrev pub Rising : Type 0
  Rising = (y z : ℤ) → le_z y z ≡ true → R.recording_of y ≤ R.recording_of z

-- the first v words are votes in ascending order, P holds of each, and there are w words of scratch a vote
pub record Votes (P : ℤ → Type 0) (w : ℕ) (s : List ℤ) (v : ℕ) : Type 0 where
  pub ascend : (i j : ℕ) → i < j → j < v → le_z (get_or s i (pos 0)) (get_or s j (pos 0)) ≡ true
  pub each : (t : ℕ) → t < v → P (get_or s t (pos 0))
  pub few : v ≤ 1000000
  pub room : w * v ≤ length s
