-- The candidates of a Panako query: how its words are read, and what the code asks of them. Definitions only. Assumes nothing.
use Rattle.std.specs.Prelude.{◌≡◌, List, ℕ, ◌+◌, ◌*◌, ◌≤◌, ◌<◌, ℤ, pos, length, get_or}
use Rattle.std.proofs.Math.Option.{Option}
use Rattle.lists.specs.Entries.{entries}
use Rattle.matching.specs.declared.MatchResult.{MatchResult}
use Rattle.model.specs.Calls.{Answer}
use Rattle.model.specs.Words.{head_width, row_width}
use Rattle.panako_vote.specs.Grids.{grid_of}
use Rattle.main_votes.specs.Main.{main_of}
use Rattle.query_search.specs.Voting.{voting}
use Rattle.query_laws.specs.Candidates as of-reading
use Rattle.panako_judge.specs.declared.PanakoQuery.{PanakoQuery}
use Rattle.panako_vote.specs.declared.Vote.{Vote}
use Rattle.panako_vote.specs.Words.{lowest}
use Rattle.panako_judge.specs.Judge.{judge_by}
use Rattle.panako_judge.specs.Candidates.{recording_of, vote_in, Binned}
use Rattle.panako_votes.specs.Gathered.{words, Packable}

-- how the word of a vote is read, and a recording judged
abbrev pub reading : PanakoQuery → of-reading.Reading Vote
reading q = record { recording_of = recording_of; vote_in = vote_in; judge = λ r vs. judge_by q r.rate vs }

-- the best of the recordings in the references, by the words zs
abbrev pub best_in : PanakoQuery → List ℕ → List ℤ → Option (ℕ × MatchResult)
best_in q rs zs = of-reading.best_in (reading q) rs zs

-- the postings in use, and those that vote; the query's hashes; the words of its votes in the order in which they are gathered
abbrev pub held_in : List ℕ → List ℕ → List (List ℕ)
held_in rs ps = entries 5 (get_or rs 2 0) ps

abbrev pub postings_in : ℕ → List ℕ → List ℕ → List (List ℕ)
postings_in v rs ps = voting v rs (held_in rs ps)

abbrev pub hashes_in : PanakoQuery → List ℕ → List (List ℕ)
hashes_in q hs = entries 4 q.q_len hs

abbrev pub words_in : ℕ → PanakoQuery → List ℕ → List ℕ → List ℕ → List ℤ
words_in v q rs ps hs = words (grid_of q.cfg) (postings_in v rs ps) (hashes_in q hs)

-- the answer, where the scratch has room for so many votes
abbrev pub answer_in : ℕ → PanakoQuery → ℕ → List ℕ → List ℕ → List ℕ → Answer
answer_in v q room rs ps hs = of-reading.answer_in (reading q) room rs (words_in v q rs ps hs)

-- the words that decide the best: "Too few votes against min_votes: no candidate", so fewer than that beside those of the first one's recording are left out
abbrev pub main_in : PanakoQuery → List ℤ → List ℤ
main_in q zs = main_of lowest 52 q.cfg.min_votes zs

-- ---- what the code asks

-- the references have the rows that they count; "Tolerance at most 65,535"
pub record Limits (rs : List ℕ) (q : PanakoQuery) : Type 0 where
  pub rows : head_width + row_width * get_or rs 0 0 ≤ length rs
  pub many : get_or rs 0 0 ≤ 4096
  pub tolerance : q.cfg.offset_tolerance_frames ≤ 65535

-- a vote is of a recording in the references
abbrev pub Known : List ℕ → ℤ → Type 0
Known rs z = recording_of z < get_or rs 0 0

-- the first v words are votes in ascending order; there are as many words for the sort, and four times as many for bins and their sums
pub record Votes (rs : List ℕ) (s : List ℤ) (v : ℕ) (q : PanakoQuery) : Type 0 where
  pub limits : Limits rs q
  pub words : of-reading.Votes (Known rs) 6 s v

-- the first v words are votes of one recording
pub record OneRecording (s : List ℤ) (v : ℕ) : Type 0 where
  pub some : 0 < v
  pub one : (t : ℕ) → t < v → recording_of (get_or s t (pos 0)) ≡ recording_of (get_or s 0 (pos 0))

-- and their n bins stand from word 2 * v on
pub record Alike (s : List ℤ) (v n : ℕ) : Type 0 where
  pub votes : OneRecording s v
  pub binned : Binned s v (2 * v) n

-- postings and query hashes whose votes can be gathered
pub record Posted (rs ps hs : List ℕ) (q : PanakoQuery) : Type 0 where
  pub limits : Limits rs q
  pub packable : Packable rs ps (get_or rs 2 0) hs q.q_len (grid_of q.cfg)
