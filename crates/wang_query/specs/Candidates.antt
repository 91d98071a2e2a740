-- The candidates of a Wang query: how its words are read, and what the code asks of them. Definitions only. Assumes nothing.
use Rattle.std.specs.Prelude.{List, ℕ, ◌+◌, ◌*◌, ◌≤◌, ◌<◌, ℤ, length, get_or}
use Rattle.std.proofs.Math.Option.{Option}
use Rattle.lists.specs.Lists.{All}
use Rattle.lists.specs.Entries.{entries}
use Rattle.bins.specs.Votes.{recording_of, place_of}
use Rattle.matching.specs.declared.MatchResult.{MatchResult}
use Rattle.model.specs.Calls.{Answer}
use Rattle.model.specs.Soundness.{row_word}
use Rattle.model.specs.Words.{head_width, row_width, at_rmax}
use Rattle.query_search.specs.Voting.{voting}
use Rattle.query_laws.specs.Candidates as of-reading
use Rattle.wang_judge.specs.declared.WangQuery.{WangQuery}
use Rattle.wang_judge.specs.Judge.{Vote, judge_by}
use Rattle.wang_judge.specs.Scheme.{counts_of}
use Rattle.wang_judge.specs.Candidates.{vote_in}
use Rattle.wang_votes.specs.Gathered.{words, Packable}

-- how the word of a vote is read, and a recording judged
abbrev pub reading : WangQuery → of-reading.Reading Vote
reading q = record { recording_of = recording_of; vote_in = vote_in q.q_max; judge = λ r vs. judge_by q r.rate r.rmax (counts_of vs) }

-- the best of the recordings in the references, by the words zs
abbrev pub best_in : WangQuery → List ℕ → List ℤ → Option (ℕ × MatchResult)
best_in q rs zs = of-reading.best_in (reading q) rs zs

-- the postings in use, and those that vote; the query's hashes; the words of its votes in the order in which they are gathered
abbrev pub held_in : List ℕ → List ℕ → List (List ℕ)
held_in rs ps = entries 3 (get_or rs 2 0) ps

abbrev pub postings_in : ℕ → List ℕ → List ℕ → List (List ℕ)
postings_in v rs ps = voting v rs (held_in rs ps)

abbrev pub hashes_in : WangQuery → List ℕ → List (List ℕ)
hashes_in q hs = entries 2 q.q_len hs

abbrev pub words_in : ℕ → WangQuery → List ℕ → List ℕ → List ℕ → List ℤ
words_in v q rs ps hs = words q.q_max (postings_in v rs ps) (hashes_in q hs)

-- the answer, where the scratch has room for so many votes
abbrev pub answer_in : ℕ → WangQuery → ℕ → List ℕ → List ℕ → List ℕ → Answer
answer_in v q room rs ps hs = of-reading.answer_in (reading q) room rs (words_in v q rs ps hs)

-- ---- what the code asks

-- the references have the rows that they count; "Tolerance at most 65,535", "query 0 to 2,048" hashes
pub record Limits (rs : List ℕ) (q : WangQuery) : Type 0 where
  pub rows : head_width + row_width * get_or rs 0 0 ≤ length rs
  pub many : get_or rs 0 0 ≤ 4096
  pub tolerance : q.cfg.offset_tolerance_frames ≤ 65535
  pub short : q.q_len ≤ 2048

-- a vote is of a recording in the references, and lies in its span
pub record Spanned (rs : List ℕ) (top : ℕ) (z : ℤ) : Type 0 where
  pub known : recording_of z < get_or rs 0 0
  pub near : place_of z ≤ top + row_word rs (recording_of z) at_rmax

-- the first v words are votes in ascending order; there are as many words for the sort, and twice as many for bins
pub record Votes (rs : List ℕ) (s : List ℤ) (v : ℕ) (q : WangQuery) : Type 0 where
  pub limits : Limits rs q
  pub words : of-reading.Votes (Spanned rs q.q_max) 4 s v

-- a posting is of a recording in the references, and "a Wang posting's anchor is at most its row's r_max"
abbrev pub Held : List ℕ → List ℕ → Type 0
Held rs e = (get_or e 1 0 < get_or rs 0 0) × (get_or e 2 0 ≤ row_word rs (get_or e 1 0) at_rmax)

-- postings and query hashes whose votes can be gathered
pub record Posted (rs ps hs : List ℕ) (q : WangQuery) : Type 0 where
  pub limits : Limits rs q
  pub packable : Packable rs ps (get_or rs 2 0) hs q.q_len q.q_max
  pub held : All (Held rs) (held_in rs ps)
