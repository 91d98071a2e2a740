-- A candidate's votes as they stand in the scratch, sorted, and what the code that judges it asks. Assumes nothing: these are definitions.
use Rattle.std.specs.Prelude.{◌≡◌, true, List, map, ℕ, ◌+◌, ◌*◌, ◌≤◌, ◌<◌, ℤ, length, take, drop}
use Rattle.bins.specs.Codes.{code_in, id_in, Group}
use Rattle.bins.specs.declared.Form.{Form}
use Rattle.panako_vote.specs.declared.Vote.{Vote}
use Rattle.panako_vote.specs.Words.{vote_of_code, lowest}
use Rattle.panako_judge.specs.Judge.{hough_bins, bin_count}
use Rattle.panako_judge.specs.declared.PanakoQuery.{PanakoQuery}

-- a vote's word counts from −2^63 and is an id above 52 bits of code
abbrev pub panako_form : Form
panako_form = record { low = lowest; bits = 0; size = 52; scaled = true }

-- the id and the vote of a word
abbrev pub recording_of : ℤ → ℕ
recording_of z = id_in panako_form z

abbrev pub vote_in : ℤ → Vote
vote_in z = vote_of_code (code_in panako_form z)

-- those of the g words from a on
abbrev pub votes_in : List ℤ → ℕ → ℕ → List Vote
votes_in s a g = map vote_in (take g (drop a s))

-- ---- a candidate

-- they are one recording's, in order, with room for their bins and sums from word `at` on; there are some, and the limits of document 01 are kept: 1,000,000 votes, tolerance 65,535
pub record Candidate (s : List ℤ) (a g at : ℕ) (q : PanakoQuery) : Type 0 where
  pub some : 0 < g
  pub few : g ≤ 1000000
  pub tolerance : q.cfg.offset_tolerance_frames ≤ 65535
  pub group : Group panako_form s a g at
  pub room : at + 4 * g ≤ length s

-- the n bins of the first g votes stand from word `at` on, behind the votes, with room for their sums
pub record Binned (s : List ℤ) (g at n : ℕ) : Type 0 where
  pub before : g ≤ at
  pub room : at + 4 * n ≤ length s
  pub number : n ≡ bin_count (votes_in s 0 g)
  pub bins : take (3 * n) (drop at s) ≡ hough_bins (votes_in s 0 g)
