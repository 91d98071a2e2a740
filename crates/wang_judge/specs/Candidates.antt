-- A candidate's votes as they stand in the scratch, sorted, and what the code that judges it asks. Assumes nothing: these are definitions.
use Rattle.std.specs.Prelude.{List, map, ℕ, ◌+◌, ◌*◌, ◌≤◌, ◌<◌, ℤ, pos, neg_ℤ, ◌+ℤ◌, length, take, drop}
use Rattle.bins.specs.Votes.{wang_form, place_of, position_of, places}
use Rattle.bins.specs.Codes.{Group}
use Rattle.bins.specs.Binned.{Binned}
use Rattle.wang_judge.specs.Judge.{Vote, Counts, Seen, seen_of}
use Rattle.wang_judge.specs.Scheme.{counts_of}
use Rattle.wang_judge.specs.declared.WangQuery.{WangQuery}

-- the vote of a word: its place counts from −top, the low end of the span
abbrev pub vote_in : ℕ → ℤ → Vote
vote_in top z = record { delta = neg_ℤ (pos top) +ℤ pos (place_of z); position = position_of z }

-- those of the g words from a on
abbrev pub votes_in : ℕ → List ℤ → ℕ → ℕ → List Vote
votes_in top s a g = map (vote_in top) (take g (drop a s))

unfoldable pub counts_in : ℕ → List ℤ → ℕ → ℕ → Counts
counts_in top s a g = counts_of (votes_in top s a g)

-- what is seen of them
abbrev pub seen_in : WangQuery → ℕ → List ℤ → ℕ → ℕ → Seen
seen_in q rmax s a g = seen_of q rmax (counts_in q.q_max s a g)

-- g votes from word a on, within the limits of document 01: 1,000,000 votes, tolerance 65,535, 2,048 query hashes; and
-- "a Wang posting's anchor is at most its row's r_max"
pub record Limited (s : List ℤ) (a g : ℕ) (q : WangQuery) (rmax : ℕ) : Type 0 where
  pub some : 0 < g
  pub few : g ≤ 1000000
  pub spanned : (t : ℕ) → t < g → places s a t ≤ q.q_max + rmax
  pub tolerance : q.cfg.offset_tolerance_frames ≤ 65535
  pub short : q.q_len ≤ 2048

-- they are one candidate's, in order, and from word `at` on there is room for its bins
pub record Candidate (s : List ℤ) (a g at : ℕ) (q : WangQuery) (rmax : ℕ) : Type 0 where
  pub limited : Limited s a g q rmax
  pub group : Group wang_form s a g at

-- its n bins are there
pub record Counted (s : List ℤ) (a g at n : ℕ) (q : WangQuery) (rmax : ℕ) : Type 0 where
  pub limited : Limited s a g q rmax
  pub before : a + g ≤ at
  pub room : at + 2 * g ≤ length s
  pub bins : Binned (places s a) g (neg_ℤ (pos q.q_max)) (drop at s) n
