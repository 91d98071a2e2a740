-- The votes of a Panako query as words. A query hash is an entry of four words, key, t_anchor, t_b and t_c; a posting one of five, its
-- second word the id. Definitions only. Assumes nothing.
use Rattle.std.specs.Prelude.{List, map, ℕ, ℤ, length, get_or}
use Rattle.lists.specs.Entries.{entries}
use Rattle.query_search.specs.Starts.{Sought}
use Rattle.panako_vote.specs.Grids.{Limited}
use Rattle.panako_vote.specs.Votes.{vote_on}
use Rattle.panako_vote.specs.declared.ScaleGrid.{ScaleGrid}
use Rattle.query_search.specs.Gathered.{words_by, Pairing, words_from, Ids}
use Rattle.query_search.specs.Voting.{Rowed}
use Rattle.panako_vote.specs.declared.Vote.{Vote}
use Rattle.panako_vote.specs.Words.{as_list, word_of}

-- the votes, none or one, of a query hash with t_anchor qa and t_c qc and the posting e; their words
abbrev pub votes_with : ScaleGrid → ℕ → ℕ → List ℕ → List Vote
votes_with g qa qc e = as_list (vote_on g qa qc (get_or e 2 0) (get_or e 4 0))

abbrev pub words_with : ScaleGrid → ℕ → ℕ → List ℕ → List ℤ
words_with g qa qc e = map (word_of (get_or e 1 0)) (votes_with g qa qc e)

abbrev pub pair_words : ScaleGrid → Pairing
pair_words g i h e = words_with g (get_or h 1 0) (get_or h 3 0) e

-- those of the query hashes hs with the postings es, and how many: "Only votes are counted against the scratch."
abbrev pub words : ScaleGrid → List (List ℕ) → List (List ℕ) → List ℤ
words g es hs = words_from (pair_words g) 0 es hs

abbrev pub vote_count : ScaleGrid → List (List ℕ) → List (List ℕ) → ℕ
vote_count g es hs = length (words g es hs)

-- those of one query hash with the postings es
abbrev pub words_on : ScaleGrid → ℕ → ℕ → List (List ℕ) → List ℤ
words_on g qa qc es = words_by (words_with g qa qc) es

-- what the gathering asks: each part of a vote has its bits, and each recording a row in the references rs
pub record Packable (rs ps : List ℕ) (p : ℕ) (hs : List ℕ) (m : ℕ) (g : ScaleGrid) : Type 0 where
  pub walk : Sought ps 5 p hs 4 m
  pub ids : Ids (entries 5 p ps)
  pub rowed : Rowed rs ps 5 p
  pub grid : Limited g
