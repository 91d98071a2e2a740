-- The votes of a Wang query as words. A query hash is an entry of two words, key and anchor; a posting one of three, key, id and anchor.
-- Definitions only. Assumes nothing.
use Rattle.std.specs.Prelude.{List, [], ◌∷◌, ℕ, ◌+◌, ◌-◌, ◌*◌, ◌^◌, ◌≤◌, ◌<◌, ℤ, pos, get_or}
use Rattle.lists.specs.Entries.{entries}
use Rattle.bins.specs.Votes.{packed}
use Rattle.query_search.specs.Starts.{Sought}
use Rattle.query_search.specs.Gathered.{words_by, Pairing, words_from, Ids}
use Rattle.query_search.specs.Voting.{Rowed}

-- the vote of posting e with the query hash at position q, whose anchor is `shift` below the largest query anchor: the place counts
-- from the low end of the span
abbrev pub vote_word : ℕ → ℕ → List ℕ → ℕ
vote_word shift q e = packed (get_or e 1 0) (get_or e 2 0 + shift) q

abbrev pub word_with : ℕ → ℕ → List ℕ → List ℤ
word_with shift q e = pos (vote_word shift q e) ∷ []

-- of the query hash h at position i; `top` is the largest query anchor
abbrev pub pair_word : ℕ → Pairing
pair_word top i h e = word_with (top - get_or h 1 0) i e

-- those of the query hashes hs with the postings es
abbrev pub words : ℕ → List (List ℕ) → List (List ℕ) → List ℤ
words top es hs = words_from (pair_word top) 0 es hs

-- those of one query hash with the postings es
abbrev pub words_on : ℕ → ℕ → List (List ℕ) → List ℤ
words_on shift q es = words_by (word_with shift q) es

-- what the gathering asks: each part of a vote has its bits, and each recording a row in the references rs
pub record Packable (rs ps : List ℕ) (p : ℕ) (hs : List ℕ) (m top : ℕ) : Type 0 where
  pub walk : Sought ps 3 p hs 2 m
  pub ids : Ids (entries 3 p ps)
  pub rowed : Rowed rs ps 3 p
  pub high : top < 2 ^ 32
  pub below : (i : ℕ) → i < m → get_or hs (2 * i + 1) 0 ≤ top
