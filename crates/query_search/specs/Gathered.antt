-- The words of a query's votes in the order in which they are gathered (document 01: "For each query hash, the part of the postings under
-- its key is handed on"). Hashes and postings are entries of words, the key first. Definitions only. Assumes nothing.
use Rattle.std.specs.Prelude.{ℕ, suc, ◌^◌, ◌<◌, List, [], ◌∷◌, ◌++◌, map, ℤ, slice_index}
use Rattle.lists.specs.Lists.{All, flat}
use Rattle.lists.specs.Keys.{under}
use Rattle.lists.specs.Entries.{key_of}

-- the postings under the key of query hash h
abbrev pub found : List (List ℕ) → List ℕ → List (List ℕ)
found es h = under key_of (key_of h) es

-- the words that f gives with each of the postings es, in their order
unfoldable pub words_by : (List ℕ → List ℤ) → List (List ℕ) → List ℤ
words_by f es = flat (map f es)

-- pair i h e has the words of the votes, none or one, of the query hash h at position i and the posting e
abbrev pub Pairing : Type 0
Pairing = ℕ → List ℕ → List ℕ → List ℤ

module _ (pair : Pairing) where
  -- those of one query hash
  abbrev pub words_of : ℕ → List (List ℕ) → List ℕ → List ℤ
  words_of i es h = words_by (pair i h) (found es h)

  -- and of all, the first being at position i
  unfoldable pub words_from : ℕ → List (List ℕ) → List (List ℕ) → List ℤ
  words_from i es [] = []
  words_from i es (h ∷ hs) = words_of i es h ++ words_from (suc i) es hs

-- ---- what the code asks

-- an id is of 12 bits
abbrev pub Ids : List (List ℕ) → Type 0
Ids es = All (λ e. slice_index e 1 < 2 ^ 12) es
