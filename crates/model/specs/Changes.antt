-- Worked examples of demand 3, for any scheme: what one call does to the answer of a query for a set. The table is one; an index gives the hashes
-- and the query (its specs/Examples.antt), and the answers are computed from the definitions, soundness and layout of the words included.
-- Definitions only. Assumes nothing.
use Rattle.std.specs.Prelude.{Bool, true, false, ◌&&◌, List, [], ◌∷◌, ◌++◌, ℕ, ◌+◌, ◌*◌, eqb, replicate}
use Rattle.std.proofs.Math.Option.{Option, none, some}
use Rattle.model.specs.Query.{Scheme, Query}
use Rattle.model.specs.Calls.{Answer, built, stored, removed, count, best, nothing, refused, Call, build, insert, remove, replace, query}
use Rattle.model.specs.Words.{Words, head_width, row_width}
use Rattle.model.specs.Run.{run}
use Rattle.model.specs.History.{leaves}

-- the best recording and its votes
abbrev pub best_and_votes : Answer → Option (ℕ × ℕ)
best_and_votes built = none
best_and_votes (stored id) = none
best_and_votes (removed b) = none
best_and_votes (count n) = none
best_and_votes (best id r) = some (id, r.votes)
best_and_votes nothing = none
best_and_votes (refused n) = none

abbrev pub same : Option (ℕ × ℕ) → Option (ℕ × ℕ) → Bool
same none none = true
same none (some b) = false
same (some a) none = false
same (some a) (some b) = eqb a.0 b.0 && eqb a.1 b.1

-- 62.5 frames a second
abbrev pub rate : ℕ
rate = 0x427A_0000

module _ (S : Scheme) where
  -- the words of three recordings' hashes, and a query for a set, at `rate`, that meets the first by both of its hashes, the second by one, the
  -- third by none. Both hashes of the first have other keys, the first hash's key being the second's too.
  pub record Material : Type 0 where
    pub both : List ℕ
    pub one : List ℕ
    pub other : List ℕ
    pub probe : ℕ → Query S

  pub data Example : Type 0 where
    -- after these calls; the next call; what the query for a set answers before it, and after it
    change : ℕ → List (Call S) → Call S → Option (ℕ × ℕ) → Option (ℕ × ℕ) → Example

  -- zeroed slices: R 3, P 6, K 2
  abbrev pub blank : Words
  blank = record { references = replicate (head_width + row_width * 3) 0; postings = replicate (6 * S.width) 0; stopped = replicate 2 0 }

  abbrev pub answer : Query S → List (Call S) → Option (ℕ × ℕ)
  answer q calls = best_and_votes (run S (leaves S (run S) blank calls) (query q)).0

  abbrev pub right : (ℕ → Query S) → Example → Bool
  right q (change set before x was is) = same (answer (q set) before) was && same (answer (q set) (before ++ x ∷ [])) is

  abbrev pub all : (ℕ → Query S) → List Example → Bool
  all q [] = true
  all q (e ∷ es) = right q e && all q es

  -- under set 1, the infants', and under set 2, the juniors'
  abbrev pub store : List ℕ → Call S
  store hashes = insert 100 rate 1 hashes

  abbrev pub store_junior : List ℕ → Call S
  store_junior hashes = insert 100 rate 2 hashes

  abbrev pub table : Material → List Example
  table t =
      let full = store t.both ∷ store t.both ∷ store t.both ∷ [] in
      -- a newcomer that wins: two votes against one
      change 0 (store t.one ∷ []) (store t.both) (some (0, 1)) (some (1, 2))
      -- one that loses
      ∷ change 0 (store t.both ∷ []) (store t.one) (some (0, 2)) (some (0, 2))
      -- one that ties and has the higher id: the old answer stays
      ∷ change 0 (store t.both ∷ []) (store t.both) (some (0, 2)) (some (0, 2))
      -- one that ties and has the lower id, since 0 was vacated: it is the answer
      ∷ change 0 (store t.other ∷ store t.both ∷ remove 0 ∷ []) (store t.both) (some (1, 2)) (some (0, 2))
      -- one without a vote
      ∷ change 0 (store t.both ∷ []) (store t.other) (some (0, 2)) (some (0, 2))
      -- the first of all
      ∷ change 0 [] (store t.one) none (some (0, 1))
      -- the removal of another recording, and of the one that was the answer
      ∷ change 0 (store t.both ∷ store t.one ∷ []) (remove 1) (some (0, 2)) (some (0, 2))
      ∷ change 0 (store t.both ∷ store t.one ∷ []) (remove 0) (some (0, 2)) (some (1, 1))
      -- an insert that stops the second's key, on which recording 0 holds a hash: the premise fails, and the old answer changes
      ∷ change 0 (store t.both ∷ []) (insert 1 rate 1 t.one) (some (0, 2)) (some (0, 1))
      -- an insert that is refused: no row is left
      ∷ change 0 (store t.both ∷ store t.both ∷ store t.one ∷ []) (store t.both) (some (0, 2)) (some (0, 2))
      -- a build, after which what was stored before is gone
      ∷ change 0 (store t.both ∷ []) (build 100 (t.one ++ t.both) (1 ∷ 2 ∷ []) (rate ∷ rate ∷ []) (1 ∷ 1 ∷ [])) (some (0, 2)) (some (1, 2))
      -- an infants' list that wins among all, and the juniors' answer, which it doesn't touch
      ∷ change 0 (store_junior t.one ∷ []) (store t.both) (some (0, 1)) (some (1, 2))
      ∷ change 2 (store_junior t.one ∷ []) (store t.both) (some (0, 1)) (some (0, 1))
      -- of a set that holds nothing there is no answer
      ∷ change 3 (store_junior t.one ∷ []) (store t.both) none none
      -- an insert elsewhere that stops a key on which this set holds a hash: the premise fails, and the answer changes
      ∷ change 2 (store_junior t.both ∷ []) (insert 1 rate 1 t.one) (some (0, 2)) (some (0, 1))
      -- one that stops a key which only the other set holds: the answer stays
      ∷ change 2 (store t.other ∷ store_junior t.both ∷ []) (insert 1 rate 1 t.other) (some (1, 2)) (some (1, 2))
      -- a corrected take of another recording that wins; one of the recording that was the answer, which loses it
      ∷ change 0 (store t.one ∷ store t.other ∷ []) (replace 1 100 rate t.both) (some (0, 1)) (some (1, 2))
      ∷ change 0 (store t.both ∷ store t.one ∷ []) (replace 0 100 rate t.other) (some (0, 2)) (some (1, 1))
      -- it keeps its set
      ∷ change 2 (store_junior t.other ∷ []) (replace 0 100 rate t.both) none (some (0, 2))
      ∷ change 1 (store_junior t.other ∷ []) (replace 0 100 rate t.both) none none
      -- the old take isn't counted against the limit; another recording's hash is, and the key is stopped
      ∷ change 0 (store t.both ∷ []) (replace 0 1 rate t.both) (some (0, 2)) (some (0, 2))
      ∷ change 0 (store t.both ∷ store t.one ∷ []) (replace 1 1 rate t.one) (some (0, 2)) (some (0, 1))
      -- a key that the old take filled stays stopped
      ∷ change 0 (insert 0 rate 1 t.one ∷ []) (replace 0 100 rate t.one) none none
      -- all six postings are in use, and no row is free: the old take makes room for its like, and one of three hashes is refused
      ∷ change 0 full (replace 2 100 rate (t.other ++ t.one)) (some (0, 2)) (some (0, 2))
      ∷ change 0 full (replace 0 100 rate (t.one ++ t.other)) (some (0, 2)) (some (1, 2))
      ∷ change 0 full (replace 0 100 rate (t.both ++ t.one)) (some (0, 2)) (some (0, 2))
      -- an id that isn't live is refused, and nothing is stored
      ∷ change 0 (store t.one ∷ []) (replace 1 100 rate t.both) (some (0, 1)) (some (0, 1))
      -- a set of 0, and one above 255, are refused, and nothing is stored
      ∷ change 0 (store t.one ∷ []) (insert 100 rate 0 t.both) (some (0, 1)) (some (0, 1))
      ∷ change 0 (store t.one ∷ []) (insert 100 rate 256 t.both) (some (0, 1)) (some (0, 1))
      ∷ []

  abbrev pub all_right : Material → Bool
  all_right t = all t.probe (table t)
