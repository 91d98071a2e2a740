-- Request One: "Recordings of other sets can't alter its answer". Definitions only. Assumes nothing.
use Rattle.std.specs.Prelude.{◌≡◌, true, false, List, [], ◌∷◌, ◌++◌, ℕ, get_or}
use Rattle.std.proofs.Math.Option.{none}
use Rattle.lists.specs.Keys.{has_key}
use Rattle.model.specs.Rows.{in_set}
use Rattle.model.specs.Index.{Index, key_of, of_id, is_live}
use Rattle.model.specs.Query.{Scheme, Query, Catalog, catalog, asked, voting}
use Rattle.model.specs.Calls.{holds, Call, insert, query, stored}
use Rattle.model.specs.Words.{Words}
use Rattle.model.specs.Run.{store_of, run}
use Rattle.model.specs.History.{leaves, history}
use Rattle.model.specs.Claim.{Accepted, at_first}

-- ── "two sound stores with the same rows, ids and postings in the asked set answer it alike" ──

-- "the same rows, ids and postings in the asked set": under each id the same row, if it is of the set, and the same postings of its recordings.
-- Set 0 has them all.
pub record AlikeIn (set : ℕ) (x y : Index) : Type 0 where
  pub rows : (j : ℕ) → asked set (get_or x.rows j none) ≡ asked set (get_or y.rows j none)
  pub postings : voting set (catalog x) ≡ voting set (catalog y)

-- Two stores may have slices of other lengths, and other rows, vacant ids, postings and stopped keys beside the set's. The answer, a refusal
-- among them, is the same.
abbrev pub AnswersAlike : Scheme → Type 0
AnswersAlike S =
    (m l : Words) (x y : Index) → store_of S.width m ≡ holds x → store_of S.width l ≡ holds y
    → (q : Query S) → AlikeIn q.set x y → (run S m (query q)).0 ≡ (run S l (query q)).0

-- ── and over a list of calls ──

module _ (S : Scheme) (m : Words) where
  -- the words that the calls leave, and the catalog after them
  abbrev pub words_after : List (Call S) → Words
  words_after calls = leaves S (run S) m calls

  abbrev pub catalog_after : List (Call S) → Catalog
  catalog_after calls = history S (run S) (at_first S m) m calls

-- no hash that a recording of the set holds, by catalog c, is on a key that is stopped by catalog d
abbrev pub KeysOpen : ℕ → Catalog → Catalog → Type 0
KeysOpen set c d = (j k : ℕ) → is_live (asked set (c.live j)) ≡ true → has_key key_of k (of_id j c.held) ≡ true → d.stopped k ≡ false

-- A recording is stored under a set that a query doesn't ask for. "Stopped keys are shared, so inserting elsewhere may stop a key and take this
-- set's postings with it": if it stops none that the query's set holds, the query's answer stays. This follows from the claim alone.
abbrev pub Elsewhere : Scheme → Type 0
Elsewhere S =
    (m : Words) (before : List (Call S)) (limit rate set : ℕ) (words : List ℕ) (id : ℕ) (q : Query S)
    → let after = before ++ insert limit rate set words ∷ [] in
    (run S (words_after S m before) (insert limit rate set words)).0 ≡ stored id → in_set q.set set ≡ false
    → KeysOpen q.set (catalog_after S m before) (catalog_after S m after)
    → Accepted (run S (words_after S m before) (query q)).0 → Accepted (run S (words_after S m after) (query q)).0
    → (run S (words_after S m after) (query q)).0 ≡ (run S (words_after S m before) (query q)).0
