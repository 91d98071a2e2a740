-- What the content of a sound store is like. w is the width of a posting, z the room that there is. That live words are 1 or 0, what a
-- dead row's words are and that unused words are zero is a matter of the words alone (Soundness). Definitions only. Assumes nothing.
use Rattle.std.specs.Prelude.{◌≡◌, Bool, true, false, not, ℕ, ◌≤◌, ◌<◌, ◌+◌, length, get_or}
use Rattle.std.proofs.Math.Option.{Option, none, some}
use Rattle.lists.specs.Lists.{keep, All}
use Rattle.lists.specs.Keys.{Sorted, Ascending}
use Rattle.model.specs.Fingerprints.{Hash}
use Rattle.model.specs.Rows.{Row, row_sound, hash_sound}
use Rattle.model.specs.Index.{Index, key_of, is_live, is_stopped}
use Rattle.model.specs.Calls.{Sizes, Store, unlisted, unsound, holds}

abbrev pub is_dead : Option Row → Bool
is_dead o = not (is_live o)

abbrev pub good_row : ℕ → Option Row → Bool
good_row w none = true
good_row w (some r) = row_sound w r

-- "posting ids are live", and the row may hold the hash
abbrev pub good_hash : ℕ → Option Row → Hash → Bool
good_hash w none h = false
good_hash w (some r) h = hash_sound w r h

pub record Sound (w : ℕ) (z : Sizes) (x : Index) : Type 0 where
  -- "n, v, p, k are within R, n, P, K" (v, since there are v dead ids among n)
  pub rows_fit : length x.rows ≤ z.R
  pub postings-fit : length x.postings ≤ z.P
  pub stopped-fit : length x.stopped ≤ z.K
  -- "a live NaN rate is stored as that word"; "Panako r_max is 0"; "its live rows 1 to 255"
  pub rows-good : All (λ o. good_row w o ≡ true) x.rows
  -- "the first n rows hold v dead ids and the first v vacant entries name each once"
  pub as_many : length (keep is_dead x.rows) ≡ length x.vacant
  pub within : (i : ℕ) → i < length x.vacant → get_or x.vacant i 0 < length x.rows
  pub dead : (i : ℕ) → i < length x.vacant → get_or x.rows (get_or x.vacant i 0) none ≡ none
  pub once : (i j : ℕ) → i < length x.vacant → j < length x.vacant → get_or x.vacant i 0 ≡ get_or x.vacant j 0 → i ≡ j
  -- "posting keys and stopped keys ascend as said"
  pub sorted : Sorted key_of x.postings
  pub ascending : Ascending (λ k. k) x.stopped
  -- a posting has w words: key, id and its times
  pub wide : All (λ p. 2 + length p.hash.times ≡ w) x.postings
  -- "posting ids are live"; "a Wang posting's anchor is at most its row's r_max"
  pub postings-good : All (λ p. good_hash w (get_or x.rows p.id none) p.hash ≡ true) x.postings
  -- "no posting has a stopped key"
  pub unstopped : All (λ p. is_stopped x (key_of p) ≡ false) x.postings

abbrev pub SoundStore : ℕ → Sizes → Store → Type 0
SoundStore w z unlisted = Unit {0}
SoundStore w z unsound = Unit {0}
SoundStore w z (holds x) = Sound w z x
