-- The index on plain lists: its parts, and what an accepted insert, build or remove leaves. Definitions only. Assumes nothing.
use Rattle.std.specs.Prelude.{Bool, true, false, cond, not, ◌&&◌, List, [], ◌∷◌, ◌++◌, map, ℕ, suc, ◌-◌, length, get_or, take, set, eqb, ltb}
use Rattle.std.proofs.Math.Option.{Option, none, some}
use Rattle.lists.specs.Lists.{keep, member, insert_key}
use Rattle.lists.specs.Keys.{under, has_key, place_all}
use Rattle.model.specs.Fingerprints.{Hash, Fingerprint}
use Rattle.model.specs.Rows.{Row, row_of}

-- a hash that recording `id` holds
pub record Posting : Type 0 where
  pub id : ℕ
  pub hash : Hash

-- What a sound store holds. Row j is that of id j, `none` where the id is dead. The vacant ids stand in order of vacating.
-- The postings stand by key, "within a key, arrival order". The stopped keys ascend.
pub record Index : Type 0 where
  pub rows : List (Option Row)
  pub vacant : List ℕ
  pub postings : List Posting
  pub stopped : List ℕ

abbrev pub empty : Index
empty = record { rows = []; vacant = []; postings = []; stopped = [] }

abbrev pub key_of : Posting → ℕ
key_of p = p.hash.key

-- the postings of one recording
abbrev pub of_id : ℕ → List Posting → List Posting
of_id j ps = keep (λ p. eqb p.id j) ps

-- those of the others
abbrev pub without_id : ℕ → List Posting → List Posting
without_id j ps = keep (λ p. not (eqb p.id j)) ps

-- ── new hashes ──

-- a fingerprint's hashes as postings of recording id
abbrev pub posted : ℕ → List Hash → List Posting
posted id hs = map (λ h. record { id = id; hash = h }) hs

-- those of recordings i, i + 1, ..: "Ids follow order"
unfoldable pub numbered : ℕ → List Fingerprint → List Posting
numbered i [] = []
numbered i (f ∷ fs) = posted i f.hashes ++ numbered (suc i) fs

-- "Hashes on stopped keys are skipped"
abbrev pub unskipped : (ℕ → Bool) → List Posting → List Posting
unskipped stopped new = keep (λ p. not (stopped (key_of p))) new

-- "every key of this fingerprint with more postings than the call's limit": of the keys of `new`, counted among `all`
unfoldable pub exceeds : ℕ → List Posting → List Posting → ℕ → Bool
exceeds limit new all k = has_key key_of k new && ltb limit (length (under key_of k all))

-- "loses all of them": the postings whose key is not among those
abbrev pub without_keys : (ℕ → Bool) → List Posting → List Posting
without_keys over ps = keep (λ p. not (over (key_of p))) ps

-- "and is stopped"
unfoldable pub stop_keys : (ℕ → Bool) → List Posting → List ℕ → List ℕ
stop_keys over [] stopped = stopped
stop_keys over (p ∷ new) stopped = stop_keys over new (cond (over (key_of p)) (insert_key (key_of p) stopped) stopped)

-- The same of an index, for insert and build alike: the hashes that are not skipped; "the others are appended", each under its key;
-- "Then every key .. with more postings than the call's limit loses all of them and is stopped."
abbrev pub is_stopped : Index → ℕ → Bool
is_stopped x k = member k x.stopped

abbrev pub placed : Index → List Posting → List Posting
placed x new = place_all key_of (unskipped (is_stopped x) new) x.postings

abbrev pub postings_after : ℕ → Index → List Posting → List Posting
postings_after limit x new = without_keys (exceeds limit new (placed x new)) (placed x new)

abbrev pub stopped_after : ℕ → Index → List Posting → List ℕ
stopped_after limit x new = stop_keys (exceeds limit new (placed x new)) new x.stopped

-- ── ids and rows ──

abbrev pub is_live : Option Row → Bool
is_live none = false
is_live (some r) = true

-- "A new id is the last one vacated, else n", n being the number of rows. So where 0 and then 2 of the ids 0, 1, 2 were vacated, the
-- next three get 2, 0 and 3.
abbrev pub next_id : List ℕ → ℕ → ℕ
next_id vacant n = cond (eqb (length vacant) 0) n (get_or vacant (length vacant - 1) 0)

abbrev pub new_id : Index → ℕ
new_id x = next_id x.vacant (length x.rows)

-- the vacant ids without the last
abbrev pub popped : List ℕ → List ℕ
popped vacant = take (length vacant - 1) vacant

abbrev pub put_row : List (Option Row) → ℕ → Row → List (Option Row)
put_row rows id r = cond (eqb id (length rows)) (rows ++ some r ∷ []) (set rows id (some r))

-- ── what an accepted call leaves ──

unfoldable pub inserted : ℕ → ℕ → Fingerprint → Index → Index
inserted w limit f x = record {
  rows = put_row x.rows (new_id x) (row_of w f);
  vacant = popped x.vacant;
  postings = postings_after limit x (posted (new_id x) f.hashes);
  stopped = stopped_after limit x (posted (new_id x) f.hashes);
}

-- "Ids follow order; keys are counted over all references, then stopped."
unfoldable pub built_from : ℕ → ℕ → List Fingerprint → Index
built_from w limit fs = record {
  rows = map (λ f. some (row_of w f)) fs;
  vacant = [];
  postings = postings_after limit empty (numbered 0 fs);
  stopped = stopped_after limit empty (numbered 0 fs);
}

-- "its postings go and the id is vacated: it becomes the last of the vacant entries, which stand in order of vacating.
-- Stopped keys stay stopped."
unfoldable pub erased : ℕ → Index → Index
erased id x = record {
  rows = set x.rows id none;
  vacant = x.vacant ++ id ∷ [];
  postings = without_id id x.postings;
  stopped = x.stopped;
}
