-- The calls seen from outside. "A sound store handed in says what is live, vacant, held and stopped at first; then the calls do: a
-- recording is live from the accepted call that stored it until its removal or a later accepted `build`; it holds its hashes that
-- weren't skipped until a call stops their key." So a catalog is made from the store handed in, and then from the calls and their
-- answers alone: the store is not looked at again. Definitions only. Assumes nothing.
use Rattle.std.specs.Prelude.{Bool, true, false, cond, ◌||◌, List, [], ◌∷◌, ◌++◌, map, ℕ, suc, ◌-◌, max, length, get_or, eqb}
use Rattle.std.proofs.Math.Option.{Option, none, some}
use Rattle.model.specs.Fingerprints.{Fingerprint, fingerprint_of, fingerprints_of}
use Rattle.model.specs.Rows.{row_of}
use Rattle.model.specs.Index.{Posting, empty, posted, numbered, unskipped, exceeds, without_keys, without_id, popped, next_id, is_live}
use Rattle.model.specs.Query.{Scheme, Catalog, catalog, best_of}
use Rattle.model.specs.Calls.{Call, build, insert, remove, replace, live_count, query, Answer, built, stored, removed, count, best, nothing, refused, set_of, answer_of}

-- ── what an accepted call does to a catalog ──

-- hashes arrive behind those that are held, skipped ones aside; then each key of theirs that has more than the limit is stopped, and
-- nobody holds a hash on it
abbrev pub arrived : Catalog → List Posting → List Posting
arrived c new = c.held ++ unskipped c.stopped new

abbrev pub held_after : ℕ → Catalog → List Posting → List Posting
held_after limit c new = without_keys (exceeds limit new (arrived c new)) (arrived c new)

abbrev pub stops_after : ℕ → Catalog → List Posting → ℕ → Bool
stops_after limit c new k = c.stopped k || exceeds limit new (arrived c new) k

-- a recording is stored as id
unfoldable pub with_recording : ℕ → ℕ → Fingerprint → ℕ → Catalog → Catalog
with_recording w limit f id c = record {
  size = max c.size (suc id);
  live = λ j. cond (eqb j id) (some (row_of w f)) (c.live j);
  vacant = popped c.vacant;
  held = held_after limit c (posted id f.hashes);
  stopped = stops_after limit c (posted id f.hashes);
}

-- a recording is removed
unfoldable pub without_recording : ℕ → Catalog → Catalog
without_recording id c = record {
  size = c.size;
  live = λ j. cond (eqb j id) none (c.live j);
  vacant = c.vacant ++ id ∷ [];
  held = without_id id c.held;
  stopped = c.stopped;
}

-- a build starts anew
unfoldable pub from_build : ℕ → ℕ → List Fingerprint → Catalog
from_build w limit fs = record {
  size = length fs;
  live = λ j. get_or (map (λ f. some (row_of w f)) fs) j none;
  vacant = [];
  held = held_after limit (catalog empty) (numbered 0 fs);
  stopped = stops_after limit (catalog empty) (numbered 0 fs);
}

-- ── what of an answer matters here: `built`, the id stored, `removed` yes ──

abbrev pub is_built : Answer → Bool
is_built built = true
is_built (stored id) = false
is_built (removed b) = false
is_built (count n) = false
is_built (best j r) = false
is_built nothing = false
is_built (refused n) = false

abbrev pub stored_id : Answer → Option ℕ
stored_id built = none
stored_id (stored id) = some id
stored_id (removed b) = none
stored_id (count n) = none
stored_id (best j r) = none
stored_id nothing = none
stored_id (refused n) = none

abbrev pub is_removed : Answer → Bool
is_removed built = false
is_removed (stored id) = false
is_removed (removed b) = b
is_removed (count n) = false
is_removed (best j r) = false
is_removed nothing = false
is_removed (refused n) = false

abbrev pub with_recording_if : ℕ → ℕ → Fingerprint → Option ℕ → Catalog → Catalog
with_recording_if w limit f none c = c
with_recording_if w limit f (some id) c = with_recording w limit f id c

-- a replacement of recording id, "as those two calls": id is removed, and the new take is stored
abbrev pub replaced_if : ℕ → ℕ → ℕ → Fingerprint → Option ℕ → Catalog → Catalog
replaced_if w limit id f none c = c
replaced_if w limit id f (some j) c = with_recording w limit f j (without_recording id c)

unfoldable pub after : (S : Scheme) → Catalog → Call S → Answer → Catalog
after S c (build limit words lengths rates sets) a = cond (is_built a) (from_build S.width limit (fingerprints_of S.width words lengths rates sets)) c
after S c (insert limit rate set words) a = with_recording_if S.width limit (fingerprint_of S.width rate set words) (stored_id a) c
after S c (remove id) a = cond (is_removed a) (without_recording id c) c
after S c (replace id limit rate words) a = replaced_if S.width limit id (fingerprint_of S.width rate (set_of (c.live id)) words) (stored_id a) c
after S c live_count a = c
after S c (query q) a = c

-- ── lists of calls. T is what the calls work on, `run` what one call answers and leaves ──

module _ (S : Scheme) {T : Type 0} (run : T → Call S → Answer × T) where
  -- each call works on what the one before left
  unfoldable pub leaves : T → List (Call S) → T
  leaves t [] = t
  leaves t (x ∷ xs) = leaves (run t x).1 xs

  unfoldable pub answers : T → List (Call S) → List Answer
  answers t [] = []
  answers t (x ∷ xs) = (run t x).0 ∷ answers (run t x).1 xs

unfoldable pub replay : (S : Scheme) → Catalog → List (Call S) → List Answer → Catalog
replay S c [] told = c
replay S c (x ∷ xs) [] = c
replay S c (x ∷ xs) (a ∷ told) = replay S (after S c x a) xs told

-- the catalog after a list of calls, c being the catalog before it
abbrev pub history : (S : Scheme) {T : Type 0} → (T → Call S → Answer × T) → Catalog → T → List (Call S) → Catalog
history S run c t calls = replay S c calls (answers S run t calls)

-- what an accepted call answers, the catalog being c
abbrev pub answer_from : (S : Scheme) → Catalog → Call S → Answer
answer_from S c (build limit words lengths rates sets) = built
answer_from S c (insert limit rate set words) = stored (next_id c.vacant c.size)
answer_from S c (remove id) = removed (is_live (c.live id))
answer_from S c (replace id limit rate words) = stored id
answer_from S c live_count = count (c.size - length c.vacant)
answer_from S c (query q) = answer_of (best_of S q c)
