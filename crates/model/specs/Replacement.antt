-- Request Two: "Swap a recording in one call". What a replacement has to do with a removal and an insertion. Definitions only. Assumes nothing.
use Rattle.std.specs.Prelude.{◌≡◌, Bool, true, ◌||◌, List, [], ◌∷◌, ◌++◌, ℕ, eqb, get_or}
use Rattle.std.proofs.Math.Option.{Option, none}
use Rattle.matching.specs.declared.MatchResult.{MatchResult}
use Rattle.model.specs.Rows.{Row}
use Rattle.model.specs.Index.{Index, is_stopped}
use Rattle.model.specs.Query.{Scheme, Query}
use Rattle.model.specs.Calls.{content, Answer, stored, removed, best, refused, Call, insert, remove, replace, set_of}
use Rattle.model.specs.Words.{Words}
use Rattle.model.specs.Run.{store_of, run}
use Rattle.model.specs.History.{leaves}
use Rattle.model.specs.Claim.{Accepted, KeysKept, OldOrNew, moment_after, at_first}

-- ── "Where it isn't refused, it answers and leaves what the removal and then the insertion would" ──

-- "room (refusals 5 to 7)"
abbrev pub is_room : ℕ → Bool
is_room n = eqb n 5 || (eqb n 6 || eqb n 7)

module _ (S : Scheme) (m : Words) (id limit rate : ℕ) (words : List ℕ) where
  -- what words say, and of the recording
  abbrev pub held : Words → Index
  held l = content (store_of S.width l)

  abbrev pub row : Words → Option Row
  row l = get_or (held l).rows id none

  abbrev pub replacement : Answer × Words
  replacement = run S m (replace id limit rate words)

  -- the two calls in order: the second, under the row's set, on the words that the first leaves
  abbrev pub removal : Answer × Words
  removal = run S m (remove id)

  abbrev pub insertion : Answer × Words
  insertion = run S removal.1 (insert limit rate (set_of (row m)) words)

  -- of any words
  pub record AsTwoCalls : Type 0 where
    -- where it isn't refused: the removal says yes, the answer is the id, and answer and words are those that the two calls in order end with
    pub removes : Accepted replacement.0 → removal.0 ≡ removed true
    pub keeps-id : Accepted replacement.0 → replacement.0 ≡ stored id
    pub two-calls : Accepted replacement.0 → replacement ≡ insertion
    -- "keeps the id and set"; the vacant ids are as they were; "A stopped key stays stopped"
    pub keeps-set : Accepted replacement.0 → set_of (row replacement.1) ≡ set_of (row m)
    pub keeps-vacant : Accepted replacement.0 → (held replacement.1).vacant ≡ (held m).vacant
    pub keeps-stopped : Accepted replacement.0 → (k : ℕ) → is_stopped (held m) k ≡ true → is_stopped (held replacement.1) k ≡ true
    -- it is refused for room exactly where the insertion after the removal would be, with the same number
    pub refused-for-room : (n : ℕ) → is_room n ≡ true → replacement.0 ≡ refused n → (removal.0 ≡ removed true) × (insertion.0 ≡ refused n)
    pub room-refused : (n : ℕ) → is_room n ≡ true → removal.0 ≡ removed true → insertion.0 ≡ refused n → replacement.0 ≡ refused n
    -- refusal 5 never applies
    pub never-full : replacement.0 ≡ refused 5 → ⊥

abbrev pub Swaps : Scheme → Type 0
Swaps S = (m : Words) (id limit rate : ℕ) (words : List ℕ) → AsTwoCalls S m id limit rate words

-- ── and over a list of calls ──

-- A corrected take is swapped in. Of a query that was not answered with this recording, and of whose set no other recording loses a hash because
-- the call stops its key: it answers what it answered before, or best with the recording, and that exactly if the new take becomes the best. This
-- follows from the claim alone.
abbrev pub Corrected : Scheme → Type 0
Corrected S =
    (m : Words) (before : List (Call S)) (id limit rate : ℕ) (words : List ℕ)
    → let at = moment_after S (run S) (at_first S m) m in
    let between = at (before ++ remove id ∷ []) in
    let after = at (before ++ replace id limit rate words ∷ []) in
    (run S (leaves S (run S) m before) (replace id limit rate words)).0 ≡ stored id
    → (q : Query S) → KeysKept q.set between.known after.known id
    → Accepted ((at before).reply q) → ((r : MatchResult) → (at before).reply q ≡ best id r → ⊥) → Accepted (after.reply q)
    → OldOrNew S q after.known id ((at before).reply q) (after.reply q)
