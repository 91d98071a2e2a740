-- Demand 3, the claim about histories, of either index.
--
-- Three slices of words are lent, whatever is in them, and a list of calls is made on them, one after the other. What is live, vacant,
-- held and stopped before and after each call is the history's catalog (History): it is made from what the words said at first, and
-- from the calls and their answers. Then, wherever in the list:
--
--   insert   If a call of insert answers that it stored a recording as id, then any query that is accepted before the call and after it,
--            and of whose set no other live recording lost a hash because the call stopped its key, answers after it what it answered
--            before, or best with id; and best with id exactly if the new recording is of the query's set, has a vote, passes every
--            gate, and ranks above the answer before (or that answer was none). Its votes, gates and result come from what it holds,
--            its row and the query. So where it is of another set, the answer is the one before, to the bit (`Elsewhere` in Sets).
--   remove   If a call of remove answers yes for id, then any query that was accepted before, and not answered with id, is accepted
--            after and has the same answer.
--   replace  If a call of replace answers that it stored a recording as id, it is read as those two calls: what is said of remove holds from
--            before the call to the index between them, which the removal of id would have left, and what is said of insert from there to
--            after the call. So a corrected take changes an answer that wasn't its own only by being the better answer itself
--            (`Corrected` in Replacement).
--
-- The claim is one statement about the list (`Demand3`), for any way of running calls. `Claim` states it of `run`, which the contracts
-- of the entries equal. Definitions only. Assumes nothing.
use Rattle.std.specs.Prelude.{◌≡◌, ◌⊎◌, Bool, true, false, not, ◌&&◌, ◌||◌, List, [], ◌∷◌, ◌++◌, ℕ, ltb}
use Rattle.std.proofs.Math.Option.{Option, some}
use Rattle.lists.specs.Lists.{none?}
use Rattle.lists.specs.Keys.{has_key}
use Rattle.matching.specs.declared.MatchResult.{MatchResult}
use Rattle.matching.specs.Results.{better}
use Rattle.model.specs.Rows.{Row}
use Rattle.model.specs.Index.{key_of, of_id, is_live}
use Rattle.model.specs.Query.{Scheme, Query, Catalog, catalog, asked, hashes, votes}
use Rattle.model.specs.Calls.{content, Call, build, insert, remove, replace, live_count, query, Answer, stored, removed, best, nothing, refused}
use Rattle.model.specs.Words.{Words}
use Rattle.model.specs.Run.{store_of, run}
use Rattle.model.specs.History.{leaves, history, answer_from}

abbrev pub Accepted : Answer → Type 0
Accepted a = (n : ℕ) → a ≡ refused n → ⊥

-- result r of recording i ranks above result t of recording j: "higher score, then higher prominence, then lower id"
abbrev pub ranks_above : MatchResult → ℕ → MatchResult → ℕ → Bool
ranks_above r i t j = better r t || (not (better t r) && ltb i j)

-- "only recordings of the query's set vote, and only their keys must stay unstopped": is a recording with this row one of them?
abbrev pub is_concerned : ℕ → Option Row → Bool
is_concerned set o = is_live (asked set o)

-- from catalog c to catalog d no key is stopped on which such a recording, other than id, holds a hash
abbrev pub KeysKept : ℕ → Catalog → Catalog → ℕ → Type 0
KeysKept set c d id =
    (j k : ℕ) → is_concerned set (c.live j) ≡ true → (j ≡ id → ⊥) → has_key key_of k (of_id j c.held) ≡ true → c.stopped k ≡ false → d.stopped k ≡ true → ⊥

module _ (S : Scheme) where
  -- recording id is of the query's set, has a vote, passes every gate with result r, and the old answer was none or ranks below
  pub record BecomesBest (q : Query S) (d : Catalog) (id : ℕ) (old : Answer) (r : MatchResult) : Type 0 where
    pub row : Row
    pub live : asked q.set (d.live id) ≡ some row
    pub vote : none? (votes S q (of_id id d.held)) ≡ false
    pub passes : S.judge q.ask (hashes S q) row (votes S q (of_id id d.held)) ≡ some r
    pub ranks : (old ≡ nothing) ⊎ ((j : ℕ) × (t : MatchResult) × (old ≡ best j t) × (ranks_above r id t j ≡ true))

  -- the answer after an insert: the old one or the new recording, and the new recording exactly when it becomes the best
  pub record OldOrNew (q : Query S) (d : Catalog) (id : ℕ) (old new : Answer) : Type 0 where
    pub either : (new ≡ old) ⊎ ((r : MatchResult) × (new ≡ best id r))
    pub new-if : (r : MatchResult) → BecomesBest q d id old r → new ≡ best id r
    pub new-only-if : (r : MatchResult) → new ≡ best id r → BecomesBest q d id old r

  -- a moment of a history: how queries are answered then, and the catalog
  pub record Moment : Type 0 where
    pub reply : Query S → Answer
    pub known : Catalog

  -- what is claimed of a recording that was stored as id between two moments
  abbrev pub AfterInsert : Moment → Moment → ℕ → Type 0
  AfterInsert old new id =
      (q : Query S) → KeysKept q.set old.known new.known id → Accepted (old.reply q) → Accepted (new.reply q)
      → OldOrNew q new.known id (old.reply q) (new.reply q)

  -- and of one that was removed
  abbrev pub AfterRemove : Moment → Moment → ℕ → Type 0
  AfterRemove old new id =
      (q : Query S) → Accepted (old.reply q) → ((r : MatchResult) → old.reply q ≡ best id r → ⊥)
      → Accepted (new.reply q) × (new.reply q ≡ old.reply q)

  -- at a call x that was answered a, after the calls `before`; `at` is the moment after any calls
  abbrev pub ClaimedAt : (List (Call S) → Moment) → List (Call S) → Answer → Call S → Type 0
  ClaimedAt at before a (insert limit rate set words) = (id : ℕ) → a ≡ stored id → AfterInsert (at before) (at (before ++ insert limit rate set words ∷ [])) id
  ClaimedAt at before a (remove id) = a ≡ removed true → AfterRemove (at before) (at (before ++ remove id ∷ [])) id
  ClaimedAt at before a (replace id limit rate words) =
      a ≡ stored id → AfterRemove (at before) (at (before ++ remove id ∷ [])) id × AfterInsert (at (before ++ remove id ∷ [])) (at (before ++ replace id limit rate words ∷ [])) id
  ClaimedAt at before a (build limit words lengths rates sets) = Unit {0}
  ClaimedAt at before a live_count = Unit {0}
  ClaimedAt at before a (query q) = Unit {0}

  -- the moment after calls, t being what they work on and c the catalog at first
  abbrev pub moment_after : {T : Type 0} → (T → Call S → Answer × T) → Catalog → T → List (Call S) → Moment
  moment_after {T} run c t calls = record { reply = λ q. (run (leaves S run t calls) (query q)).0; known = history S run c t calls }

  -- wherever in a list of calls
  abbrev pub Demand3 : {T : Type 0} → (T → Call S → Answer × T) → Catalog → T → List (Call S) → Type 0
  Demand3 {T} run c t calls =
      (before : List (Call S)) (x : Call S) (rest : List (Call S)) → calls ≡ before ++ x ∷ rest →
      ClaimedAt (moment_after run c t) before (run (leaves S run t before) x).0 x

  -- and each accepted call answers what the history says: the id that is given, yes or no, the live count, the best recording
  abbrev pub FromHistory : {T : Type 0} → (T → Call S → Answer × T) → Catalog → T → Type 0
  FromHistory {T} run c t = (before : List (Call S)) (x : Call S) → Accepted (run (leaves S run t before) x).0 → (run (leaves S run t before) x).0 ≡ answer_from S (history S run c t before) x

  -- what the words lent at first say
  abbrev pub at_first : Words → Catalog
  at_first m = catalog (content (store_of S.width m))

  -- of every three slices of words and every list of calls on them
  pub record Claim : Type 0 where
    pub changes : (m : Words) (calls : List (Call S)) → Demand3 (run S) (at_first m) m calls
    pub told : (m : Words) → FromHistory (run S) (at_first m) m
