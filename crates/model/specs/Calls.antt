-- The six calls: what each answers and leaves, refused ones included. Definitions only. Assumes nothing.
use Rattle.std.specs.Prelude.{Bool, true, false, cond, not, ◌&&◌, ◌||◌, List, [], ◌∷◌, ◌++◌, ℕ, ◌+◌, ◌-◌, ◌/◌, ◌%◌, length, get_or, eqb, leb, ltb}
use Rattle.std.proofs.Math.Option.{Option, none, some}
use Rattle.lists.specs.Lists.{some?}
use Rattle.matching.specs.declared.MatchResult.{MatchResult}
use Rattle.model.specs.Fingerprints.{Fingerprint, fingerprint_of, fingerprints_of, reference_most, query_most, malformed, malformed_build}
use Rattle.model.specs.Rows.{Row, set_most, is_set}
use Rattle.model.specs.Index.{Index, empty, posted, numbered, unskipped, is_stopped, stopped_after, new_id, is_live, inserted, built_from, erased}
use Rattle.model.specs.Query.{Scheme, Query, catalog, too_many_votes, best_of}

-- how many rows, postings and stopped keys the store has room for
pub record Sizes : Type 0 where
  pub R : ℕ
  pub P : ℕ
  pub K : ℕ

-- a lent store: the length of a slice is none of those listed; or it is unsound; or it is sound, and this is what it holds
pub data Store : Type 0 where
  unlisted : Store
  unsound : Store
  holds : Index → Store

abbrev pub is_unlisted : Store → Bool
is_unlisted unlisted = true
is_unlisted unsound = false
is_unlisted (holds x) = false

abbrev pub is_unsound : Store → Bool
is_unsound unlisted = false
is_unsound unsound = true
is_unsound (holds x) = false

abbrev pub content : Store → Index
content unlisted = empty
content unsound = empty
content (holds x) = x

-- "Every answer is a case: built, stored with an id, removed yes or no, a live count, best with its result, none, or refused with a number."
pub data Answer : Type 0 where
  built : Answer
  stored : ℕ → Answer
  removed : Bool → Answer
  count : ℕ → Answer
  best : ℕ → MatchResult → Answer
  nothing : Answer
  refused : ℕ → Answer

-- a call with what is lent to it beside the store: the stop limit, the words of hashes, their lengths, rates as words, sets
pub data Call (S : Scheme) : Type 0 where
  build : (limit : ℕ) (words lengths rates sets : List ℕ) → Call S
  insert : (limit rate set : ℕ) (words : List ℕ) → Call S
  remove : (id : ℕ) → Call S
  replace : (id limit rate : ℕ) (words : List ℕ) → Call S
  live_count : Call S
  query : Query S → Call S

-- ── refusals: for each call a table of numbers and tests, in the order in which they are looked at (`order` in Refusals) ──

-- "The lowest number that applies is returned."
abbrev pub refusal : List (ℕ × Bool) → Option ℕ
refusal [] = none
refusal (e ∷ es) = cond e.1 (some e.0) (refusal es)

-- the number of a refusal, 0 where there is none
abbrev pub number_of : Option ℕ → ℕ
number_of none = 0
number_of (some n) = n

-- "a set of 0 or above 255 on insert or build"; "build: more than R references"; "build: p = 0, nothing stopped"; "stopped keys after the call would exceed K"
unfoldable pub build_tests : Sizes → Store → Bool → ℕ → List Fingerprint → List (ℕ × Bool)
build_tests z s bad limit fs =
    (1, is_unlisted s)
    ∷ (3, bad)
    ∷ (9, some? (λ f. not (is_set f.set)) fs)
    ∷ (5, ltb z.R (length fs))
    ∷ (6, ltb z.P (length (numbered 0 fs)))
    ∷ (7, ltb z.K (length (stopped_after limit empty (numbered 0 fs))))
    ∷ []

-- the room for a recording in index x: "insert: v = 0 and n = R"; "p + m > P, m being the hashes whose key isn't stopped"; "stopped keys after the
-- call would exceed K"
abbrev pub room_tests : Sizes → Index → ℕ → Fingerprint → List (ℕ × Bool)
room_tests z x limit f =
    let new = posted (new_id x) f.hashes in
    (5, eqb (length x.vacant) 0 && eqb (length x.rows) z.R)
    ∷ (6, ltb z.P (length x.postings + length (unskipped (is_stopped x) new)))
    ∷ (7, ltb z.K (length (stopped_after limit x new)))
    ∷ []

unfoldable pub insert_tests : Sizes → Store → Bool → ℕ → Fingerprint → List (ℕ × Bool)
insert_tests z s bad limit f =
    (1, is_unlisted s)
    ∷ (2, is_unsound s)
    ∷ (3, bad)
    ∷ (9, not (is_set f.set))
    ∷ room_tests z (content s) limit f

-- "It refuses with 10, placed after 4, an id that isn't live"; "room (refusals 5 to 7) is judged with the old take already removed": `between` is
-- what the removal leaves. Row 5 never applies: the removal has just vacated an id (`never-full` in Replacement).
unfoldable pub replace_tests : Sizes → Store → Bool → Bool → Index → ℕ → Fingerprint → List (ℕ × Bool)
replace_tests z s bad live between limit f =
    (1, is_unlisted s)
    ∷ (2, is_unsound s)
    ∷ (3, bad)
    ∷ (10, not live)
    ∷ room_tests z between limit f

-- of remove and live_count
unfoldable pub plain_tests : Store → List (ℕ × Bool)
plain_tests s = (1, is_unlisted s) ∷ (2, is_unsound s) ∷ []

-- "Scratch of i64: 6 words a vote (Wang), 12 (Panako), whole votes only, 0 to 1,000,000 votes": n words, v a vote
unfoldable pub scratch_listed : ℕ → ℕ → Bool
scratch_listed v n = eqb (n % v) 0 && leb (n / v) 1000000

-- before a query's votes are counted: w is the width of a posting, v the words of scratch that a vote takes, n the length of the scratch;
-- `beyond` says whether a setting is beyond its limit. "and a set above 255 on a query"
unfoldable pub early_tests : ℕ → ℕ → Store → ℕ → List ℕ → Bool → ℕ → List (ℕ × Bool)
early_tests w v s n words beyond set =
    (1, is_unlisted s || not (scratch_listed v n))
    ∷ (2, is_unsound s)
    ∷ (3, malformed w query_most words)
    ∷ (4, beyond)
    ∷ (9, ltb set_most set)
    ∷ []

unfoldable pub query_tests : (S : Scheme) → Store → Query S → List (ℕ × Bool)
query_tests S s q =
    early_tests S.width S.vote_words s q.scratch q.words (S.beyond q.ask) q.set
    ++ (8, too_many_votes S q (catalog (content s)))
    ∷ []

-- ── what each call answers and leaves ──

abbrev pub Outcome : Type 0
Outcome = Answer × Store

-- refused, and "all lent memory unchanged"; else the answer, and what is left
abbrev pub outcome : Option ℕ → Store → Answer → Store → Outcome
outcome (some n) s a t = (refused n, s)
outcome none s a t = (a, t)

-- a call on a store: its table of refusals, and what it answers and leaves where no test of the table holds
pub record Step : Type 0 where
  pub tests : List (ℕ × Bool)
  pub answer : Answer
  pub left : Store

-- "`build` overwrites any content."
unfoldable pub build_step : ℕ → Sizes → Store → ℕ → List ℕ → List ℕ → List ℕ → List ℕ → Step
build_step w z s limit words lengths rates sets =
    let fs = fingerprints_of w words lengths rates sets in
    record { tests = build_tests z s (malformed_build w words lengths rates sets) limit fs; answer = built; left = holds (built_from w limit fs) }

unfoldable pub insert_step : ℕ → Sizes → Store → ℕ → ℕ → ℕ → List ℕ → Step
insert_step w z s limit rate set words =
    let f = fingerprint_of w rate set words in
    record {
      tests = insert_tests z s (malformed w reference_most words) limit f;
      answer = stored (new_id (content s));
      left = holds (inserted w limit f (content s));
    }

-- "`remove` of an id that isn't live answers no and changes nothing."
unfoldable pub remove_step : Store → ℕ → Step
remove_step s id =
    let live = is_live (get_or (content s).rows id none) in
    record { tests = plain_tests s; answer = removed live; left = cond live (holds (erased id (content s))) s }

-- the set of a row
abbrev pub set_of : Option Row → ℕ
set_of none = 0
set_of (some r) = r.set

-- "one replacement that keeps the id and set": the insertion, under the row's set, into what the removal leaves. "Where it isn't refused, it
-- answers and leaves what the removal and then the insertion would".
unfoldable pub replace_step : ℕ → Sizes → Store → ℕ → ℕ → ℕ → List ℕ → Step
replace_step w z s id limit rate words =
    let row = get_or (content s).rows id none in
    let between = (remove_step s id).left in
    let insertion = insert_step w z between limit rate (set_of row) words in
    record {
      tests = replace_tests z s (malformed w reference_most words) (is_live row) (content between) limit (fingerprint_of w rate (set_of row) words);
      answer = insertion.answer;
      left = insertion.left;
    }

-- "live_count is n − v"
unfoldable pub count_step : Store → Step
count_step s = record { tests = plain_tests s; answer = count (length (content s).rows - length (content s).vacant); left = s }

-- "best with its result, none"
abbrev pub answer_of : Option (ℕ × MatchResult) → Answer
answer_of none = nothing
answer_of (some b) = best b.0 b.1

-- "A query doesn't change the store"
unfoldable pub query_step : (S : Scheme) → Store → Query S → Step
query_step S s q = record { tests = query_tests S s q; answer = answer_of (best_of S q (catalog (content s))); left = s }

abbrev pub step_of : (S : Scheme) → Sizes → Store → Call S → Step
step_of S z s (build limit words lengths rates sets) = build_step S.width z s limit words lengths rates sets
step_of S z s (insert limit rate set words) = insert_step S.width z s limit rate set words
step_of S z s (remove id) = remove_step s id
step_of S z s (replace id limit rate words) = replace_step S.width z s id limit rate words
step_of S z s live_count = count_step s
step_of S z s (query q) = query_step S s q

-- what comes of it
abbrev pub taken : Store → Step → Outcome
taken s p = outcome (refusal p.tests) s p.answer p.left

abbrev pub step : (S : Scheme) → Sizes → Store → Call S → Outcome
step S z s x = taken s (step_of S z s x)
