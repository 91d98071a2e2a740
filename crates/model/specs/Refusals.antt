-- Refused calls: they alter nothing, and the number is the first that applies. Definitions, and computed examples of one. Assumes nothing.
use Rattle.std.specs.Prelude.{◌≡◌, Bool, true, false, cond, not, ◌&&◌, List, [], ◌∷◌, map, ℕ, T, eqb}
use Rattle.std.proofs.Math.Option.{Option, none, some}
use Rattle.lists.specs.Lists.{All}
use Rattle.model.specs.Query.{Scheme}
use Rattle.model.specs.Calls.{Sizes, Store, Answer, refused, Call, step_of}
use Rattle.model.specs.Words.{Words, sizes_of}
use Rattle.model.specs.Run.{store_of, run}
use Rattle.model.specs.History.{leaves, answers}

-- ── "all lent memory unchanged, here and below" ──

abbrev pub Refused : Answer → Type 0
Refused a = (n : ℕ) × (a ≡ refused n)

-- of any three slices of words; crate `query_rank`, specs/Unchanged.antt, adds a query's scratch
pub record AltersNothing (S : Scheme) : Type 0 where
  -- a refused call leaves the words as they were
  pub call : (m : Words) (x : Call S) (n : ℕ) → (run S m x).0 ≡ refused n → (run S m x).1 ≡ m
  -- and so does a list of calls that are all refused
  pub calls : (m : Words) (xs : List (Call S)) → All Refused (answers S (run S) m xs) → leaves S (run S) m xs ≡ m

-- ── "The lowest number that applies is returned", where a change request places its number after a lower one ──

-- the numbers in the order in which their tests are looked at, those of later change requests among them
abbrev pub order : List ℕ
order = 1 ∷ 2 ∷ 3 ∷ 4 ∷ 9 ∷ 10 ∷ 5 ∷ 6 ∷ 7 ∷ 11 ∷ 8 ∷ 12 ∷ 13 ∷ []

-- do numbers follow an order: are they what is left of it when some are taken out?
abbrev pub follows : List ℕ → List ℕ → Bool
follows os [] = true
follows [] (n ∷ ns) = false
follows (o ∷ os) (n ∷ ns) = cond (eqb o n) (follows os ns) (follows os (n ∷ ns))

-- the numbers of build's table do; those of a table with 2 behind 3, with 9 behind 5, with 2 twice, or with a number that isn't listed, don't
pub examples : T (follows order (1 ∷ 3 ∷ 9 ∷ 5 ∷ 6 ∷ 7 ∷ [])
    && not (follows order (1 ∷ 3 ∷ 2 ∷ []))
    && not (follows order (1 ∷ 5 ∷ 9 ∷ []))
    && not (follows order (1 ∷ 2 ∷ 2 ∷ []))
    && not (follows order (1 ∷ 14 ∷ [])))
examples = tt

-- the test of a number in a table: false if it has no row
abbrev pub test_of : ℕ → List (ℕ × Bool) → Bool
test_of n [] = false
test_of n (e ∷ es) = cond (eqb e.0 n) e.1 (test_of n es)

-- the first number of an order whose test holds
abbrev pub first_of : List ℕ → List (ℕ × Bool) → Option ℕ
first_of [] es = none
first_of (o ∷ os) es = cond (test_of o es) (some o) (first_of os es)

module _ (S : Scheme) where
  -- the table of a call on a store, and on words
  abbrev pub tests_of : Sizes → Store → Call S → List (ℕ × Bool)
  tests_of z s x = (step_of S z s x).tests

  abbrev pub tests_on : Words → Call S → List (ℕ × Bool)
  tests_on m x = tests_of (sizes_of S.width m) (store_of S.width m) x

  pub record InOrder : Type 0 where
    -- each call's table follows the order
    pub in_order : (z : Sizes) (s : Store) (x : Call S) → follows order (map (λ e. e.0) (tests_of z s x)) ≡ true
    -- so a call is refused exactly if a test holds, with the first number in the order whose test does
    pub first : (m : Words) (x : Call S) (n : ℕ) → (run S m x).0 ≡ refused n → first_of order (tests_on m x) ≡ some n
    pub refuses : (m : Words) (x : Call S) (n : ℕ) → first_of order (tests_on m x) ≡ some n → run S m x ≡ (refused n, m)
