-- Refused calls, of any scheme: they alter nothing, and the number is the first in the order that applies. Assumes nothing.
use mathlib.Core.Path.{◌≡◌, refl, sym, ap, ◌∙◌}
use mathlib.Core.Bool.{Bool, true, false, not, ◌&&◌}
use mathlib.Core.List.{List, [], ◌∷◌, map}
use mathlib.Core.Option.{none, some}
use Prim.Native.Nat.{ℕ, ◌≤◌}
use lib.Dec.{eqb}
use borrow.Author.Tests.{eqb-true, eqb-false, eq-eqb, ne_eqb}
use Rattle.lists.specs.Lists.{some?, All, member}
use Rattle.lists.proofs.Tests.{test, not-both, and_left, and_right, or-false-left, or-false-right}
use Rattle.model.specs.Query.{Scheme}
use Rattle.model.specs.Calls.{Sizes, Store, refused, Call, build, insert, remove, replace, live_count, query, refusal, build_tests, insert_tests, replace_tests, plain_tests, early_tests, query_tests, build_step, insert_step, remove_step, replace_step, count_step, query_step}
use Rattle.model.specs.Words.{Words, sizes_of}
use Rattle.model.specs.Run.{store_of, run}
use Rattle.model.specs.History.{leaves, answers}
use Rattle.model.specs.Refusals.{Refused, AltersNothing, order, follows, test_of, first_of, tests_of, tests_on, InOrder}
use Rattle.model.proofs.Run.{step-refused, run-answers, run-refused}

-- ---- a refused call alters nothing

module _ (S : Scheme) (w2 : 2 ≤ S.width) where
  all-refused : (m : Words) (xs : List (Call S)) → All Refused (answers S (run S) m xs) → leaves S (run S) m xs ≡ m
  unfolding leaves answers
  all-refused m [] h = refl
  all-refused m (x ∷ xs) h = all-refused (run S m x).1 xs h.1 ∙ run-refused S w2 m x h.0.0 h.0.1

  pub alters-nothing : AltersNothing S
  alters-nothing = record { call = run-refused S w2; calls = all-refused }

-- ---- a table that follows an order, in which each number stands once

abbrev Table : Type 0
Table = List (ℕ × Bool)

abbrev numbers : Table → List ℕ
numbers es = map (λ e. e.0) es

abbrev distinct : List ℕ → Bool
distinct [] = true
distinct (o ∷ os) = not (member o os) && distinct os

other : (n o : ℕ) → eqb n o ≡ false → eqb o n ≡ false
other n o e = ne_eqb o n (λ g. eqb-false n o e (sym g))

-- a number that is not in the order has no test
no_test : (n : ℕ) (os : List ℕ) (es : Table) → member n os ≡ false → follows os (numbers es) ≡ true → test_of n es ≡ false
unfolding some?
no_test n os [] a f = refl
no_test n [] (e ∷ es) a f = absurd (not-both f refl)
no_test n (o ∷ os) (e ∷ es) a f = test (eqb o e.0)
    (λ d. rw (ap (λ k. eqb k n) (sym (eqb-true o e.0 d)) ∙ or-false-left (eqb o n) (member n os) a) (no_test n os es (or-false-right (eqb o n) (member n os) a) (rw d at f)))
    (λ d. no_test n os (e ∷ es) (or-false-right (eqb o n) (member n os) a) (rw d at f))

none_first : (os : List ℕ) → first_of os [] ≡ none
none_first [] = refl
none_first (o ∷ os) = none_first os

-- nor does a row count whose number is not in it
row_apart : (n : ℕ) (b : Bool) (es : Table) (os : List ℕ) → member n os ≡ false → first_of os ((n, b) ∷ es) ≡ first_of os es
unfolding some?
row_apart n b es [] a = refl
row_apart n b es (o ∷ os) a = rw (other o n (or-false-left (eqb o n) (member n os) a), row_apart n b es os (or-false-right (eqb o n) (member n os) a))

not-true : (b : Bool) → not b ≡ true → b ≡ false
not-true true e = sym e
not-true false e = refl

-- so the first row whose test holds has the first number whose test does
first-is : (os : List ℕ) (es : Table) → distinct os ≡ true → follows os (numbers es) ≡ true → refusal es ≡ first_of os es
first-is os [] u f = sym (none_first os)
first-is [] (e ∷ es) u f = absurd (not-both f refl)
first-is (o ∷ os) (e ∷ es) u f =
    let apart = not-true (member o os) (and_left (not (member o os)) (distinct os) u) in
    let rest = and_right (not (member o os)) (distinct os) u in
    test (eqb o e.0)
    (λ d. let i = eqb-true o e.0 d in
    rw (eq-eqb e.0 o (sym i)) (test e.1
    (λ t. rw t (ap some (sym i)))
    (λ t. rw t (first-is os es rest (rw d at f) ∙ sym (row_apart e.0 false es os (ap (λ k. member k os) (sym i) ∙ apart))))))
    (λ d. let g : follows os (numbers (e ∷ es)) ≡ true = (rw d at f) in
    first-is os (e ∷ es) rest g ∙ rw (no_test o os (e ∷ es) apart g))

-- ---- the tables of the calls

-- computed
tables-in-order : (S : Scheme) (z : Sizes) (s : Store) (x : Call S) → follows order (numbers (tests_of S z s x)) ≡ true
unfolding build_step insert_step remove_step replace_step count_step query_step build_tests insert_tests replace_tests plain_tests early_tests query_tests
tables-in-order S z s (build limit words lengths rates sets) = refl
tables-in-order S z s (insert limit rate set words) = refl
tables-in-order S z s (remove id) = refl
tables-in-order S z s (replace id limit rate words) = refl
tables-in-order S z s live_count = refl
tables-in-order S z s (query q) = refl

order-distinct : distinct order ≡ true
unfolding some?
order-distinct = refl

module _ (S : Scheme) (w2 : 2 ≤ S.width) (m : Words) (x : Call S) (n : ℕ) where
  first : refusal (tests_on S m x) ≡ first_of order (tests_on S m x)
  first = first-is order (tests_on S m x) order-distinct (tables-in-order S (sizes_of S.width m) (store_of S.width m) x)

  number-first : (run S m x).0 ≡ refused n → first_of order (tests_on S m x) ≡ some n
  number-first e = sym first ∙ (step-refused S (sizes_of S.width m) (store_of S.width m) x n (sym (run-answers S w2 m x) ∙ e)).0

  refuses-first : first_of order (tests_on S m x) ≡ some n → run S m x ≡ (refused n, m)
  refuses-first e = λ i. (answer i, run-refused S w2 m x n answer i)
    where
      answer : (run S m x).0 ≡ refused n
      answer = run-answers S w2 m x ∙ rw (first ∙ e)

pub in_order : (S : Scheme) → 2 ≤ S.width → InOrder S
in_order S w2 = record { in_order = tables-in-order S; first = number-first S w2; refuses = refuses-first S w2 }
