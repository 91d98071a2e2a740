-- Request One: stores that are alike in a set answer the queries for it alike, and a new recording elsewhere changes no answer. Assumes nothing.
use mathlib.Core.Path.{◌≡◌, refl, sym, ap, ◌∙◌}
use mathlib.Core.Logic.{⊎_elim}
use mathlib.Core.Bool.{true, false}
use mathlib.Core.List.{List, [], ◌∷◌, ◌++◌}
use mathlib.Core.Option.{Option, none, some}
use Prim.Native.Nat.{ℕ, ◌≤◌, max}
use native.Mathlib.Omega.{arith}
use lib.ListN.{length, get_or, get_or-eq_default}
use lib.Dec.{eqb}
use borrow.Author.Tests.{eqb-true, eq-eqb}
use Rattle.lists.proofs.Tests.{maybe, not-both}
use Rattle.lists.proofs.Keep.{keep-comm, keep_all, all-kept, all-imp}
use Rattle.matching.specs.declared.MatchResult.{MatchResult}
use Rattle.model.specs.Rows.{Row, in_set, row_of}
use Rattle.model.specs.Index.{Posting, Index, of_id, is_live}
use Rattle.model.specs.Query.{Scheme, Query, Catalog, catalog, asked, voting, candidate, best_of, too_many_votes}
use Rattle.model.specs.Calls.{Sizes, Store, holds, Answer, best, stored, Call, insert, query, outcome, answer_of, early_tests, query_tests, query_step, refusal, step}
use Rattle.model.specs.Words.{Words, sizes_of}
use Rattle.model.specs.Run.{run}
use Rattle.model.specs.History as history
use Rattle.model.specs.History.{with_recording}
use Rattle.model.specs.Claim.{OldOrNew, at_first, Claim}
use Rattle.model.specs.Sets.{AlikeIn, AnswersAlike, words_after, catalog_after, Elsewhere}
use Rattle.model.proofs.Best.{best-ext, best-skip}
use Rattle.model.proofs.Run.{run-answers}
use Rattle.model.proofs.Demand3.{history-snoc}

-- what a recording of the set holds votes
pub held-votes : (set : ℕ) (c : Catalog) (j : ℕ) (r : Row) → asked set (c.live j) ≡ some r → of_id j (voting set c) ≡ of_id j c.held
held-votes set c j r e =
    keep-comm (λ p. eqb p.id j) (λ p. is_live (asked set (c.live p.id))) c.held
    ∙ keep_all (λ p. is_live (asked set (c.live p.id))) (of_id j c.held)
    (all-imp (λ (p : Posting). eqb p.id j ≡ true) (λ p. is_live (asked set (c.live p.id)) ≡ true) (λ p d. rw (eqb-true p.id j d, e)) (of_id j c.held) (all-kept (λ p. eqb p.id j) c.held))

module _ (S : Scheme) (q : Query S) (x y : Index) (A : AlikeIn q.set x y) where
  candidate-alike : (j : ℕ) → candidate S q (catalog x) j ≡ candidate S q (catalog y) j
  unfolding candidate
  candidate-alike j = maybe (asked q.set (get_or y.rows j none))
      (λ e. rw (A.rows j, e))
      (λ r e. rw (
        ← held-votes q.set (catalog x) j r (A.rows j ∙ e),
        ← held-votes q.set (catalog y) j r e,
        A.rows j,
        A.postings,
      ))

  -- no id behind the rows is a candidate
  none-behind : (z : Index) (j : ℕ) → length z.rows ≤ j → candidate S q (catalog z) j ≡ none
  unfolding candidate
  none-behind z j le = rw (get_or-eq_default z.rows none le)

  best-alike : best_of S q (catalog x) ≡ best_of S q (catalog y)
  best-alike =
      sym (best-skip (candidate S q (catalog x)) (length x.rows) (max (length x.rows) (length y.rows)) (omega arith) (none-behind x))
      ∙ best-ext (candidate S q (catalog x)) (candidate S q (catalog y)) (max (length x.rows) (length y.rows)) (λ j lt. candidate-alike j)
      ∙ best-skip (candidate S q (catalog y)) (length y.rows) (max (length x.rows) (length y.rows)) (omega arith) (none-behind y)

  many-alike : too_many_votes S q (catalog x) ≡ too_many_votes S q (catalog y)
  unfolding too_many_votes
  many-alike = rw A.postings

  -- an answer that leaves the store as it is doesn't depend on it
  same_outcome : (o : Option ℕ) (s t : Store) (a : Answer) → (outcome o s a s).0 ≡ (outcome o t a t).0
  same_outcome none s t a = refl
  same_outcome (some n) s t a = refl

  answer-alike : (z z' : Sizes) → (step S z (holds x) (query q)).0 ≡ (step S z' (holds y) (query q)).0
  unfolding query_step early_tests query_tests
  answer-alike z z' =
      same_outcome (refusal (query_tests S (holds x) q)) (holds x) (holds y) (answer_of (best_of S q (catalog x)))
      ∙ rw (many-alike, best-alike)

pub answers-alike : (S : Scheme) → 2 ≤ S.width → AnswersAlike S
answers-alike S w2 m l x y e d q A =
    run-answers S w2 m (query q)
    ∙ ap (λ (s : Store). (step S (sizes_of S.width m) s (query q)).0) e
    ∙ answer-alike S q x y A (sizes_of S.width m) (sizes_of S.width l)
    ∙ ap (λ (s : Store). (step S (sizes_of S.width l) s (query q)).0) (sym d)
    ∙ sym (run-answers S w2 l (query q))

-- ---- a new recording of another set

module _ (S : Scheme) (C : Claim S) (m : Words) (before : List (Call S)) (limit rate set : ℕ) (words : List ℕ) (id : ℕ) (q : Query S)
    (e : (run S (words_after S m before) (insert limit rate set words)).0 ≡ stored id) (other : in_set q.set set ≡ false) where
  abbrev after : List (Call S)
  after = before ++ insert limit rate set words ∷ []

  unasked : asked q.set ((catalog_after S m after).live id) ≡ none
  unfolding history.after with_recording row_of
  unasked =
      ap (λ (d : Catalog). asked q.set (d.live id)) (history-snoc S (run S) (at_first S m) m before (insert limit rate set words))
      ∙ rw (e, eq-eqb id id refl, other)

  unchanged : OldOrNew S q (catalog_after S m after) id (run S (words_after S m before) (query q)).0 (run S (words_after S m after) (query q)).0
      → (run S (words_after S m after) (query q)).0 ≡ (run S (words_after S m before) (query q)).0
  unchanged O = ⊎_elim (λ same. same)
      (λ (b : (r : MatchResult) × ((run S (words_after S m after) (query q)).0 ≡ best id r)).
      let there = (O.new-only-if b.0 b.1).live in let z : ◌≡◌ {A = ℕ} 0 1 = cc (unasked, there) in absurd (omega arith))
      O.either

pub elsewhere : (S : Scheme) → Claim S → Elsewhere S
elsewhere S C m before limit rate set words id q e other keys a b =
    unchanged S C m before limit rate set words id q e other
    (C.changes m (before ++ insert limit rate set words ∷ []) before (insert limit rate set words) [] refl id e q
    (λ j k there ne has free stop. not-both stop (keys j k there has)) a b)
