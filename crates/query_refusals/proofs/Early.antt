-- The refusals of a query before its votes are counted, and what the model says of a query that has one of them, or none. Assumes nothing.
use mathlib.Core.Path.{◌≡◌, refl, ap, ◌∙◌}
use mathlib.Core.Bool.{Bool, true, false, cond, not, ◌||◌}
use mathlib.Core.List.{List, [], ◌∷◌}
use mathlib.Core.Option.{Option, none, some}
use Prim.Native.Nat.{ℕ, ◌≤◌}
use native.Mathlib.Omega.{arith}
use lib.Dec.{ltb}
use borrow.Author.Tests.{not-false}
use Rattle.lists.proofs.Tests.{test, not-both, or_right, or-false-left, or-false-right}
use Rattle.model.specs.Fingerprints.{query_most, malformed}
use Rattle.model.specs.Rows.{set_most}
use Rattle.model.specs.Query.{Scheme, Query, catalog, too_many_votes, best_of}
use Rattle.model.specs.Calls.{is_unlisted, is_unsound, holds, content, Answer, refused, answer_of, refusal, number_of, outcome, scratch_listed, early_tests, query_tests, query_step}
use Rattle.model.specs.Words.{Words, slices_listed, read_index}
use Rattle.model.specs.Soundness.{sound_words}
use Rattle.model.specs.Run.{store_of, on_words, run_query}
use Rattle.model.proofs.Stores.{sound-again, store-holds, store-unsound, store-unlisted, store-again}
use Rattle.soundness.specs.Scan.{refusal_of}
use Rattle.soundness.proofs.Refusal.{refusal-unlisted, refusal-unsound, refusal-none}
use Rattle.query_refusals.specs.Early.{early_refusal}

-- ---- a table of five tests, and a sixth behind them

number : Bool → Bool → Bool → Bool → Bool → ℕ
number a b c d f = number_of (refusal ((1, a) ∷ (2, b) ∷ (3, c) ∷ (4, d) ∷ (9, f) ∷ []))

first_of : (a b c d f e : Bool) → (number a b c d f ≡ 0 → ⊥) → refusal ((1, a) ∷ (2, b) ∷ (3, c) ∷ (4, d) ∷ (9, f) ∷ (8, e) ∷ []) ≡ some (number a b c d f)
unfolding number
first_of true b c d f e n = refl
first_of false true c d f e n = refl
first_of false false true d f e n = refl
first_of false false false true f e n = refl
first_of false false false false true e n = refl
first_of false false false false false e n = absurd (n refl)

none_of : (a b c d f : Bool) → number a b c d f ≡ 0 → (a ≡ false) × (b ≡ false) × (c ≡ false) × (d ≡ false) × (f ≡ false)
unfolding number
none_of true b c d f n = absurd (omega (arith, n))
none_of false true c d f n = absurd (omega (arith, n))
none_of false false true d f n = absurd (omega (arith, n))
none_of false false false true f n = absurd (omega (arith, n))
none_of false false false false true n = absurd (omega (arith, n))
none_of false false false false false n = (refl, refl, refl, refl, refl)

-- ---- the number, test by test

module _ (w v : ℕ) (m : Words) (n : ℕ) (hs : List ℕ) (beyond : Bool) (set : ℕ) where
  pub early-scratch : scratch_listed v n ≡ false → early_refusal w v m n hs beyond set ≡ 1
  unfolding early_refusal early_tests
  early-scratch e = rw (or_right (is_unlisted (store_of w m)) (not (scratch_listed v n)) (ap not e))

  module _ (whole : scratch_listed v n ≡ true) where
    pub early-store : (refusal_of w m ≡ 0 → ⊥) → early_refusal w v m n hs beyond set ≡ refusal_of w m
    unfolding early_refusal early_tests
    early-store ne = test (slices_listed w m)
        (λ l. test (sound_words w m)
        (λ s. absurd (ne (refusal-none w m l s)))
        (λ s. rw (refusal-unsound w m l s, store-unsound w m l s, whole)))
        (λ l. rw (refusal-unlisted w m l, store-unlisted w m l))

    module _ (l : slices_listed w m ≡ true) (s : sound_words w m ≡ true) where
      left : early_refusal w v m n hs beyond set ≡ number false false (malformed w query_most hs) beyond (ltb set_most set)
      unfolding early_refusal early_tests number
      left = rw (store-holds w m l s, whole)

      pub early-malformed : malformed w query_most hs ≡ true → early_refusal w v m n hs beyond set ≡ 3
      unfolding number
      early-malformed e = left ∙ rw e

      pub early-beyond : malformed w query_most hs ≡ false → beyond ≡ true → early_refusal w v m n hs beyond set ≡ 4
      unfolding number
      early-beyond e f = left ∙ rw (e, f)

      pub early-set : malformed w query_most hs ≡ false → beyond ≡ false → ltb set_most set ≡ true → early_refusal w v m n hs beyond set ≡ 9
      unfolding number
      early-set e f g = left ∙ rw (e, f, g)

      pub early-none : malformed w query_most hs ≡ false → beyond ≡ false → ltb set_most set ≡ false → early_refusal w v m n hs beyond set ≡ 0
      unfolding number
      early-none e f g = left ∙ rw (e, f, g)

-- ---- the model's query

-- what is known of a query that none of them applies to
pub record Passed (w v : ℕ) (m : Words) (n : ℕ) (hs : List ℕ) (beyond : Bool) (set : ℕ) : Type 0 where
  pub is-listed : slices_listed w m ≡ true
  pub is-sound : sound_words w m ≡ true
  pub whole : scratch_listed v n ≡ true
  pub formed : malformed w query_most hs ≡ false
  pub within : beyond ≡ false
  pub listed-set : ltb set_most set ≡ false

pub passed : (w v : ℕ) (m : Words) (n : ℕ) (hs : List ℕ) (beyond : Bool) (set : ℕ) → early_refusal w v m n hs beyond set ≡ 0 → Passed w v m n hs beyond set
unfolding early_refusal early_tests number
passed w v m n hs beyond set e = test (slices_listed w m)
    (λ l. test (sound_words w m)
    (λ s. record { is-listed = l; is-sound = s; whole = not-false (scratch_listed v n) (or-false-right (is_unlisted (store_of w m)) (not (scratch_listed v n)) five.0); formed = five.2; within = five.3; listed-set = five.4 })
    (λ s. absurd (not-both (ap is_unsound (store-unsound w m l s)) five.1)))
    (λ l. absurd (not-both (ap is_unlisted (store-unlisted w m l)) (or-false-left (is_unlisted (store_of w m)) (not (scratch_listed v n)) five.0)))
  where
    five : (is_unlisted (store_of w m) || not (scratch_listed v n) ≡ false) × (is_unsound (store_of w m) ≡ false) × (malformed w query_most hs ≡ false) × (beyond ≡ false) × (ltb set_most set ≡ false)
    five = none_of (is_unlisted (store_of w m) || not (scratch_listed v n)) (is_unsound (store_of w m)) (malformed w query_most hs) beyond (ltb set_most set) e

module _ (S : Scheme) (m : Words) (q : Query S) (w2 : 2 ≤ S.width) where
  -- the number of one of them, if one applies
  abbrev pub early : ℕ
  early = early_refusal S.width S.vote_words m q.scratch q.words (S.beyond q.ask) q.set

  pub refused-early : (early ≡ 0 → ⊥) → run_query S m q ≡ (refused early, m)
  unfolding early_refusal early_tests number run_query query_step query_tests
  refused-early ne =
      ap (λ (o : Option ℕ). on_words S.width m (outcome o (store_of S.width m) (answer_of (best_of S q (catalog (content (store_of S.width m))))) (store_of S.width m)))
      (first_of (is_unlisted (store_of S.width m) || not (scratch_listed S.vote_words q.scratch)) (is_unsound (store_of S.width m)) (malformed S.width query_most q.words) (S.beyond q.ask) (ltb set_most q.set)
      (too_many_votes S q (catalog (content (store_of S.width m)))) ne)
      ∙ ap (λ (y : Words). (refused early, y)) (store-again S.width m w2)

  -- where none of them applies, the votes decide
  pub query-is : early ≡ 0
      → run_query S m q ≡ (cond (too_many_votes S q (catalog (read_index S.width m))) (refused 8) (answer_of (best_of S q (catalog (read_index S.width m)))), m)
  unfolding run_query query_step early_tests query_tests
  query-is e =
      let P = passed S.width S.vote_words m q.scratch q.words (S.beyond q.ask) q.set e in
      rw (store-holds S.width m P.is-listed P.is-sound, P.whole, P.formed, P.within, P.listed-set)
      (last P.is-listed P.is-sound (too_many_votes S q (catalog (read_index S.width m))) (answer_of (best_of S q (catalog (read_index S.width m)))))
    where
      last : slices_listed S.width m ≡ true → sound_words S.width m ≡ true → (b : Bool) (a : Answer)
          → on_words S.width m (outcome (cond b (some 8) none) (holds (read_index S.width m)) a (holds (read_index S.width m))) ≡ (cond b (refused 8) a, m)
      last l s true a = ap (λ (y : Words). (refused 8, y)) (sound-again S.width m w2 l s)
      last l s false a = ap (λ (y : Words). (a, y)) (sound-again S.width m w2 l s)
