-- A build leaves what the same inserts in order leave, on indexes. Assumes nothing.
use mathlib.Core.Path.{◌≡◌, refl, sym, ap, ◌∙◌}
use mathlib.Core.Bool.{Bool, true, false, cond, not}
use mathlib.Core.List.{List, [], ◌∷◌, ◌++◌, map, append_assoc, append-nil, map-append}
use mathlib.Core.Option.{some}
use Prim.Native.Nat.{ℕ, suc, ◌+◌}
use native.Mathlib.Nat.{zero-add, add-zero}
use native.Mathlib.Omega.{arith}
use lib.ListN.{length, length-append, length-map}
use lib.Dec.{eqb, ltb}
use borrow.Author.Tests.{ltb-true, eq-eqb, lt-ltb, le-ltb}
use Rattle.lists.specs.Lists.{keep, some?, member}
use Rattle.lists.specs.Keys.{under, has_key, Sorted, Ascending, place_all}
use Rattle.lists.proofs.Tests.{test}
use Rattle.lists.proofs.Keep.{keep_append, keep_all, all_of}
use Rattle.lists.proofs.Place.{under_none, under-place_all, sorted_ext}
use Rattle.lists.proofs.Ascending.{ascending-ext}
use Rattle.model.specs.Fingerprints.{Fingerprint}
use Rattle.model.specs.Rows.{row_of}
use Rattle.model.specs.Index.{Posting, Index, empty, key_of, posted, numbered, unskipped, is_stopped, placed, exceeds, postings_after, stopped_after, put_row, stop_keys, inserted, built_from}
use Rattle.model.proofs.Parts.{under-without, ascending-stop_keys}
use Rattle.model.proofs.Agree.{kept-sorted, stopped_after-is}

-- one by one
unfoldable pub inserted_all : ℕ → ℕ → List Fingerprint → Index → Index
inserted_all w limit [] x = x
inserted_all w limit (f ∷ fs) x = inserted_all w limit fs (inserted w limit f x)

module _ (limit : ℕ) where
  -- a key that has too many
  abbrev too_many : ℕ → List Posting → Bool
  too_many k l = ltb limit (length (under key_of k l))

  too_many-none : (k : ℕ) (l : List Posting) → under key_of k l ≡ [] → too_many k l ≡ false
  too_many-none k l e = rw e (le-ltb limit 0 (omega arith))

  -- ---- a build

  none-skipped : (A : List Posting) → unskipped (is_stopped empty) A ≡ A
  unfolding some?
  none-skipped A = keep_all (λ p. not (is_stopped empty (key_of p))) A (all_of (λ p. not (is_stopped empty (key_of p)) ≡ true) (λ p. refl) A)

  under-built : (k : ℕ) (A : List Posting) → under key_of k (placed empty A) ≡ under key_of k A
  unfolding keep
  under-built k A = under-place_all key_of k (unskipped (is_stopped empty) A) [] tt ∙ ap (under key_of k) (none-skipped A)

  over-built : (k : ℕ) (A : List Posting) → exceeds limit A (placed empty A) k ≡ too_many k A
  unfolding exceeds
  over-built k A = rw (under-built k A) (test (has_key key_of k A) (λ e. rw e) (λ e. rw e (sym (too_many-none k A (under_none key_of k A e)))))

  stopped-built : (k : ℕ) (A : List Posting) → member k (stopped_after limit empty A) ≡ too_many k A
  unfolding some?
  stopped-built k A = stopped_after-is limit empty A k ∙ over-built k A

  held-built : (k : ℕ) (A : List Posting) → under key_of k (postings_after limit empty A) ≡ cond (too_many k A) [] (under key_of k A)
  held-built k A = under-without (exceeds limit A (placed empty A)) k (placed empty A) ∙ rw (over-built k A, under-built k A)

  -- ---- and one insert more

  module _ (x : Index) (A B : List Posting) (sorted : Sorted key_of x.postings) (stops : (k : ℕ) → is_stopped x k ≡ too_many k A) (holds : (k : ℕ) → under key_of k x.postings ≡ cond (too_many k A) [] (under key_of k A)) where
    under_more : (k : ℕ) → under key_of k (placed x B) ≡ cond (too_many k A) [] (under key_of k (A ++ B))
    under_more k =
        under-place_all key_of k (unskipped (is_stopped x) B) x.postings sorted
        ∙ rw (under-without (is_stopped x) k B, holds k, stops k)
        (test (too_many k A) (λ e. rw e) (λ e. rw e (sym (keep_append (λ p. eqb (key_of p) k) A B))))

    -- too many stay too many
    too_many-more : (k : ℕ) → too_many k A ≡ true → too_many k (A ++ B) ≡ true
    too_many-more k e = rw (keep_append (λ (p : Posting). eqb (key_of p) k) A B, length-append) (lt-ltb limit (length (under key_of k A) + length (under key_of k B)) (omega (arith, ltb-true limit (length (under key_of k A)) e)))

    over-more : (k : ℕ) → too_many k A ≡ false → exceeds limit B (placed x B) k ≡ too_many k (A ++ B)
    unfolding exceeds
    over-more k e = rw (under_more k, e) (test (has_key key_of k B)
        (λ d. rw d)
        (λ d. rw d (sym (rw (keep_append (λ (p : Posting). eqb (key_of p) k) A B, under_none key_of k B d, append-nil) e))))

    stopped_more : (k : ℕ) → member k (stopped_after limit x B) ≡ too_many k (A ++ B)
    stopped_more k = stopped_after-is limit x B k ∙ rw (stops k) (test (too_many k A) (λ e. rw e (sym (too_many-more k e))) (λ e. rw e (over-more k e)))

    held_more : (k : ℕ) → under key_of k (postings_after limit x B) ≡ cond (too_many k (A ++ B)) [] (under key_of k (A ++ B))
    held_more k = under-without (exceeds limit B (placed x B)) k (placed x B) ∙ test (too_many k A)
        (λ e. test (exceeds limit B (placed x B) k) (λ d. rw (d, too_many-more k e)) (λ d. rw (d, too_many-more k e, under_more k, e)))
        (λ e. rw (over-more k e, under_more k, e))

numbered-append : (i : ℕ) (fs : List Fingerprint) (f : Fingerprint) → numbered i (fs ++ f ∷ []) ≡ numbered i fs ++ posted (i + length fs) f.hashes
unfolding numbered
numbered-append i [] f = append-nil (posted i f.hashes) ∙ rw add-zero
numbered-append i (g ∷ gs) f =
    let e : suc i + length gs ≡ i + suc (length gs) = omega arith in
    rw (append_assoc, numbered-append (suc i) gs f, e)

module _ (w limit : ℕ) where
  one_more : (fs : List Fingerprint) (f : Fingerprint) → inserted w limit f (built_from w limit fs) ≡ built_from w limit (fs ++ f ∷ [])
  unfolding inserted built_from
  one_more fs f = λ i. record {
    rows = rows_same i;
    vacant = [];
    postings = postings-same i;
    stopped = stopped-same i;
  }
    where
      A : List Posting
      A = numbered 0 fs

      B : List Posting
      B = posted (length (map (λ g. some (row_of w g)) fs)) f.hashes

      AB : numbered 0 (fs ++ f ∷ []) ≡ A ++ B
      AB = numbered-append 0 fs f ∙ rw (zero-add, length-map)

      rows_same : put_row (map (λ g. some (row_of w g)) fs) (length (map (λ g. some (row_of w g)) fs)) (row_of w f) ≡ map (λ g. some (row_of w g)) (fs ++ f ∷ [])
      rows_same = rw (eq-eqb (length (map (λ g. some (row_of w g)) fs)) (length (map (λ g. some (row_of w g)) fs)) refl) (sym (map-append (λ g. some (row_of w g)) fs (f ∷ [])))

      sorted : Sorted key_of (postings_after limit empty A)
      sorted = kept-sorted limit empty A tt

      ascending : (C : List Posting) → Ascending (λ k. k) (stopped_after limit empty C)
      ascending C = ascending-stop_keys (exceeds limit C (placed empty C)) C [] tt

      postings-same : postings_after limit (built_from w limit fs) B ≡ postings_after limit empty (numbered 0 (fs ++ f ∷ []))
      postings-same =
          sorted_ext key_of (postings_after limit (built_from w limit fs) B) (postings_after limit empty (numbered 0 (fs ++ f ∷ [])))
          (kept-sorted limit (built_from w limit fs) B sorted)
          (kept-sorted limit empty (numbered 0 (fs ++ f ∷ [])) tt)
          (λ k. held_more limit (built_from w limit fs) A B sorted (λ j. stopped-built limit j A) (λ j. held-built limit j A) k ∙ rw AB (sym (held-built limit k (A ++ B))))

      stopped-same : stopped_after limit (built_from w limit fs) B ≡ stopped_after limit empty (numbered 0 (fs ++ f ∷ []))
      stopped-same =
          ascending-ext (stopped_after limit (built_from w limit fs) B) (stopped_after limit empty (numbered 0 (fs ++ f ∷ [])))
          (ascending-stop_keys (exceeds limit B (placed (built_from w limit fs) B)) B (stopped_after limit empty A) (ascending A))
          (ascending (numbered 0 (fs ++ f ∷ [])))
          (λ k. stopped_more limit (built_from w limit fs) A B sorted (λ j. stopped-built limit j A) (λ j. held-built limit j A) k ∙ rw AB (sym (stopped-built limit k (A ++ B))))

  more-inserts : (fs gs : List Fingerprint) → inserted_all w limit gs (built_from w limit fs) ≡ built_from w limit (fs ++ gs)
  unfolding inserted_all
  more-inserts fs [] = ap (built_from w limit) (sym (append-nil fs))
  more-inserts fs (g ∷ gs) = ap (inserted_all w limit gs) (one_more fs g) ∙ more-inserts (fs ++ g ∷ []) gs ∙ ap (built_from w limit) (append_assoc fs (g ∷ []) gs)

  built-empty : built_from w limit [] ≡ empty
  unfolding built_from numbered keep place_all stop_keys
  built-empty = refl

  -- inserts into an empty index leave what the build leaves
  pub inserts-build : (fs : List Fingerprint) → inserted_all w limit fs empty ≡ built_from w limit fs
  inserts-build fs = rw (← built-empty) (more-inserts [] fs)
