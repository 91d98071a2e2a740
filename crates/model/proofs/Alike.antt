-- Request Eleven: a build and the same recordings inserted in order leave the same words. Assumes nothing.
use mathlib.Core.Path.{◌≡◌, refl, sym, ap, ap₂, ◌∙◌}
use mathlib.Core.Bool.{Bool, true, false}
use mathlib.Core.List.{List, [], ◌∷◌, ◌++◌, map, map-append}
use mathlib.Core.Option.{none}
use Prim.Native.Nat.{ℕ, ◌+◌, ◌-◌, ◌*◌, ◌/◌, ◌%◌, ◌≤◌}
use native.Mathlib.Nat.{div-add-mod, mul-add-div}
use native.Mathlib.Omega.{arith}
use lib.ListN.{length, replicate, length-append}
use lib.Seq.{take_at, drop_at}
use lib.Dec.{eqb}
use borrow.Author.Tests.{eqb-true, not-false}
use Rattle.lists.specs.Lists.{All, flat}
use Rattle.lists.specs.Entries.{entries, padded}
use Rattle.lists.proofs.Tests.{maybe, or-false-left}
use Rattle.lists.proofs.Entries.{entries-append, entries-take, padded-zeros}
use Rattle.model.specs.Fingerprints.{Hash, Fingerprint, hash_of, hash_count, hashes_of, fingerprint_of, divided, fingerprints_of, uneven, malformed, malformed_build, reference_most}
use Rattle.model.specs.Index.{Index, empty, inserted, built_from}
use Rattle.model.specs.Query.{Scheme}
use Rattle.model.specs.Calls.{Sizes, Store, holds, content, insert, refusal, build_tests, insert_tests, build_step, insert_step}
use Rattle.model.specs.Words.{Words, sizes_of, slices_listed, row_entries, write, head_width, row_width}
use Rattle.model.specs.Sound.{Sound}
use Rattle.model.specs.Run.{store_of, laid_out, run_build, run}
use Rattle.model.specs.History.{leaves, answers}
use Rattle.model.specs.Claim.{Accepted}
use Rattle.model.specs.Loading.{Recording, inserts, one_build, blank, LoadsAlike}
use Rattle.model.proofs.Fingerprints.{length-hashes}
use Rattle.model.proofs.Stores.{references-long, postings-long, stopped-long, written-sizes, store-again, store-written}
use Rattle.model.proofs.Preserved.{none-applies, empty-sound}
use Rattle.model.proofs.Run.{is-listed, run-answers, run-sizes, run-leaves}
use Rattle.model.proofs.Loading.{inserted_all, inserts-build}

-- ---- the words of a build are those of its recordings, one after the other

module _ (w : ℕ) (w2 : 2 ≤ w) where
  even-length : (a : List ℕ) → uneven w a ≡ false → length a ≡ (w - 1) * hash_count w a
  even-length a e =
      let r : length a % (w - 1) ≡ 0 = eqb-true (length a % (w - 1)) 0 (not-false (eqb (length a % (w - 1)) 0) e) in
      omega (arith, div-add-mod (length a) (w - 1))

  count-append : (a b : List ℕ) → uneven w a ≡ false → hash_count w (a ++ b) ≡ hash_count w a + hash_count w b
  count-append a b e =
      ap (λ (n : ℕ). n / (w - 1)) (length-append a b ∙ ap (λ (n : ℕ). n + length b) (even-length a e))
      ∙ mul-add-div {m = w - 1} (omega arith) (hash_count w a) (length b)

  hashes-append : (a b : List ℕ) → uneven w a ≡ false → hashes_of w (a ++ b) ≡ hashes_of w a ++ hashes_of w b
  unfolding hashes_of
  hashes-append a b e =
      ap (λ (n : ℕ). map hash_of (entries (w - 1) n (a ++ b))) (count-append a b e)
      ∙ ap (map hash_of) (entries-append (w - 1) (hash_count w a) (hash_count w b) (a ++ b)
      ∙ ap₂ (λ (l m : List (List ℕ)). l ++ m) first (ap (entries (w - 1) (hash_count w b)) (drop_at a b ((w - 1) * hash_count w a) (even-length a e))))
      ∙ map-append hash_of (entries (w - 1) (hash_count w a) a) (entries (w - 1) (hash_count w b) b)
    where
      first : entries (w - 1) (hash_count w a) (a ++ b) ≡ entries (w - 1) (hash_count w a) a
      first =
          sym (entries-take (w - 1) (hash_count w a) (a ++ b))
          ∙ ap (entries (w - 1) (hash_count w a)) (take_at a b ((w - 1) * hash_count w a) (even-length a e))

  abbrev fingerprints : List Recording → List Fingerprint
  fingerprints rs = map (λ r. fingerprint_of w r.rate r.set r.words) rs

  same-fingerprints : (rs : List Recording) → All (λ r. uneven w r.words ≡ false) rs
      → fingerprints_of w (flat (map (λ r. r.words) rs)) (map (λ r. hash_count w r.words) rs) (map (λ r. r.rate) rs) (map (λ r. r.set) rs) ≡ fingerprints rs
  unfolding divided flat
  same-fingerprints [] h = refl
  same-fingerprints (r ∷ rs) h =
      let long = length-hashes w r.words in
      ap (λ (hs : List Hash). divided hs (hash_count w r.words ∷ map (λ r. hash_count w r.words) rs) (r.rate ∷ map (λ r. r.rate) rs) (r.set ∷ map (λ r. r.set) rs)) (hashes-append r.words (flat (map (λ r. r.words) rs)) h.0)
      ∙ (λ i. record { rate = r.rate; set = r.set; hashes = take_at (hashes_of w r.words) (hashes_of w (flat (map (λ r. r.words) rs))) (hash_count w r.words) long i }
      ∷ divided (drop_at (hashes_of w r.words) (hashes_of w (flat (map (λ r. r.words) rs))) (hash_count w r.words) long i) (map (λ r. hash_count w r.words) rs) (map (λ r. r.rate) rs) (map (λ r. r.set) rs))
      ∙ ap (λ (fs : List Fingerprint). fingerprint_of w r.rate r.set r.words ∷ fs) (same-fingerprints rs h.1)

-- ---- the calls

module _ (S : Scheme) (w2 : 2 ≤ S.width) (limit : ℕ) where
  abbrev w : ℕ
  w = S.width

  abbrev built : List Recording → List Fingerprint
  built rs = fingerprints_of w (flat (map (λ r. r.words) rs)) (map (λ r. hash_count w r.words) rs) (map (λ r. r.rate) rs) (map (λ r. r.set) rs)

  -- an accepted insert
  insert-leaves : (t : Words) (r : Recording) (x : Index) → store_of w t ≡ holds x → Accepted (run S t (insert limit r.rate r.set r.words)).0
      → (uneven w r.words ≡ false) × (store_of w (run S t (insert limit r.rate r.set r.words)).1 ≡ holds (inserted w limit (fingerprint_of w r.rate r.set r.words) x))
  unfolding insert_step insert_tests malformed
  insert-leaves t r x e a =
      maybe (refusal tests)
      (λ d. (even d, run-leaves S w2 t (insert limit r.rate r.set r.words) ∙ rw d (ap (λ (s : Store). holds (inserted w limit (fingerprint_of w r.rate r.set r.words) (content s))) e)))
      (λ n d. absurd (a n (run-answers S w2 t (insert limit r.rate r.set r.words) ∙ rw d)))
    where
      tests : List (ℕ × Bool)
      tests = insert_tests (sizes_of w t) (store_of w t) (malformed w reference_most r.words) limit (fingerprint_of w r.rate r.set r.words)

      even : refusal tests ≡ none → uneven w r.words ≡ false
      even d = or-false-left (uneven w r.words) _ (none-applies tests d 3)

  inserts-leave : (t : Words) (x : Index) (rs : List Recording) → store_of w t ≡ holds x → All Accepted (answers S (run S) t (inserts S limit rs))
      → All (λ r. uneven w r.words ≡ false) rs × (store_of w (leaves S (run S) t (inserts S limit rs)) ≡ holds (inserted_all w limit (fingerprints w w2 rs) x)) × (sizes_of w (leaves S (run S) t (inserts S limit rs)) ≡ sizes_of w t)
  unfolding inserted_all leaves answers
  inserts-leave t x [] e a = (tt, e, refl)
  inserts-leave t x (r ∷ rs) e a =
      let one = insert-leaves t r x e a.0 in
      let rest = inserts-leave (run S t (insert limit r.rate r.set r.words)).1 (inserted w limit (fingerprint_of w r.rate r.set r.words) x) rs one.1 a.1 in
      ((one.0, rest.0), rest.1, rest.2 ∙ run-sizes S w2 t (insert limit r.rate r.set r.words))

  -- an accepted build
  build-leaves : (m : Words) (rs : List Recording) → Accepted (run S m (one_build S limit rs)).0
      → (slices_listed w m ≡ true) × ((run S m (one_build S limit rs)).1 ≡ write w (sizes_of w m) (built_from w limit (built rs)))
  unfolding run_build build_step build_tests
  build-leaves m rs a = maybe (refusal tests)
      (λ d. (is-listed w m w2 (none-applies tests d 1), rw d))
      (λ n d. absurd (a n (rw d)))
    where
      tests : List (ℕ × Bool)
      tests = build_tests (sizes_of w m) (store_of w m) (malformed_build w (flat (map (λ r. r.words) rs)) (map (λ r. hash_count w r.words) rs) (map (λ r. r.rate) rs) (map (λ r. r.set) rs)) limit (built rs)

  -- every word zero: an empty index, laid out
  blank-is : (m : Words) → slices_listed w m ≡ true → write w (sizes_of w m) empty ≡ blank m
  unfolding write row_entries flat
  blank-is m l = λ i. record { references = references i; postings = postings i; stopped = stopped i }
    where
      references : padded (head_width + row_width * (sizes_of w m).R) (0 ∷ 0 ∷ 0 ∷ 0 ∷ []) ≡ replicate (length m.references) 0
      references = padded-zeros (head_width + row_width * (sizes_of w m).R) head_width (omega arith) ∙ ap (λ (n : ℕ). replicate n 0) (sym (references-long w m w2 l))

      postings : padded (w * (sizes_of w m).P) [] ≡ replicate (length m.postings) 0
      postings = padded-zeros (w * (sizes_of w m).P) 0 (omega arith) ∙ ap (λ (n : ℕ). replicate n 0) (sym (postings-long w m w2 l))

      stopped : padded (sizes_of w m).K [] ≡ replicate (length m.stopped) 0
      stopped = padded-zeros (sizes_of w m).K 0 (omega arith) ∙ ap (λ (n : ℕ). replicate n 0) (sym (stopped-long w m w2 l))

pub loads-alike : (S : Scheme) → 2 ≤ S.width → LoadsAlike S
loads-alike S w2 m limit rs a b =
    sym (store-again S.width t w2)
    ∙ ap (laid_out S.width t) (I.1 ∙ ap holds (inserts-build S.width limit (fingerprints S.width w2 rs) ∙ ap (built_from S.width limit) (sym (same-fingerprints S.width w2 rs I.0))))
    ∙ ap (λ (z : Sizes). write S.width z (built_from S.width limit (built S w2 limit rs))) (I.2 ∙ ap (sizes_of S.width) (sym zero) ∙ written-sizes S.width (sizes_of S.width m) empty w2 sound)
    ∙ sym B.1
  where
    B : (slices_listed S.width m ≡ true) × ((run S m (one_build S limit rs)).1 ≡ write S.width (sizes_of S.width m) (built_from S.width limit (built S w2 limit rs)))
    B = build-leaves S w2 limit m rs b

    sound : Sound S.width (sizes_of S.width m) empty
    sound = empty-sound S.width (sizes_of S.width m) w2

    zero : write S.width (sizes_of S.width m) empty ≡ blank m
    zero = blank-is S w2 limit m B.0

    t : Words
    t = leaves S (run S) (blank m) (inserts S limit rs)

    I : All (λ r. uneven S.width r.words ≡ false) rs × (store_of S.width t ≡ holds (inserted_all S.width limit (fingerprints S.width w2 rs) empty)) × (sizes_of S.width t ≡ sizes_of S.width (blank m))
    I = inserts-leave S w2 limit (blank m) empty rs (ap (store_of S.width) (sym zero) ∙ store-written S.width m w2 B.0 empty sound) a
