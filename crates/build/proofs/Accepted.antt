-- What a build's tests say, and what an accepted build may assume. Assumes nothing.
use mathlib.Core.Path.{◌≡◌, refl, sym, ap, ◌∙◌}
use mathlib.Core.Bool.{Bool, true, false, not, ◌||◌}
use mathlib.Core.List.{List, [], ◌∷◌, ◌++◌, map, append-nil}
use mathlib.Core.Option.{Option, none, some}
use Prim.Native.Nat.{ℕ, ◌+◌, ◌*◌, ◌-◌, ◌/◌, ◌≤◌, ◌<◌}
use native.Mathlib.Nat.{mul-le-mul_left, mul-suc, le_trans, div-add-mod', mul-div-le}
use native.Mathlib.Omega.{arith}
use lib.ListN.{length, get_or, take, replicate, length-map}
use lib.Seq.{length-take-le}
use lib.Dec.{eqb, ltb}
use borrow.Author.Tests.{ltb-false, eqb-true, not-false}
use Rattle.lists.specs.Lists.{some?, All, sum, flat}
use Rattle.lists.specs.Entries.{entries, padded, Wide, keys_ascend}
use Rattle.lists.proofs.Tests.{test, or-false-left, or-false-right}
use Rattle.lists.proofs.Keep.{none_pass, all-imp, all_map}
use Rattle.lists.proofs.Entries.{entries-take, entries-flat, entries_sorted}
use Rattle.maps.specs.Puts.{entry_of}
use Rattle.maps.proofs.Puts.{length-entry_of}
use Rattle.build_ranges.specs.Codes.{rank_of, hash_place, in_order, Fit}
use Rattle.build_stops.specs.Over.{key_in, over_keys, keys_of, kept}
use Rattle.build_stops.proofs.Walk.{length-codes}
use Rattle.build_entries.specs.Laid.{laid_entries}
use Rattle.build_entries.proofs.Placing.{Names, place-small, order-names}
use Rattle.model.specs.Fingerprints.{Fingerprint, hashes_of, fingerprints_of, hash_count, uneven, malformed_build, reference_most}
use Rattle.model.specs.Rows.{row_of, is_set}
use Rattle.model.specs.Index.{empty, numbered, built_from, postings_after, stopped_after}
use Rattle.model.specs.Calls.{Store, holds, is_unlisted, Answer, built, refused, outcome, refusal, build_tests, build_step, number_of}
use Rattle.model.specs.Words.{Words, sizes_of, slices_listed, write, posting_words, row_entries, head_width, row_width}
use Rattle.model.specs.Run.{store_of, on_words, run_build}
use Rattle.model.proofs.Stores.{references-long, postings-long, stopped-long, store-again}
use Rattle.model.proofs.Fingerprints.{length-divided, length-numbered}
use Rattle.model.specs.Soundness.{sound_words}
use Rattle.soundness.specs.Scan.{words}
use Rattle.build.specs.Answers.{build_refusal, rows_for}
use Rattle.build.proofs.Tests.{few-rows, some-rows, few-postings, few-stops, faulty-is}
use Rattle.build.proofs.Order.{sorted-laid}
use Rattle.build.proofs.Left.{laid-is, keys-is, kept-is, stopped-is, rows_is}

-- ---- the store's lengths

pub unlisted-is : (w : ℕ) (m : Words) → is_unlisted (store_of w m) ≡ not (slices_listed w m)
unfolding store_of
unlisted-is w m = test (slices_listed w m)
    (λ e. rw e (test (sound_words w m) (λ d. rw d) (λ d. rw d)))
    (λ e. rw e)

-- ---- a table of tests

none-all : (es : List (ℕ × Bool)) → refusal es ≡ none → All (λ e. e.1 ≡ false) es
none-all [] h = tt
none-all (e ∷ es) h = test e.1 (λ t. absurd (never t)) (λ f. (f, none-all es (rw f at h)))
  where
    never : e.1 ≡ true → ⊥
    never t = let q : some e.0 ≡ none = rw t at h in let z : ◌≡◌ {A = ℕ} 0 1 = cc in omega arith

positive : (es : List (ℕ × Bool)) → All (λ e. 0 < e.0) es → number_of (refusal es) ≡ 0 → refusal es ≡ none
positive [] a h = refl
positive (e ∷ es) a h = test e.1
    (λ t. let p = a.0 in let z : e.0 ≡ 0 = rw t at h in absurd (omega arith))
    (λ f. rw f (positive es a.1 (rw f at h)))

-- a refused call and an accepted one
pub refused-is : (o : Option ℕ) (s t : Store) (a : Answer) (n : ℕ) → n ≡ number_of o → (n ≡ 0 → ⊥) → outcome o s a t ≡ (refused n, s)
refused-is none s t a n e h = absurd (h e)
refused-is (some k) s t a n e h = ap (λ i. (refused i, s)) (sym e)

module _ (w : ℕ) (m : Words) (limit : ℕ) (hashes lengths rates sets : List ℕ) where
  abbrev tests : List (ℕ × Bool)
  tests = build_tests (sizes_of w m) (store_of w m) (malformed_build w hashes lengths rates sets) limit (fingerprints_of w hashes lengths rates sets)

  abbrev fs : List Fingerprint
  fs = fingerprints_of w hashes lengths rates sets

  -- the rungs of the table
  pub rung-1 : slices_listed w m ≡ false → build_refusal w m limit hashes lengths rates sets ≡ 1
  unfolding build_refusal build_tests
  rung-1 e = rw (unlisted-is w m, e)

  module _ (l : slices_listed w m ≡ true) where
    pub rung-3 : malformed_build w hashes lengths rates sets ≡ true → build_refusal w m limit hashes lengths rates sets ≡ 3
    unfolding build_refusal build_tests
    rung-3 e = rw (unlisted-is w m, l, e)

    module _ (b : malformed_build w hashes lengths rates sets ≡ false) where
      pub rung-9 : some? (λ f. not (is_set f.set)) (fingerprints_of w hashes lengths rates sets) ≡ true → build_refusal w m limit hashes lengths rates sets ≡ 9
      unfolding build_refusal build_tests
      rung-9 e = rw (unlisted-is w m, l, b, e)

      module _ (g : some? (λ f. not (is_set f.set)) (fingerprints_of w hashes lengths rates sets) ≡ false) where
        pub rung-5 : ltb (sizes_of w m).R (length (fingerprints_of w hashes lengths rates sets)) ≡ true → build_refusal w m limit hashes lengths rates sets ≡ 5
        unfolding build_refusal build_tests
        rung-5 e = rw (unlisted-is w m, l, b, g, e)

        module _ (r : ltb (sizes_of w m).R (length (fingerprints_of w hashes lengths rates sets)) ≡ false) where
          pub rung-6 : ltb (sizes_of w m).P (length (numbered 0 (fingerprints_of w hashes lengths rates sets))) ≡ true → build_refusal w m limit hashes lengths rates sets ≡ 6
          unfolding build_refusal build_tests
          rung-6 e = rw (unlisted-is w m, l, b, g, r, e)

          module _ (p : ltb (sizes_of w m).P (length (numbered 0 (fingerprints_of w hashes lengths rates sets))) ≡ false) where
            pub rung-7 : ltb (sizes_of w m).K (length (stopped_after limit empty (numbered 0 (fingerprints_of w hashes lengths rates sets)))) ≡ true → build_refusal w m limit hashes lengths rates sets ≡ 7
            unfolding build_refusal build_tests
            rung-7 e = rw (unlisted-is w m, l, b, g, r, p, e)

            pub rung-0 : ltb (sizes_of w m).K (length (stopped_after limit empty (numbered 0 (fingerprints_of w hashes lengths rates sets)))) ≡ false → build_refusal w m limit hashes lengths rates sets ≡ 0
            unfolding build_refusal build_tests
            rung-0 e = rw (unlisted-is w m, l, b, g, r, p, e)

  -- accepted: no test applies
  pub record Accepted : Type 0 where
    pub listed-is : slices_listed w m ≡ true
    pub well-formed : malformed_build w hashes lengths rates sets ≡ false
    pub rows_fit : length (fingerprints_of w hashes lengths rates sets) ≤ (sizes_of w m).R
    pub postings-fit : length (numbered 0 (fingerprints_of w hashes lengths rates sets)) ≤ (sizes_of w m).P
    pub stopped-fit : length (stopped_after limit empty (numbered 0 (fingerprints_of w hashes lengths rates sets))) ≤ (sizes_of w m).K
    pub none_is : refusal (build_tests (sizes_of w m) (store_of w m) (malformed_build w hashes lengths rates sets) limit (fingerprints_of w hashes lengths rates sets)) ≡ none

  pub accepted : build_refusal w m limit hashes lengths rates sets ≡ 0 → Accepted
  unfolding build_refusal build_tests
  accepted h =
      let n = positive tests (omega arith, (omega arith, (omega arith, (omega arith, (omega arith, (omega arith, tt)))))) h in
      let a = none-all tests n in
      record {
        listed-is = not-false (slices_listed w m) (sym (unlisted-is w m) ∙ a.0);
        well-formed = a.1.0;
        rows_fit = ltb-false (sizes_of w m).R (length fs) a.1.1.1.0;
        postings-fit = ltb-false (sizes_of w m).P (length (numbered 0 fs)) a.1.1.1.1.0;
        stopped-fit = ltb-false (sizes_of w m).K (length (stopped_after limit empty (numbered 0 fs))) a.1.1.1.1.1.0;
        none_is = n;
      }

-- ---- a well-formed build

module _ (w : ℕ) (hashes lengths rates sets : List ℕ) (b : malformed_build w hashes lengths rates sets ≡ false) where
  abbrev long? : Bool
  long? = some? (λ n. ltb reference_most n) lengths

  abbrev rated? : Bool
  rated? = not (eqb (length rates) (length lengths))

  abbrev grouped? : Bool
  grouped? = not (eqb (length sets) (length lengths))

  abbrev summed? : Bool
  summed? = not (eqb (sum lengths) (hash_count w hashes))

  later : long? || (rated? || (grouped? || summed?)) ≡ false
  unfolding malformed_build
  later = or-false-right (uneven w hashes) (long? || (rated? || (grouped? || summed?))) b

  counted : rated? || (grouped? || summed?) ≡ false
  counted = or-false-right long? (rated? || (grouped? || summed?)) later

  last : grouped? || summed? ≡ false
  last = or-false-right rated? (grouped? || summed?) counted

  pub all_short : All (λ n. n ≤ 8192) lengths
  all_short = all-imp (λ n. ltb reference_most n ≡ false) (λ n. n ≤ 8192) (λ n e. ltb-false reference_most n e) lengths (none_pass (λ n. ltb reference_most n) lengths (or-false-left long? (rated? || (grouped? || summed?)) later))

  pub all-rated : length rates ≡ length lengths
  all-rated = eqb-true (length rates) (length lengths) (not-false (eqb (length rates) (length lengths)) (or-false-left rated? (grouped? || summed?) counted))

  pub all-grouped : length sets ≡ length lengths
  all-grouped = eqb-true (length sets) (length lengths) (not-false (eqb (length sets) (length lengths)) (or-false-left grouped? summed? last))

  pub all-summed : sum lengths ≡ hash_count w hashes
  all-summed = eqb-true (sum lengths) (hash_count w hashes) (not-false (eqb (sum lengths) (hash_count w hashes)) (or-false-right grouped? summed? last))

  pub fit_is : 3 ≤ w → w ≤ 5 → length lengths ≤ 4096 → ((i : ℕ) → get_or hashes i 0 < 0x1_0000_0000) → Fit hashes (w - 1) lengths
  fit_is w3 w5 few keys = record {
    some = omega arith;
    few = omega arith;
    recordings = few;
    short = all_short;
    whole = let d = div-add-mod' (length hashes) (w - 1) in rw all-summed (omega (arith, d, native.Mathlib.Nat.mul_comm (w - 1) (length hashes / (w - 1))));
    keys = keys;
  }

-- ---- the entries that are laid down

module _ (hashes : List ℕ) (w : ℕ) (lengths : List ℕ) (w3 : 3 ≤ w) (fit : Fit hashes (w - 1) lengths) where
  pub length-laid : length (laid_entries hashes w lengths) ≡ sum lengths
  unfolding laid_entries
  length-laid = length-map (in_order hashes (w - 1) lengths) (λ c. entry_of (w - 1) hashes (rank_of c / 8192) (hash_place lengths (rank_of c))) ∙ length-codes hashes (w - 1) lengths

  pub wide-laid : Wide w (laid_entries hashes w lengths)
  unfolding laid_entries
  wide-laid = all_map (λ c. entry_of (w - 1) hashes (rank_of c / 8192) (hash_place lengths (rank_of c))) (λ e. length e ≡ w) (in_order hashes (w - 1) lengths)
      (all-imp (λ c. Names lengths (rank_of c)) (λ c. length (entry_of (w - 1) hashes (rank_of c / 8192) (hash_place lengths (rank_of c))) ≡ w) (λ c h. wide (rank_of c / 8192) (hash_place lengths (rank_of c)) (place-small lengths (rank_of c) h)) (in_order hashes (w - 1) lengths) (order-names hashes w lengths fit))
    where
      wide : (id i : ℕ) → i < sum lengths → length (entry_of (w - 1) hashes id i) ≡ w
      wide id i lt =
          let room : (w - 1) * i + (w - 1) ≤ length hashes = rw mul-suc at (le_trans (mul-le-mul_left (w - 1) lt) fit.whole) in
          length-entry_of (w - 1) hashes id i (omega arith) room ∙ omega arith

  -- read back
  pub entries-laid : (m : ℕ) (s : List ℕ) → m ≡ sum lengths → take (w * sum lengths) s ≡ flat (laid_entries hashes w lengths) → entries w m s ≡ laid_entries hashes w lengths
  entries-laid m s em e =
      let k : w * sum lengths ≡ w * m = ap (λ n. w * n) (sym em) in
      let n : m ≡ length (laid_entries hashes w lengths) = em ∙ sym length-laid in
      sym (entries-take w m s) ∙ ap (entries w m) (rw k at e ∙ sym (append-nil (flat (laid_entries hashes w lengths)))) ∙ rw n (entries-flat w (laid_entries hashes w lengths) [] wide-laid)

  pub ascend-laid : (m : ℕ) (s : List ℕ) → m ≡ sum lengths → take (w * sum lengths) s ≡ flat (laid_entries hashes w lengths) → keys_ascend s w m ≡ true
  ascend-laid m s em e = entries_sorted w m s (omega arith) (rw (entries-laid m s em e) (sorted-laid hashes w lengths fit))

-- zeros behind what a list begins with
pub padded-is : (n k : ℕ) (s l : List ℕ) → length s ≡ n → k ≤ n → take k s ≡ l → take k s ++ replicate (length s - k) 0 ≡ padded n l
unfolding padded
padded-is n k s l en h e =
    let q : length l ≡ k = ap length (sym e) ∙ length-take-le k s (omega arith) in
    rw (e, en, q)

-- ---- what is written

module _ (w : ℕ) (refs posts stops : List ℕ) (limit : ℕ) (hashes lengths rates sets : List ℕ) (w3 : 3 ≤ w) (a : Accepted w (words refs posts stops) limit hashes lengths rates sets) (fit : Fit hashes (w - 1) lengths) where
  abbrev m : Words
  m = words refs posts stops

  rated : length rates ≡ length lengths
  rated = all-rated w hashes lengths rates sets a.well-formed

  grouped : length sets ≡ length lengths
  grouped = all-grouped w hashes lengths rates sets a.well-formed

  summed : sum lengths ≡ hash_count w hashes
  summed = all-summed w hashes lengths rates sets a.well-formed

  abbrev all : List Fingerprint
  all = fingerprints_of w hashes lengths rates sets

  pub kept-laid : kept limit (laid_entries hashes w lengths) ≡ map posting_words (postings_after limit empty (numbered 0 (fingerprints_of w hashes lengths rates sets)))
  kept-laid = ap (kept limit) (laid-is hashes w lengths rates sets w3 fit summed rated grouped) ∙ kept-is limit (numbered 0 all)

  pub stopped-laid : over_keys limit (keys_of (laid_entries hashes w lengths)) ≡ stopped_after limit empty (numbered 0 (fingerprints_of w hashes lengths rates sets))
  stopped-laid = ap (λ l. over_keys limit (keys_of l)) (laid-is hashes w lengths rates sets w3 fit summed rated grouped) ∙ stopped-is limit (numbered 0 all)

  -- built, and the three slices as the model lays them out
  pub written : (refs' posts' stops' : List ℕ) (p k : ℕ) → p ≡ length (kept limit (laid_entries hashes w lengths)) → k ≡ length (over_keys limit (keys_of (laid_entries hashes w lengths)))
      → refs' ≡ padded (length refs) (length lengths ∷ 0 ∷ p ∷ k ∷ flat (rows_for hashes w lengths rates sets))
      → posts' ≡ padded (length posts) (flat (kept limit (laid_entries hashes w lengths)))
      → stops' ≡ padded (length stops) (over_keys limit (keys_of (laid_entries hashes w lengths)))
      → (built, words refs' posts' stops') ≡ run_build w (words refs posts stops) limit hashes lengths rates sets
  unfolding run_build build_step built_from write
  written refs' posts' stops' p k ep ek er es et =
      let x = built_from w limit all in
      let n : length lengths ≡ length x.rows = sym (length-map all (λ f. some (row_of w f)) ∙ length-divided (hashes_of w hashes) lengths rates sets rated grouped) in
      let np : p ≡ length x.postings = ep ∙ ap length kept-laid ∙ length-map x.postings posting_words in
      let nk : k ≡ length x.stopped = ek ∙ ap length stopped-laid in
      let rs : rows_for hashes w lengths rates sets ≡ row_entries x.rows [] = sym (rows_is hashes w lengths rates sets rated grouped) in
      let e1 : refs' ≡ (write w (sizes_of w m) x).references = er ∙ (λ i. padded (references-long w m (omega arith) a.listed-is i) (n i ∷ 0 ∷ np i ∷ nk i ∷ flat (rs i))) in
      let e2 : posts' ≡ (write w (sizes_of w m) x).postings = es ∙ (λ i. padded (postings-long w m (omega arith) a.listed-is i) (flat (kept-laid i))) in
      let e3 : stops' ≡ (write w (sizes_of w m) x).stopped = et ∙ (λ i. padded (stopped-long w m (omega arith) a.listed-is i) (stopped-laid i)) in
      let o = a.none_is in
      (λ i. (built, words (e1 i) (e2 i) (e3 i))) ∙ rw o

-- a refused build
module _ (w : ℕ) (m : Words) (limit : ℕ) (hashes lengths rates sets : List ℕ) (n : ℕ) (e : n ≡ build_refusal w m limit hashes lengths rates sets) (h : n ≡ 0 → ⊥) where
  abbrev o : Option ℕ
  o = refusal (build_tests (sizes_of w m) (store_of w m) (malformed_build w hashes lengths rates sets) limit (fingerprints_of w hashes lengths rates sets))

  whole : outcome o (store_of w m) built (holds (built_from w limit (fingerprints_of w hashes lengths rates sets))) ≡ (refused n, store_of w m)
  unfolding build_refusal
  whole = refused-is o (store_of w m) (holds (built_from w limit (fingerprints_of w hashes lengths rates sets))) built n e h

  pub refused-run : 2 ≤ w → (refused n, m) ≡ run_build w m limit hashes lengths rates sets
  unfolding run_build build_step
  refused-run w2 = sym (ap (on_words w m) whole ∙ ap (λ (x : Words). (refused n, x)) (store-again w m w2))

-- ---- the tests of `refusal_of`

module _ (w : ℕ) (refs posts stops : List ℕ) (limit : ℕ) (hashes lengths rates sets : List ℕ) (b : malformed_build w hashes lengths rates sets ≡ false) where
  pub sets-test : some? (λ f. not (is_set f.set)) (fingerprints_of w hashes lengths rates sets) ≡ some? (λ s. not (is_set s)) sets
  sets-test = faulty-is (hashes_of w hashes) lengths rates sets (all-rated w hashes lengths rates sets b) (all-grouped w hashes lengths rates sets b)

  pub rows-test : ltb (sizes_of w (words refs posts stops)).R (length (fingerprints_of w hashes lengths rates sets)) ≡ ltb ((length refs - head_width) / row_width) (length lengths)
  unfolding sizes_of
  rows-test = ap (ltb ((length refs - head_width) / row_width)) (length-divided (hashes_of w hashes) lengths rates sets (all-rated w hashes lengths rates sets b) (all-grouped w hashes lengths rates sets b))

  pub postings-test : ltb (sizes_of w (words refs posts stops)).P (length (numbered 0 (fingerprints_of w hashes lengths rates sets))) ≡ ltb (length posts / w) (length hashes / (w - 1))
  unfolding sizes_of
  postings-test = ap (ltb (length posts / w)) (length-numbered w hashes lengths rates sets (all-rated w hashes lengths rates sets b) (all-grouped w hashes lengths rates sets b) (all-summed w hashes lengths rates sets b))

  pub stopped-test : 3 ≤ w → Fit hashes (w - 1) lengths
      → ltb (sizes_of w (words refs posts stops)).K (length (stopped_after limit empty (numbered 0 (fingerprints_of w hashes lengths rates sets)))) ≡ ltb (length stops) (length (over_keys limit (map key_in (in_order hashes (w - 1) lengths))))
  unfolding sizes_of
  stopped-test w3 fit =
      ap (λ l. ltb (length stops) (length l))
      (sym (ap (over_keys limit) (keys-is hashes w lengths rates sets w3 fit (all-summed w hashes lengths rates sets b) (all-rated w hashes lengths rates sets b) (all-grouped w hashes lengths rates sets b)) ∙ stopped-is limit (numbered 0 (fingerprints_of w hashes lengths rates sets))))

-- ---- what an accepted build may assume

module _ (w : ℕ) (refs posts stops : List ℕ) (limit : ℕ) (hashes lengths rates sets : List ℕ) (w3 : 3 ≤ w) (w5 : w ≤ 5) (a : Accepted w (words refs posts stops) limit hashes lengths rates sets) where
  abbrev b : malformed_build w hashes lengths rates sets ≡ false
  b = a.well-formed

  rows-room : length lengths ≤ (length refs - head_width) / row_width
  unfolding sizes_of
  rows-room = omega (arith, a.rows_fit, length-divided (hashes_of w hashes) lengths rates sets (all-rated w hashes lengths rates sets b) (all-grouped w hashes lengths rates sets b))

  postings-room : length hashes / (w - 1) ≤ length posts / w
  unfolding sizes_of
  postings-room = omega (arith, a.postings-fit, length-numbered w hashes lengths rates sets (all-rated w hashes lengths rates sets b) (all-grouped w hashes lengths rates sets b) (all-summed w hashes lengths rates sets b))

  pub accepted-fit : ((i : ℕ) → get_or hashes i 0 < 0x1_0000_0000) → Fit hashes (w - 1) lengths
  accepted-fit keys = fit_is w hashes lengths rates sets b w3 w5 (omega (arith, rows-room, few-rows w refs posts stops (omega arith) a.listed-is)) keys

  pub accepted-rated : length rates ≡ length lengths
  accepted-rated = all-rated w hashes lengths rates sets b

  pub accepted-grouped : length sets ≡ length lengths
  accepted-grouped = all-grouped w hashes lengths rates sets b

  pub accepted-rows : head_width + row_width * length lengths ≤ length refs
  accepted-rows = omega (arith, rows-room, some-rows w refs posts stops (omega arith) a.listed-is)

  pub accepted-many : length hashes / (w - 1) ≡ sum lengths
  accepted-many = sym (all-summed w hashes lengths rates sets b)

  pub accepted-postings : w * (length hashes / (w - 1)) ≤ length posts
  accepted-postings = le_trans (mul-le-mul_left w postings-room) (mul-div-le (length posts) w)

  pub accepted-few : length hashes / (w - 1) < 0x1_0000_0000
  accepted-few = omega (arith, postings-room, few-postings w refs posts stops (omega arith) a.listed-is)

  pub accepted-stops : Fit hashes (w - 1) lengths → length (over_keys limit (keys_of (laid_entries hashes w lengths))) ≤ length stops
  unfolding sizes_of
  accepted-stops fit = rw (stopped-laid w refs posts stops limit hashes lengths rates sets w3 a fit) a.stopped-fit

  pub accepted-keys : length stops < 0x1_0000_0000
  accepted-keys = omega (arith, few-stops w refs posts stops (omega arith) a.listed-is)
