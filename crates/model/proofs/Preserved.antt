-- Each call keeps the store sound and the history's catalog in agreement with it. Assumes nothing.
use mathlib.Core.Path.{◌≡◌, refl, sym, ap, ◌∙◌}
use mathlib.Core.Bool.{Bool, true, false, cond, not, ◌&&◌, ◌||◌}
use mathlib.Core.List.{List, [], ◌∷◌, ◌++◌, map}
use mathlib.Core.Option.{Option, none, some}
use Prim.Native.Nat.{ℕ, suc, ◌+◌, ◌-◌, ◌≤◌, ◌<◌}
use native.Mathlib.Nat.{zero-add, add-zero}
use native.Mathlib.Omega.{arith}
use lib.ListN.{length, get_or, set, length-append, length-take, length-set, length-map, get_or-append, get_or-eq_default}
use lib.Seq.{get_or-take, get_or-append_seam}
use lib.Dec.{eqb, ltb}
use borrow.Author.Tests.{ltb-true, ltb-false, eqb-true, eqb-false, eq-eqb, ne_eqb, not-false}
use Rattle.lists.specs.Lists.{keep, some?, All}
use Rattle.lists.proofs.Tests.{test, maybe, not-both, and_right}
use Rattle.lists.proofs.Keep.{all-at, all_keep, all-kept, all-imp, all_append, all_both, all_set, length-keep, keep_append, keep-no, keep-nil, none_pass}
use Rattle.lists.proofs.Place.{under-keep, sorted-keep, all-place_all, length-place_all}
use Rattle.model.specs.Fingerprints.{Hash, Fingerprint, fingerprint_of, fingerprints_of, malformed, malformed_build, reference_most}
use Rattle.model.specs.Rows.{Row, has_rmax, is_canonical, is_set, row_of, row_sound, hash_sound}
use Rattle.model.specs.Index.{Posting, Index, empty, key_of, posted, numbered, unskipped, exceeds, is_stopped, placed, postings_after, stopped_after, without_id, new_id, popped, put_row, is_live, inserted, built_from, erased}
use Rattle.model.specs.Query.{Scheme, Catalog, catalog}
use Rattle.model.specs.Calls.{Sizes, Store, unlisted, unsound, holds, content, is_unlisted, is_unsound, Call, build, insert, remove, replace, live_count, query, refusal, build_tests, insert_tests, replace_tests, plain_tests, query_tests, set_of, build_step, insert_step, remove_step, replace_step, count_step, query_step, step}
use Rattle.model.specs.Sound.{is_dead, good_row, good_hash, Sound, SoundStore}
use Rattle.model.specs.History.{with_recording, without_recording, from_build, after, leaves, answers, replay}
use Rattle.model.specs.Refusals.{test_of}
use Rattle.model.proofs.Fingerprints.{row-sound, hashes-sound, WideHashes, wide-hashes, wide-fingerprints, wide-posted, wide-numbered}
use Rattle.model.proofs.Parts.{get_or-put_row, length-put_row, get_or-set_none, dead-fewer, dead-more, ascending-stop_keys}
use Rattle.model.proofs.Agree.{Agrees, agrees-self, Clean, kept_same, stops_same, kept-sorted, kept-clean, held-clean}

-- ---- tables of refusals

-- no test applies to a call that is not refused, and the other way round
pub none-applies : (es : List (ℕ × Bool)) → refusal es ≡ none → (n : ℕ) → test_of n es ≡ false
none-applies [] h n = refl
none-applies (e ∷ es) h n = test e.1
    (λ t. let k : some e.0 ≡ none = (rw t at h) in let m : ◌≡◌ {A = ℕ} 0 1 = cc in absurd (omega arith))
    (λ t. rw t (test (eqb e.0 n) (λ d. rw d) (λ d. rw d (none-applies es (rw t at h) n))))

pub not-refused : (es : List (ℕ × Bool)) → All (λ e. e.1 ≡ false) es → refusal es ≡ none
not-refused [] h = refl
not-refused (e ∷ es) h = rw h.0 (not-refused es h.1)

-- ---- the new id

module _ (w : ℕ) (z : Sizes) (x : Index) (h : Sound w z x) where
  pub new_id-le : new_id x ≤ length x.rows
  new_id-le = test (eqb (length x.vacant) 0)
      (λ e. rw e (omega arith))
      (λ e. let ne = eqb-false (length x.vacant) 0 e in rw e (omega (arith, h.within (length x.vacant - 1) (omega (arith, ne)))))

  pub new_id-dead : get_or x.rows (new_id x) none ≡ none
  new_id-dead = test (eqb (length x.vacant) 0)
      (λ e. rw e (get_or-eq_default x.rows none (omega arith)))
      (λ e. let ne = eqb-false (length x.vacant) 0 e in rw e (h.dead (length x.vacant - 1) (omega (arith, ne))))

  new_id-other : (i : ℕ) → i < length x.vacant - 1 → get_or x.vacant i 0 ≡ new_id x → ⊥
  new_id-other i lt e = test (eqb (length x.vacant) 0)
      (λ d. let n = eqb-true (length x.vacant) 0 d in omega arith)
      (λ d. let last : i ≡ length x.vacant - 1 = h.once i (length x.vacant - 1) (omega arith) (omega arith) (rw d at e) in omega arith)

  -- the rows with the new one fit, and one fewer is dead if one was
  rows-fit-after : (eqb (length x.vacant) 0 && eqb (length x.rows) z.R) ≡ false → (r : Row) → length (put_row x.rows (new_id x) r) ≤ z.R
  rows-fit-after room r = test (eqb (length x.vacant) 0)
      (λ e. let ne = eqb-false (length x.rows) z.R (rw e at room) in
      rw (length-put_row x.rows (new_id x) r new_id-le, e) (omega (arith, ne, h.rows_fit)))
      (λ e. let ne = eqb-false (length x.vacant) 0 e in
      rw (length-put_row x.rows (new_id x) r new_id-le, e) (omega (arith, h.within (length x.vacant - 1) (omega (arith, ne)), h.rows_fit)))

  as-many-after : (r : Row) → length (keep is_dead (put_row x.rows (new_id x) r)) ≡ length (popped x.vacant)
  as-many-after r = test (eqb (length x.vacant) 0)
      (λ e. rw (e, eq-eqb (length x.rows) (length x.rows) refl, keep_append is_dead x.rows (some r ∷ []), keep-no is_dead (some r) [] refl, keep-nil is_dead)
      (omega (arith, length-append (keep is_dead x.rows) [], length-take (length x.vacant - 1) x.vacant, h.as_many, eqb-true (length x.vacant) 0 e)))
      (λ e. let ne = eqb-false (length x.vacant) 0 e in
      let lt = h.within (length x.vacant - 1) (omega (arith, ne)) in
      rw (e, ne_eqb (get_or x.vacant (length x.vacant - 1) 0) (length x.rows) (λ g. omega arith))
      (omega (
        arith,
        ne,
        length-take (length x.vacant - 1) x.vacant,
        h.as_many,
        dead-fewer x.rows (get_or x.vacant (length x.vacant - 1) 0) r lt (h.dead (length x.vacant - 1) (omega (arith, ne))),
      )))

-- ---- new postings

module _ (limit : ℕ) (x : Index) (new : List Posting) where
  -- what holds of the postings and of the new ones holds of those after
  all_after : (P : Posting → Type 0) → All P new → All P x.postings → All P (postings_after limit x new)
  all_after P h k =
      all_keep P (λ p. not (exceeds limit new (placed x new) (key_of p))) (placed x new)
      (all-place_all key_of P (unskipped (is_stopped x) new) x.postings (all_keep P (λ p. not (is_stopped x (key_of p))) new h) k)

  fit-after : length (postings_after limit x new) ≤ length x.postings + length (unskipped (is_stopped x) new)
  fit-after = omega (arith, length-keep (λ p. not (exceeds limit new (placed x new) (key_of p))) (placed x new), length-place_all key_of (unskipped (is_stopped x) new) x.postings)

-- a recording's row may hold its hashes
posted-good : (w : ℕ) (rows : List (Option Row)) (id : ℕ) (r : Row) (hs : List Hash) → get_or rows id none ≡ some r → All (λ g. hash_sound w r g ≡ true) hs
    → All (λ p. good_hash w (get_or rows p.id none) p.hash ≡ true) (posted id hs)
posted-good w rows id r [] e h = tt
posted-good w rows id r (g ∷ gs) e h = (rw e h.0, posted-good w rows id r gs e h.1)

module _ (w : ℕ) (z : Sizes) (w2 : 2 ≤ w) where
  -- ---- insert

  module _ (limit : ℕ) (f : Fingerprint) (x : Index) (h : Sound w z x) where
    abbrev new : List Posting
    new = posted (new_id x) f.hashes

    abbrev rows : List (Option Row)
    rows = put_row x.rows (new_id x) (row_of w f)

    row-after : (j : ℕ) → get_or rows j none ≡ cond (eqb j (new_id x)) (some (row_of w f)) (get_or x.rows j none)
    row-after = get_or-put_row x.rows (new_id x) (row_of w f) (new_id-le w z x h)

    pub inserted-agrees : (c : Catalog) → Agrees (catalog x) c → Agrees (catalog (inserted w limit f x)) (with_recording w limit f (new_id x) c)
    unfolding inserted with_recording
    inserted-agrees c A = record {
      size = length-put_row x.rows (new_id x) (row_of w f) (new_id-le w z x h) ∙ rw A.size;
      live = λ j. row-after j ∙ rw (A.live j);
      vacant = ap popped A.vacant;
      held = kept_same limit x c A h.sorted new;
      stopped = stops_same limit x c A h.sorted new;
    }

    -- the vacant entries but the last
    below : (i : ℕ) → i < length (popped x.vacant) → i < length x.vacant - 1
    below i lt = omega (arith, length-take (length x.vacant - 1) x.vacant)

    entry : (i : ℕ) → i < length (popped x.vacant) → get_or (popped x.vacant) i 0 ≡ get_or x.vacant i 0
    entry i lt = get_or-take (length x.vacant - 1) x.vacant i 0 (below i lt)

    old : (i : ℕ) → i < length (popped x.vacant) → i < length x.vacant
    old i lt = omega (arith, below i lt)

    rows-good-after : is_set f.set ≡ true → All (λ o. good_row w o ≡ true) rows
    rows-good-after ok = test (eqb (new_id x) (length x.rows))
        (λ e. rw e (all_append (λ o. good_row w o ≡ true) x.rows (some (row_of w f) ∷ []) h.rows-good (row-sound w f ok, tt)))
        (λ e. rw e (all_set (λ o. good_row w o ≡ true) x.rows (new_id x) (some (row_of w f)) (row-sound w f ok) h.rows-good))

    -- an old posting's row is another
    old-good : (p : Posting) → good_hash w (get_or x.rows p.id none) p.hash ≡ true → good_hash w (get_or rows p.id none) p.hash ≡ true
    old-good p e = test (eqb p.id (new_id x))
        (λ d. let g : good_hash w (get_or x.rows p.id none) p.hash ≡ false = rw (eqb-true p.id (new_id x) d, new_id-dead w z x h) in absurd (not-both e g))
        (λ d. rw (row-after p.id, d) e)

    pub inserted-sound : WideHashes w f.hashes → not (is_set f.set) ≡ false → (eqb (length x.vacant) 0 && eqb (length x.rows) z.R) ≡ false
        → ltb z.P (length x.postings + length (unskipped (is_stopped x) new)) ≡ false → ltb z.K (length (stopped_after limit x new)) ≡ false
        → Sound w z (inserted w limit f x)
    unfolding inserted
    inserted-sound wide nine five six seven = record {
      rows_fit = rows-fit-after w z x h five (row_of w f);
      postings-fit = omega (arith, fit-after limit x new, ltb-false z.P (length x.postings + length (unskipped (is_stopped x) new)) six);
      stopped-fit = ltb-false z.K (length (stopped_after limit x new)) seven;
      rows-good = rows-good-after (not-false (is_set f.set) nine);
      as_many = as-many-after w z x h (row_of w f);
      within = λ i lt. rw (entry i lt, length-put_row x.rows (new_id x) (row_of w f) (new_id-le w z x h)) (omega (arith, h.within i (old i lt)));
      dead = λ i lt. rw (entry i lt, row-after (get_or x.vacant i 0), ne_eqb (get_or x.vacant i 0) (new_id x) (new_id-other w z x h i (below i lt))) (h.dead i (old i lt));
      once = λ i j lt lt' e. h.once i j (old i lt) (old j lt') (sym (entry i lt) ∙ e ∙ entry j lt');
      sorted = kept-sorted limit x new h.sorted;
      ascending = ascending-stop_keys (exceeds limit new (placed x new)) new x.stopped h.ascending;
      wide = all_after limit x new (λ p. 2 + length p.hash.times ≡ w) (wide-posted w w2 (new_id x) f.hashes wide) h.wide;
      postings-good = all_after limit x new (λ p. good_hash w (get_or rows p.id none) p.hash ≡ true)
          (posted-good w rows (new_id x) (row_of w f) f.hashes (row-after (new_id x) ∙ rw (eq-eqb (new_id x) (new_id x) refl)) (hashes-sound w f))
          (all-imp (λ p. good_hash w (get_or x.rows p.id none) p.hash ≡ true) (λ p. good_hash w (get_or rows p.id none) p.hash ≡ true) old-good x.postings h.postings-good);
      unstopped = kept-clean limit x new h.unstopped;
    }

  -- ---- build

  pub empty-sound : Sound w z empty
  unfolding keep
  empty-sound = record {
    rows_fit = omega arith;
    postings-fit = omega arith;
    stopped-fit = omega arith;
    rows-good = tt;
    as_many = refl;
    within = λ i lt. absurd (omega arith);
    dead = λ i lt. absurd (omega arith);
    once = λ i j lt lt' e. absurd (omega arith);
    sorted = tt;
    ascending = tt;
    wide = tt;
    postings-good = tt;
    unstopped = tt;
  }

  abbrev rows_of : List Fingerprint → List (Option Row)
  rows_of fs = map (λ f. some (row_of w f)) fs

  rows-good-built : (fs : List Fingerprint) → All (λ f. not (is_set f.set) ≡ false) fs → All (λ o. good_row w o ≡ true) (rows_of fs)
  rows-good-built [] h = tt
  rows-good-built (f ∷ fs) h = (row-sound w f (not-false (is_set f.set) h.0), rows-good-built fs h.1)

  none-dead : (fs : List Fingerprint) → keep is_dead (rows_of fs) ≡ []
  unfolding keep
  none-dead [] = refl
  none-dead (f ∷ fs) = none-dead fs

  numbered-good : (rows : List (Option Row)) (i : ℕ) (fs : List Fingerprint) → ((j : ℕ) → get_or rows (i + j) none ≡ get_or (rows_of fs) j none)
      → All (λ p. good_hash w (get_or rows p.id none) p.hash ≡ true) (numbered i fs)
  unfolding numbered
  numbered-good rows i [] h = tt
  numbered-good rows i (f ∷ fs) h =
      all_append (λ p. good_hash w (get_or rows p.id none) p.hash ≡ true) (posted i f.hashes) (numbered (suc i) fs)
      (posted-good w rows i (row_of w f) f.hashes (rw (add-zero) at (h 0)) (hashes-sound w f))
      (numbered-good rows (suc i) fs (λ j. let e : suc i + j ≡ i + suc j = omega arith in rw e (h (suc j))))

  module _ (limit : ℕ) (fs : List Fingerprint) where
    pub built-agrees : Agrees (catalog (built_from w limit fs)) (from_build w limit fs)
    unfolding built_from from_build
    built-agrees = record {
      size = length-map fs (λ f. some (row_of w f));
      live = λ j. refl;
      vacant = refl;
      held = kept_same limit empty (catalog empty) (agrees-self (catalog empty)) tt (numbered 0 fs);
      stopped = stops_same limit empty (catalog empty) (agrees-self (catalog empty)) tt (numbered 0 fs);
    }

    pub built-sound : All (λ f. WideHashes w f.hashes) fs → some? (λ f. not (is_set f.set)) fs ≡ false → ltb z.R (length fs) ≡ false → ltb z.P (length (numbered 0 fs)) ≡ false
        → ltb z.K (length (stopped_after limit empty (numbered 0 fs))) ≡ false → Sound w z (built_from w limit fs)
    unfolding built_from
    built-sound wide nine five six seven = record {
      rows_fit = omega (arith, length-map fs (λ f. some (row_of w f)), ltb-false z.R (length fs) five);
      postings-fit = omega (arith, fit-after limit empty (numbered 0 fs), length-keep (λ p. not (is_stopped empty (key_of p))) (numbered 0 fs), ltb-false z.P (length (numbered 0 fs)) six);
      stopped-fit = ltb-false z.K (length (stopped_after limit empty (numbered 0 fs))) seven;
      rows-good = rows-good-built fs (none_pass (λ f. not (is_set f.set)) fs nine);
      as_many = ap length (none-dead fs);
      within = λ i lt. absurd (omega arith);
      dead = λ i lt. absurd (omega arith);
      once = λ i j lt lt' e. absurd (omega arith);
      sorted = kept-sorted limit empty (numbered 0 fs) tt;
      ascending = ascending-stop_keys (exceeds limit (numbered 0 fs) (placed empty (numbered 0 fs))) (numbered 0 fs) [] tt;
      wide = all_after limit empty (numbered 0 fs) (λ p. 2 + length p.hash.times ≡ w) (wide-numbered w w2 0 fs wide) tt;
      postings-good = all_after limit empty (numbered 0 fs) (λ p. good_hash w (get_or (rows_of fs) p.id none) p.hash ≡ true)
          (numbered-good (rows_of fs) 0 fs (λ j. rw zero-add)) tt;
      unstopped = kept-clean limit empty (numbered 0 fs) tt;
    }

  -- ---- remove

  module _ (id : ℕ) (x : Index) (h : Sound w z x) where
    pub erased-agrees : (c : Catalog) → Agrees (catalog x) c → Agrees (catalog (erased id x)) (without_recording id c)
    unfolding erased without_recording
    erased-agrees c A = record {
      size = length-set x.rows id none ∙ A.size;
      live = λ j. get_or-set_none x.rows id j ∙ rw (A.live j);
      vacant = ap (λ (l : List ℕ). l ++ id ∷ []) A.vacant;
      held = under-keep key_of (λ p. not (eqb p.id id)) x.postings c.held A.held;
      stopped = A.stopped;
    }

    module _ (live : is_live (get_or x.rows id none) ≡ true) where
      pub inside : id < length x.rows
      inside = test (ltb id (length x.rows)) (λ e. ltb-true id (length x.rows) e)
          (λ e. let n : is_live (get_or x.rows id none) ≡ false = rw (get_or-eq_default x.rows none (ltb-false id (length x.rows) e)) in absurd (not-both live n))

      kept_entry : (i : ℕ) → i < length x.vacant → get_or (x.vacant ++ id ∷ []) i 0 ≡ get_or x.vacant i 0
      kept_entry i lt = get_or-append x.vacant (id ∷ []) 0 i lt

      last : get_or (x.vacant ++ id ∷ []) (length x.vacant) 0 ≡ id
      last = get_or-append_seam x.vacant id [] 0

      -- an entry is an old one, or the id
      data Entry (i : ℕ) : Type 0 where
        before : i < length x.vacant → Entry i
        here : i ≡ length x.vacant → Entry i

      which : (i : ℕ) → i < length (x.vacant ++ id ∷ []) → Entry i
      which i lt = test (ltb i (length x.vacant))
          (λ e. before (ltb-true i (length x.vacant) e))
          (λ e. here (omega (arith, ltb-false i (length x.vacant) e, length-append x.vacant (id ∷ []))))

      differs : (i : ℕ) → i < length x.vacant → get_or x.vacant i 0 ≡ id → ⊥
      differs i lt e = not-both live (rw (← e, h.dead i lt))

      other-good : (p : Posting) → (not (eqb p.id id) ≡ true) × (good_hash w (get_or x.rows p.id none) p.hash ≡ true) → good_hash w (get_or (set x.rows id none) p.id none) p.hash ≡ true
      other-good p e = test (eqb p.id id)
          (λ d. absurd (not-both e.0 (rw d)))
          (λ d. rw (get_or-set_none x.rows id p.id, d) e.1)

      pub erased-sound : Sound w z (erased id x)
      unfolding erased
      erased-sound = record {
        rows_fit = rw length-set h.rows_fit;
        postings-fit = omega (arith, length-keep (λ p. not (eqb p.id id)) x.postings, h.postings-fit);
        stopped-fit = h.stopped-fit;
        rows-good = all_set (λ o. good_row w o ≡ true) x.rows id none refl h.rows-good;
        as_many = omega (arith, dead-more x.rows id live, h.as_many, length-append x.vacant (id ∷ []));
        within = λ i lt. rw (length-set x.rows id none) (at-within i (which i lt));
        dead = λ i lt. at_dead i (which i lt);
        once = λ i j lt lt' e. at_once i j (which i lt) (which j lt') e;
        sorted = sorted-keep key_of (λ p. not (eqb p.id id)) x.postings h.sorted;
        ascending = h.ascending;
        wide = all_keep (λ p. 2 + length p.hash.times ≡ w) (λ p. not (eqb p.id id)) x.postings h.wide;
        postings-good = all-imp
            (λ (p : Posting). (not (eqb p.id id) ≡ true) × (good_hash w (get_or x.rows p.id none) p.hash ≡ true)) (λ p. good_hash w (get_or (set x.rows id none) p.id none) p.hash ≡ true) other-good
            (without_id id x.postings)
            (all_both (λ (p : Posting). not (eqb p.id id) ≡ true) (λ p. good_hash w (get_or x.rows p.id none) p.hash ≡ true) (without_id id x.postings)
            (all-kept (λ p. not (eqb p.id id)) x.postings)
            (all_keep (λ p. good_hash w (get_or x.rows p.id none) p.hash ≡ true) (λ p. not (eqb p.id id)) x.postings h.postings-good));
        unstopped = all_keep (λ p. is_stopped x (key_of p) ≡ false) (λ p. not (eqb p.id id)) x.postings h.unstopped;
      }
        where
          at-within : (i : ℕ) → Entry i → get_or (x.vacant ++ id ∷ []) i 0 < length x.rows
          at-within i (before lt) = rw (kept_entry i lt) (h.within i lt)
          at-within i (here e) = rw (e, last) inside

          at_dead : (i : ℕ) → Entry i → get_or (set x.rows id none) (get_or (x.vacant ++ id ∷ []) i 0) none ≡ none
          at_dead i (before lt) = rw (kept_entry i lt, get_or-set_none x.rows id (get_or x.vacant i 0), ne_eqb (get_or x.vacant i 0) id (differs i lt)) (h.dead i lt)
          at_dead i (here e) = rw (e, last, get_or-set_none x.rows id id, eq-eqb id id refl)

          at_once : (i j : ℕ) → Entry i → Entry j → get_or (x.vacant ++ id ∷ []) i 0 ≡ get_or (x.vacant ++ id ∷ []) j 0 → i ≡ j
          at_once i j (before a) (before b) e = h.once i j a b (sym (kept_entry i a) ∙ e ∙ kept_entry j b)
          at_once i j (before a) (here d) e = absurd (differs i a (sym (kept_entry i a) ∙ e ∙ rw (d, last)))
          at_once i j (here d) (before b) e = absurd (differs j b (sym (kept_entry j b) ∙ sym e ∙ rw (d, last)))
          at_once i j (here d) (here g) e = d ∙ sym g

-- ---- every call

pub record Inv (w : ℕ) (z : Sizes) (s : Store) (c : Catalog) : Type 0 where
  pub sound : Sound w z (content s)
  pub agrees : Agrees (catalog (content s)) c
  pub clean : Clean c

module _ (w : ℕ) (z : Sizes) (w2 : 2 ≤ w) where
  inv-built : (s : Store) (bad : Bool) (limit : ℕ) (fs : List Fingerprint) → All (λ f. WideHashes w f.hashes) fs → refusal (build_tests z s bad limit fs) ≡ none
      → Inv w z (holds (built_from w limit fs)) (from_build w limit fs)
  unfolding Clean from_build build_tests
  inv-built s bad limit fs wide e =
      let t = none-applies (build_tests z s bad limit fs) e in
      record {
        sound = built-sound w z w2 limit fs wide (t 9) (t 5) (t 6) (t 7);
        agrees = built-agrees w z w2 limit fs;
        clean = held-clean limit (catalog empty) (numbered 0 fs) tt;
      }

  pub inv-inserted : (s : Store) (c : Catalog) → Inv w z s c → (bad : Bool) (limit : ℕ) (f : Fingerprint) → WideHashes w f.hashes → refusal (insert_tests z s bad limit f) ≡ none
      → Inv w z (holds (inserted w limit f (content s))) (with_recording w limit f (new_id (content s)) c)
  unfolding Clean with_recording insert_tests
  inv-inserted s c I bad limit f wide e =
      let t = none-applies (insert_tests z s bad limit f) e in
      record {
        sound = inserted-sound w z w2 limit f (content s) I.sound wide (t 9) (t 5) (t 6) (t 7);
        agrees = inserted-agrees w z w2 limit f (content s) I.sound c I.agrees;
        clean = held-clean limit c (posted (new_id (content s)) f.hashes) I.clean;
      }

  pub inv-erased : (s : Store) (c : Catalog) → Inv w z s c → (id : ℕ) → is_live (get_or (content s).rows id none) ≡ true → Inv w z (holds (erased id (content s))) (without_recording id c)
  unfolding Clean without_recording
  inv-erased s c I id live = record {
    sound = erased-sound w z w2 id (content s) I.sound live;
    agrees = erased-agrees w z w2 id (content s) I.sound c I.agrees;
    clean = all_keep (λ p. c.stopped (key_of p) ≡ false) (λ p. not (eqb p.id id)) c.held I.clean;
  }

  -- ---- replace: the insertion into what the removal leaves

  live-set : (o : Option Row) → is_live o ≡ true → good_row w o ≡ true → is_set (set_of o) ≡ true
  unfolding row_sound
  live-set none e h = absurd (not-both e refl)
  live-set (some r) e h = and_right (has_rmax w || eqb r.rmax 0) (is_set r.set) (and_right (is_canonical r.rate) _ h)

  pub set-allowed : (x : Index) (id : ℕ) → Sound w z x → is_live (get_or x.rows id none) ≡ true → is_set (set_of (get_or x.rows id none)) ≡ true
  set-allowed x id h live = live-set (get_or x.rows id none) live (all-at (λ o. good_row w o ≡ true) x.rows none h.rows-good id (inside w z w2 id x h live))

  module _ (s : Store) (id limit rate : ℕ) (words : List ℕ) where
    -- of a recording that is live, its table is that of the insertion into what the removal leaves
    pub as-insertion : Sound w z (content s) → is_unlisted s ≡ false → is_unsound s ≡ false → is_live (get_or (content s).rows id none) ≡ true
        → refusal (replace_step w z s id limit rate words).tests
        ≡ refusal (insert_tests z (holds (erased id (content s))) (malformed w reference_most words) limit (fingerprint_of w rate (set_of (get_or (content s).rows id none)) words))
    unfolding replace_step remove_step insert_step insert_tests replace_tests
    as-insertion h l u live = rw (l, u, live, set-allowed (content s) id h live)

    module _ (e : refusal (replace_step w z s id limit rate words).tests ≡ none) where
      applies : (n : ℕ) → test_of n (replace_step w z s id limit rate words).tests ≡ false
      applies = none-applies (replace_step w z s id limit rate words).tests e

      pub replaced-listed : is_unlisted s ≡ false
      unfolding replace_step replace_tests
      replaced-listed = applies 1

      pub replaced-read : is_unsound s ≡ false
      unfolding replace_step replace_tests
      replaced-read = applies 2

      pub replaced-live : is_live (get_or (content s).rows id none) ≡ true
      unfolding replace_step replace_tests
      replaced-live = not-false (is_live (get_or (content s).rows id none)) (applies 10)

      pub then-accepted : Sound w z (content s)
          → refusal (insert_tests z (holds (erased id (content s))) (malformed w reference_most words) limit (fingerprint_of w rate (set_of (get_or (content s).rows id none)) words)) ≡ none
      then-accepted h = sym (as-insertion h replaced-listed replaced-read replaced-live) ∙ e

  pub inv-replaced : (s : Store) (c : Catalog) → Inv w z s c → (id limit rate : ℕ) (words : List ℕ) → refusal (replace_step w z s id limit rate words).tests ≡ none
      → let f = fingerprint_of w rate (set_of (get_or (content s).rows id none)) words in
      Inv w z (holds (inserted w limit f (erased id (content s)))) (with_recording w limit f (new_id (erased id (content s))) (without_recording id c))
  inv-replaced s c I id limit rate words e =
      inv-inserted (holds (erased id (content s))) (without_recording id c) (inv-erased s c I id (replaced-live s id limit rate words e))
      (malformed w reference_most words) limit (fingerprint_of w rate (set_of (get_or (content s).rows id none)) words) (wide-hashes w w2 words) (then-accepted s id limit rate words e I.sound)

  pub start-inv : (s : Store) → SoundStore w z s → Inv w z s (catalog (content s))
  unfolding Clean
  start-inv unlisted h = record { sound = empty-sound w z w2; agrees = agrees-self (catalog empty); clean = tt }
  start-inv unsound h = record { sound = empty-sound w z w2; agrees = agrees-self (catalog empty); clean = tt }
  start-inv (holds x) h = record { sound = h; agrees = agrees-self (catalog x); clean = h.unstopped }

pub sound-store : (w : ℕ) (z : Sizes) (t : Store) → Sound w z (content t) → SoundStore w z t
sound-store w z unlisted h = tt
sound-store w z unsound h = tt
sound-store w z (holds x) h = h

module _ (S : Scheme) (z : Sizes) (w2 : 2 ≤ S.width) where
  pub step-inv : (s : Store) (c : Catalog) → Inv S.width z s c → (x : Call S) → Inv S.width z (step S z s x).1 (after S c x (step S z s x).0)
  unfolding build_step insert_step remove_step replace_step count_step query_step after
  step-inv s c I (build limit words lengths rates sets) =
      maybe (refusal (build_tests z s (malformed_build S.width words lengths rates sets) limit (fingerprints_of S.width words lengths rates sets)))
      (λ e. rw e (inv-built S.width z w2 s (malformed_build S.width words lengths rates sets) limit (fingerprints_of S.width words lengths rates sets) (wide-fingerprints S.width w2 words lengths rates sets) e))
      (λ n e. rw e I)
  step-inv s c I (insert limit rate set words) =
      maybe (refusal (insert_tests z s (malformed S.width reference_most words) limit (fingerprint_of S.width rate set words)))
      (λ e. rw e (inv-inserted S.width z w2 s c I (malformed S.width reference_most words) limit (fingerprint_of S.width rate set words) (wide-hashes S.width w2 words) e))
      (λ n e. rw e I)
  step-inv s c I (remove id) = maybe (refusal (plain_tests s))
      (λ e. test (is_live (get_or (content s).rows id none)) (λ d. rw (e, d) (inv-erased S.width z w2 s c I id d)) (λ d. rw (e, d) I))
      (λ n e. rw e I)
  step-inv s c I (replace id limit rate words) =
      maybe (refusal (replace_step S.width z s id limit rate words).tests)
      (λ e. rw (e, replaced-live S.width z w2 s id limit rate words e, ← (I.agrees.live id)) (inv-replaced S.width z w2 s c I id limit rate words e))
      (λ n e. rw e I)
  step-inv s c I live_count = maybe (refusal (plain_tests s)) (λ e. rw e I) (λ n e. rw e I)
  step-inv s c I (query q) = maybe (refusal (query_tests S s q)) (λ e. rw e I) (λ n e. rw e I)

  pub calls-inv : (s : Store) (c : Catalog) → Inv S.width z s c → (xs : List (Call S)) → Inv S.width z (leaves S (step S z) s xs) (replay S c xs (answers S (step S z) s xs))
  unfolding leaves replay answers
  calls-inv s c I [] = I
  calls-inv s c I (x ∷ xs) = calls-inv (step S z s x).1 (after S c x (step S z s x).0) (step-inv s c I x) xs
