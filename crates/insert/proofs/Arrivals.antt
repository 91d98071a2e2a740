-- What the model's insertion leaves of postings and stopped keys, from the places of the new hashes. Assumes nothing.
use mathlib.Core.Path.{◌≡◌, refl, sym, ap, ◌∙◌}
use mathlib.Core.Bool.{Bool, true, false, not, and-false}
use mathlib.Core.List.{List, [], ◌∷◌, map, map-append}
use Prim.Native.Nat.{ℕ, zero, suc, ◌+◌, ◌-◌, ◌≤◌}
use native.Mathlib.Omega.{arith}
use lib.ListN.{length, get_or, length-append, length-map}
use lib.Dec.{eqb, ltb}
use borrow.Author.Tests.{eqb-true, ne_eqb, le-ltb, not-true}
use Rattle.lists.specs.Lists.{keep, member, All}
use Rattle.lists.specs.Keys.{under, has_key, Sorted, Ascending, place_all, times}
use Rattle.lists.specs.Entries.{entries, entry_at, key_of as first_word, key_at}
use Rattle.lists.proofs.Tests.{test, not-both}
use Rattle.lists.proofs.Keep.{keep-map, keep-ext, keep-none, all-imp, all-kept, map-map, map_same, all_of}
use Rattle.lists.proofs.Place.{under-place_all, under-map, place_all-map}
use Rattle.lists.proofs.Ascending.{ascending-ext}
use Rattle.lists.proofs.Entries.{entries-suc, entry_key}
use Rattle.model.specs.Fingerprints.{Hash, hash_of, hashes_of, hash_count}
use Rattle.model.specs.Index.{Posting, Index, key_of, posted, unskipped, exceeds, is_stopped, placed, postings_after, stopped_after}
use Rattle.model.specs.Words.{posting_words}
use Rattle.model.proofs.Parts.{ascending-stop_keys}
use Rattle.model.proofs.Agree.{stopped_after-is}
use Rattle.insert_merge.specs.Order.{up_to, unstopped_at, taken, ordered, OverKeys, entries_of, without}
use Rattle.maps.specs.Puts.{entry_of}
use Rattle.insert_merge.proofs.Runs.{times-map}
use Rattle.insert_merge.proofs.Ordered.{under-ordered}
use Rattle.insert.proofs.Times.{some-kept, keep-keep, member-place_all, ascending-place_all, place_all-same, keep-place_all}

entries-up_to : (v n : ℕ) (s : List ℕ) → entries v n s ≡ map (λ j. entry_at v j s) (up_to n)
unfolding up_to entries
entries-up_to v zero s = refl
entries-up_to v (suc n) s = entries-suc v n s ∙ rw (entries-up_to v n s) (sym (map-append (λ (j : ℕ). entry_at v j s) (up_to n) (n ∷ [])))

-- the hash at place j as a posting of recording id
abbrev pub posting_at : ℕ → List ℕ → ℕ → ℕ → Posting
posting_at v words id j = record { id = id; hash = hash_of (entry_at v j words) }

pub posted-is : (w : ℕ) (words : List ℕ) (id : ℕ) → posted id (hashes_of w words) ≡ map (posting_at (w - 1) words id) (up_to (hash_count w words))
unfolding hashes_of
posted-is w words id =
    ap (λ (l : List (List ℕ)). posted id (map hash_of l)) (entries-up_to (w - 1) (hash_count w words) words)
    ∙ ap (posted id) (map-map hash_of (λ (j : ℕ). entry_at (w - 1) j words) (up_to (hash_count w words)))
    ∙ map-map (λ (h : Hash). record { id = id; hash = h }) (λ (j : ℕ). hash_of (entry_at (w - 1) j words)) (up_to (hash_count w words))

module _ (w : ℕ) (words : List ℕ) (id : ℕ) (w2 : 2 ≤ w) (x : Index) where
  abbrev v : ℕ
  v = w - 1

  abbrev n : ℕ
  n = hash_count w words

  abbrev new : List Posting
  new = posted id (hashes_of w words)

  abbrev key : ℕ → ℕ
  key j = key_at words (w - 1) j

  abbrev T : List ℕ
  T = taken (w - 1) words x.stopped (hash_count w words)

  key-is : (j : ℕ) → key_of (posting_at (w - 1) words id j) ≡ key_at words (w - 1) j
  key-is j = entry_key (w - 1) j words (omega arith)

  pub unskipped-is : unskipped (is_stopped x) (posted id (hashes_of w words)) ≡ map (posting_at (w - 1) words id) (taken (w - 1) words x.stopped (hash_count w words))
  unfolding taken
  unskipped-is =
      ap (unskipped (is_stopped x)) (posted-is w words id)
      ∙ keep-map (posting_at (w - 1) words id) (λ p. not (is_stopped x (key_of p))) (up_to n)
      ∙ ap (map (posting_at (w - 1) words id)) (keep-ext (λ j. not (is_stopped x (key_of (posting_at (w - 1) words id j)))) (unstopped_at (w - 1) words x.stopped) (λ j. rw (key-is j)) (up_to n))

  pub length-unskipped : length (unskipped (is_stopped x) (posted id (hashes_of w words))) ≡ length (taken (w - 1) words x.stopped (hash_count w words))
  length-unskipped = ap length unskipped-is ∙ length-map (taken (w - 1) words x.stopped (hash_count w words)) (posting_at (w - 1) words id)

  -- what stands under a key of places, as postings
  under-places : (k : ℕ) (js : List ℕ) → under key_of k (map (posting_at (w - 1) words id) js) ≡ map (posting_at (w - 1) words id) (under (λ j. key_at words (w - 1) j) k js)
  under-places k js =
      under-map key_of (posting_at (w - 1) words id) k js
      ∙ ap (map (posting_at (w - 1) words id)) (keep-ext (λ j. eqb (key_of (posting_at (w - 1) words id j)) k) (λ j. eqb (key_at words (w - 1) j) k) (λ j. rw (key-is j)) js)

  module _ (few : hash_count w words ≤ 8192) (limit : ℕ) (L : List ℕ) (sorted : Sorted key_of x.postings) (asc : Ascending (λ k. k) x.stopped)
      (clean : All (λ p. is_stopped x (key_of p) ≡ false) x.postings)
      (over : OverKeys limit (map key_of x.postings) (map (λ j. key_at words (w - 1) j) (ordered (w - 1) words x.stopped (hash_count w words))) L) where
    abbrev O : List ℕ
    O = ordered (w - 1) words x.stopped (hash_count w words)

    abbrev keys : List ℕ
    keys = map (λ j. key_at words (w - 1) j) (ordered (w - 1) words x.stopped (hash_count w words))

    -- under each key as many new postings as places
    new-times : (k : ℕ) → length (under key_of k (unskipped (is_stopped x) (posted id (hashes_of w words)))) ≡ times k keys
    new-times k =
        ap (λ l. length (under key_of k l)) unskipped-is ∙ ap length (under-places k T)
        ∙ length-map (under (λ j. key_at words (w - 1) j) k T) (posting_at (w - 1) words id)
        ∙ ap length (sym (under-ordered (w - 1) words x.stopped (hash_count w words) few k)) ∙ sym (times-map (λ (j : ℕ). key_at words (w - 1) j) k O)

    all-times : (k : ℕ) → length (under key_of k (placed x (posted id (hashes_of w words)))) ≡ times k (map key_of x.postings) + times k keys
    all-times k =
        ap length (under-place_all key_of k (unskipped (is_stopped x) (posted id (hashes_of w words))) x.postings sorted)
        ∙ length-append (under key_of k x.postings) (under key_of k (unskipped (is_stopped x) (posted id (hashes_of w words))))
        ∙ rw (new-times k, times-map key_of k x.postings)

    -- a stopped key has no postings, old or new
    none-stopped : (l : List Posting) (k : ℕ) → All (λ p. is_stopped x (key_of p) ≡ false) l → is_stopped x k ≡ true → under key_of k l ≡ []
    none-stopped l k a h = keep-none (λ p. eqb (key_of p) k) l (all-imp (λ p. is_stopped x (key_of p) ≡ false) (λ p. eqb (key_of p) k ≡ false)
        (λ p q. ne_eqb (key_of p) k (λ e. not-both h (rw e at q))) l a)

    unskipped-clean : All (λ p. is_stopped x (key_of p) ≡ false) (unskipped (is_stopped x) (posted id (hashes_of w words)))
    unskipped-clean = all-imp (λ (p : Posting). not (is_stopped x (key_of p)) ≡ true) (λ p. is_stopped x (key_of p) ≡ false) (λ p e. not-true (is_stopped x (key_of p)) e)
        (unskipped (is_stopped x) new) (all-kept (λ p. not (is_stopped x (key_of p))) new)

    stopped-times : (k : ℕ) → is_stopped x k ≡ true → times k (map key_of x.postings) + times k keys ≡ 0
    stopped-times k h =
        let a : times k (map key_of x.postings) ≡ 0 = times-map key_of k x.postings ∙ ap length (none-stopped x.postings k clean h) in
        let b : times k keys ≡ 0 = sym (new-times k) ∙ ap length (none-stopped (unskipped (is_stopped x) new) k unskipped-clean h) in
        omega arith

    -- a key that is not stopped is among the new ones exactly if one of them is not skipped
    has_new : (k : ℕ) → is_stopped x k ≡ false → has_key key_of k (posted id (hashes_of w words)) ≡ member k keys
    has_new k h =
        some-kept (λ p. eqb (key_of p) k) new
        ∙ ap (λ l. ltb 0 (length l)) (sym (keep-keep (λ (p : Posting). eqb (key_of p) k) (λ p. not (is_stopped x (key_of p))) new (λ p e. rw (eqb-true (key_of p) k e, h))))
        ∙ ap (ltb 0) (new-times k) ∙ sym (some-kept (λ (y : ℕ). eqb y k) keys)

    pub over-is : (k : ℕ) → exceeds limit (posted id (hashes_of w words)) (placed x (posted id (hashes_of w words))) k ≡ member k L
    unfolding exceeds
    over-is k = rw (all-times k, over.members k) (test (is_stopped x k)
        (λ h. rw (stopped-times k h, le-ltb limit 0 (omega arith), and-false, and-false))
        (λ h. rw (has_new k h)))

    -- ---- stopped keys

    pub stopped-is : place_all (λ k. k) L x.stopped ≡ stopped_after limit x (posted id (hashes_of w words))
    stopped-is = ascending-ext (place_all (λ k. k) L x.stopped) (stopped_after limit x new)
        (ascending-place_all L x.stopped asc over.ascending apart)
        (ascending-stop_keys (exceeds limit new (placed x new)) new x.stopped asc)
        (λ k. member-place_all L x.stopped asc over.ascending apart k ∙ sym (stopped_after-is limit x new k ∙ rw (over-is k)))
      where
        apart : (k : ℕ) → member k L ≡ true → member k x.stopped ≡ false
        apart k h = test (is_stopped x k)
            (λ s. let f : member k L ≡ false = over.members k ∙ rw (stopped-times k s, le-ltb limit 0 (omega arith), and-false) in absurd (not-both h f))
            (λ s. s)

    -- ---- postings

    pub postings-are : map posting_words (postings_after limit x (posted id (hashes_of w words)))
        ≡ place_all (λ e. first_word e) (entries_of (w - 1) words id (without (w - 1) words L (ordered (w - 1) words x.stopped (hash_count w words))))
        (keep (λ e. not (member (get_or e 0 0) L)) (map posting_words x.postings))
    unfolding entries_of without
    postings-are =
        let free : Posting → Bool = λ p. not (member (key_of p) L) in
        let fresh = map (posting_at (w - 1) words id) O in
        ap (map posting_words) (
        keep-ext (λ p. not (exceeds limit new (placed x new) (key_of p))) free (λ p. ap not (over-is (key_of p))) (placed x new)
        ∙ ap (λ l. keep free (place_all key_of l x.postings)) unskipped-is
        ∙ ap (keep free) (place_all-same key_of (map (posting_at (w - 1) words id) T) fresh x.postings sorted
        (λ k. under-places k T ∙ ap (map (posting_at (w - 1) words id)) (sym (under-ordered (w - 1) words x.stopped (hash_count w words) few k)) ∙ sym (under-places k O)))
        ∙ keep-place_all key_of free fresh x.postings sorted)
        ∙ sym (place_all-map (λ e. first_word e) posting_words (keep free fresh) (keep free x.postings))
        ∙ ap (λ l. place_all (λ e. first_word e) (map posting_words (keep free fresh)) l) (sym (keep-map posting_words (λ e. not (member (get_or e 0 0) L)) x.postings))
        ∙ ap (λ l. place_all (λ e. first_word e) l (keep (λ e. not (member (get_or e 0 0) L)) (map posting_words x.postings)))
        (ap (map posting_words) (
        keep-map (posting_at (w - 1) words id) free O
        ∙ ap (map (posting_at (w - 1) words id)) (keep-ext (λ j. free (posting_at (w - 1) words id j)) (unstopped_at (w - 1) words L) (λ j. rw (key-is j)) O))
        ∙ map-map posting_words (posting_at (w - 1) words id) (keep (unstopped_at (w - 1) words L) O)
        ∙ map_same (λ j. posting_words (posting_at (w - 1) words id j)) (λ j. entry_of (w - 1) words id j) (keep (unstopped_at (w - 1) words L) O)
        (all_of (λ j. posting_words (posting_at (w - 1) words id j) ≡ entry_of (w - 1) words id j) (λ j. rw (key-is j)) (keep (unstopped_at (w - 1) words L) O)))
