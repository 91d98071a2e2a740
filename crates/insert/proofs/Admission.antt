-- From what is found of new hashes in a sound store to what the model's insertion leaves. Assumes nothing.
use mathlib.Core.Path.{◌≡◌, refl, sym, ap, ◌∙◌, subst}
use mathlib.Core.Bool.{true, false, cond, ◌&&◌}
use mathlib.Core.List.{List, [], ◌∷◌, map}
use Prim.Native.Nat.{ℕ, zero, suc, ◌+◌, ◌*◌, ◌-◌, ◌/◌, ◌≤◌, ◌<◌}
use native.Mathlib.Nat.{mul-div-le, mul-le-mul_left}
use native.Mathlib.Omega.{arith}
use lib.IntN.{ℤ}
use lib.ListN.{length, get_or, take, drop, length-map}
use lib.Seq.{length-take-le}
use lib.Dec.{eqb, leb, ltb}
use borrow.Author.Tests.{ltb-false, leb-true, eqb-true, eqb-false, eq-eqb, ne_eqb}
use Rattle.lists.specs.Lists.{flat}
use Rattle.lists.specs.Keys.{Ascending, place_all}
use Rattle.lists.specs.Entries.{entries, key_of as first_word, key_at, keys_ascend, zero_from, padded}
use Rattle.lists.proofs.Tests.{test, and_left, and_right, or-false-right}
use Rattle.lists.proofs.Keep.{map-map}
use Rattle.lists.proofs.Place.{length-place_all}
use Rattle.lists.proofs.Entries.{length-entries, length-read, read_at}
use Rattle.model.specs.Fingerprints.{fingerprint_of, hashes_of, hash_count, uneven, malformed, reference_most}
use Rattle.model.specs.Rows.{has_rmax, largest_anchor, canonical, row_of}
use Rattle.model.specs.Index.{Index, key_of, posted, unskipped, is_stopped, stopped_after, postings_after, new_id, inserted}
use Rattle.model.specs.Calls.{Sizes, stored, refused}
use Rattle.model.specs.Words.{Words, sizes_of, sizes_listed, between, slices_listed, write, posting_words, read_row, read_vacant, read_posting, read_index, head_width, row_width, at_vacant}
use Rattle.model.specs.Sound.{Sound}
use Rattle.model.specs.Soundness.{row_word, sound_words}
use Rattle.model.proofs.Words.{written-postings}
use Rattle.model.proofs.Facts.{Facts}
use Rattle.model.proofs.Written.{row_word_lem, fewer}
use Rattle.model.proofs.Stores.{references-long, postings-long, sizes-listed, sound-facts, sound-read, sound-again}
use Rattle.postings.specs.Retain.{unnamed, staying}
use Rattle.soundness.specs.Scan.{words}
use Rattle.postings.proofs.Compact.{staying-all}
use Rattle.rows.specs.declared.Counts.{Counts}
use Rattle.rows.specs.References.{CountsOf}
use Rattle.insert_merge.specs.Order.{taken, ordered, OverKeys}
use Rattle.insert_merge.proofs.Ordered.{sorted-ordered, length-ordered, keys-are, places-are, are-places}
use Rattle.insert.specs.Writing.{placed_entries, recorded, id_in, postings_in, Writable}
use Rattle.model.specs.Run.{run_insert}
use Rattle.insert.specs.Insert.{no_row, Ready}
use Rattle.insert.specs.Planned.{Plannable, Found}
use Rattle.insert.proofs.Planning.{few-taken}
use Rattle.insert.proofs.Arrivals.{length-unskipped, stopped-is, postings-are}
use Rattle.insert.proofs.References.{recorded-is}
use Rattle.insert.proofs.Refusals.{refused-6, refused-7, accepted-is}

-- ---- a fingerprint that is well formed

few-hashes : (w : ℕ) (hashes : List ℕ) → malformed w reference_most hashes ≡ false → hash_count w hashes ≤ 8192
unfolding malformed
few-hashes w hashes formed = ltb-false 8192 (hash_count w hashes) (or-false-right (uneven w hashes) (ltb 8192 (hash_count w hashes)) formed)

-- ---- what a sound store says

module _ (w : ℕ) (m : Words) (w2 : 2 ≤ w) (l : slices_listed w m ≡ true) (s : sound_words w m ≡ true) where
  facts : Facts w (sizes_of w m) m.references m.postings m.stopped (get_or m.references 0 0) (get_or m.references 1 0) (get_or m.references 2 0) (get_or m.references 3 0)
  facts = sound-facts w m w2 l s

  sound : Sound w (sizes_of w m) (read_index w m)
  sound = sound-read w m w2 l s

  pub rows-many : length (read_index w m).rows ≡ get_or m.references 0 0
  unfolding read_index
  rows-many = length-read read_row row_width (get_or m.references 0 0) (drop head_width m.references)

  pub vacant-many : length (read_index w m).vacant ≡ get_or m.references 1 0
  unfolding read_index
  vacant-many = length-read read_vacant row_width (get_or m.references 1 0) (drop head_width m.references)

  pub postings-many : length (read_index w m).postings ≡ get_or m.references 2 0
  unfolding read_index
  postings-many = length-read read_posting w (get_or m.references 2 0) m.postings

  stopped-read : (read_index w m).stopped ≡ take (get_or m.references 3 0) m.stopped
  unfolding read_index
  stopped-read = refl

  keys-read : map key_of (read_index w m).postings ≡ map (λ e. first_word e) (entries w (get_or m.references 2 0) m.postings)
  unfolding read_index
  keys-read = map-map key_of read_posting (entries w (get_or m.references 2 0) m.postings)

  vacant-at : (i : ℕ) → i < get_or m.references 1 0 → get_or (read_index w m).vacant i 0 ≡ row_word m.references i at_vacant
  unfolding read_index
  vacant-at i h = read_at read_vacant row_width (get_or m.references 1 0) (drop head_width m.references) 0 i h ∙ row_word_lem m.references i at_vacant (omega arith)

  words-read : map posting_words (read_index w m).postings ≡ entries w (get_or m.references 2 0) m.postings
  words-read =
      sym (written-postings w (sizes_of w m) (read_index w m) (fewer w (sizes_of w m) (read_index w m) w2 sound) sound.wide)
      ∙ ap (λ (y : Words). entries w (length (read_index w m).postings) y.postings) (sound-again w m w2 l s)
      ∙ ap (λ (n : ℕ). entries w n m.postings) postings-many

  pub id-is : id_in m.references ≡ new_id (read_index w m)
  id-is = rw (vacant-many, rows-many) (test (eqb (get_or m.references 1 0) 0)
      (λ e. rw e)
      (λ e. rw e (sym (vacant-at (get_or m.references 1 0 - 1) (below (get_or m.references 1 0) (eqb-false (get_or m.references 1 0) 0 e))))))
    where
      below : (a : ℕ) → (a ≡ 0 → ⊥) → a - 1 < a
      below zero h = absurd (h refl)
      below (suc a) h = omega arith

  pub full_is : eqb (length (read_index w m).vacant) 0 && eqb (length (read_index w m).rows) (sizes_of w m).R ≡ no_row m.references
  unfolding no_row sizes_of
  full_is = rw (vacant-many, rows-many)

  -- room
  listed-sizes : sizes_listed (sizes_of w m) ≡ true
  listed-sizes = sizes-listed w m w2 l

  abbrev z : Sizes
  z = sizes_of w m

  few-rows : (sizes_of w m).R ≤ 4096
  unfolding sizes_listed
  few-rows = leb-true z.R 4096 (and_right (leb 1 z.R) (leb z.R 4096) (and_left (between 1 4096 z.R) (between 1 1048576 z.P && between 1 65536 z.K) listed-sizes))

  few-postings : (sizes_of w m).P ≤ 1048576
  unfolding sizes_listed
  few-postings = leb-true z.P 1048576 (and_right (leb 1 z.P) (leb z.P 1048576)
      (and_left (between 1 1048576 z.P) (between 1 65536 z.K) (and_right (between 1 4096 z.R) (between 1 1048576 z.P && between 1 65536 z.K) listed-sizes)))

  few-stopped : (sizes_of w m).K ≤ 65536
  unfolding sizes_listed
  few-stopped = leb-true z.K 65536 (and_right (leb 1 z.K) (leb z.K 65536)
      (and_right (between 1 1048576 z.P) (between 1 65536 z.K) (and_right (between 1 4096 z.R) (between 1 1048576 z.P && between 1 65536 z.K) listed-sizes)))

  pub record Room : Type 0 where
    pub references : length m.references ≡ head_width + row_width * (sizes_of w m).R
    pub rows : (sizes_of w m).R ≤ 4096
    pub vacant-fit : get_or m.references 1 0 ≤ get_or m.references 0 0
    pub rows_fit : get_or m.references 0 0 ≤ (sizes_of w m).R
    pub postings : w * get_or m.references 2 0 ≤ length m.postings
    pub postings-long : length m.postings ≡ w * (length m.postings / w)
    pub postings-fit : get_or m.references 2 0 ≤ length m.postings / w
    pub postings-few : length m.postings / w ≤ 1048576
    pub ascend : keys_ascend m.postings w (get_or m.references 2 0) ≡ true
    pub unused : zero_from m.postings (w * get_or m.references 2 0) ≡ true
    pub stopped : get_or m.references 3 0 ≤ length m.stopped
    pub stopped-few : length m.stopped ≤ 65536
    pub stopped-ascend : Ascending (λ k. k) (take (get_or m.references 3 0) m.stopped)
    pub stopped-unused : zero_from m.stopped (get_or m.references 3 0) ≡ true

  pub rooms : Room
  unfolding sizes_of
  rooms =
      let long : length m.postings ≡ w * (length m.postings / w) = postings-long w m w2 l in
      let fit : get_or m.references 2 0 ≤ length m.postings / w = facts.postings-fit in
      record {
        references = references-long w m w2 l;
        rows = few-rows;
        vacant-fit = facts.vacant-fit;
        rows_fit = facts.rows_fit;
        postings = rw long (mul-le-mul_left w fit);
        postings-long = long;
        postings-fit = fit;
        postings-few = few-postings;
        ascend = facts.keys;
        unused = facts.postings-unused;
        stopped = facts.stopped-fit;
        stopped-few = few-stopped;
        stopped-ascend = rw stopped-read at sound.ascending;
        stopped-unused = facts.stopped-unused;
      }

  -- a plan can be made of it
  pub plannable : (hashes : List ℕ) → malformed w reference_most hashes ≡ false → (h : Counts) → CountsOf m.references h → Plannable w h.postings h.stopped m.postings m.stopped hashes
  plannable hashes formed h c = record {
    wide = w2;
    few = few-hashes w hashes formed;
    held = rw c.postings rooms.postings;
    ascend = rw c.postings rooms.ascend;
    stopped = rw c.stopped rooms.stopped;
    stopped-ascend = rw c.stopped rooms.stopped-ascend;
  }

  -- no posting has the number of rows as its id
  pub none-at-rows : (h : Counts) → CountsOf m.references h → staying w h.postings 1 (h.rows ∷ []) m.postings ≡ entries w (get_or m.references 2 0) m.postings
  none-at-rows h c = rw (c.postings, c.rows) (staying-all w (get_or m.references 2 0) 1 (get_or m.references 0 0) m.postings w2 (λ i l e. omega (arith, facts.id-within i l)))

  pub none-of-them : (h : Counts) → CountsOf m.references h → h.postings ≡ length (staying w h.postings 1 (h.rows ∷ []) m.postings)
  none-of-them h c = c.postings ∙ sym (ap length (none-at-rows h c) ∙ length-entries w (get_or m.references 2 0) m.postings)

positive : (a : ℕ) → (a ≡ 0 → ⊥) → 0 < a
positive zero h = absurd (h refl)
positive (suc a) h = omega arith

recorded-same : (rs rs' : List ℕ) (n n' v v' id rate rmax set p p' k k' : ℕ) → rs ≡ rs' → n ≡ n' → v ≡ v' → p ≡ p' → k ≡ k' → recorded rs n v id rate rmax set p k ≡ recorded rs' n' v' id rate rmax set p' k'
recorded-same rs rs' n n' v v' id rate rmax set p p' k k' a b c d e = cc

-- ---- a store that takes one recording more

module _ (w : ℕ) (m : Words) (hashes : List ℕ) (set : ℕ) (D : Ready w m hashes set) where
  w2 : 2 ≤ w
  w2 = omega (arith, D.wide)

  l : slices_listed w m ≡ true
  l = D.is-listed

  s : sound_words w m ≡ true
  s = D.is-sound

  abbrev x : Index
  x = read_index w m

  abbrev rs : List ℕ
  rs = m.references

  abbrev ss : List ℕ
  ss = m.stopped

  abbrev p : ℕ
  p = get_or m.references 2 0

  abbrev k : ℕ
  k = get_or m.references 3 0

  abbrev N : ℕ
  N = hash_count w hashes

  abbrev T : List ℕ
  T = take (get_or m.references 3 0) m.stopped

  few : hash_count w hashes ≤ 8192
  few = few-hashes w hashes D.formed

  R : Room w m w2 l s
  R = rooms w m w2 l s

  snd : Sound w (sizes_of w m) (read_index w m)
  snd = sound w m w2 l s

  stop : (read_index w m).stopped ≡ take (get_or m.references 3 0) m.stopped
  stop = stopped-read w m w2 l s

  full-not : eqb (length (read_index w m).vacant) 0 && eqb (length (read_index w m).rows) (sizes_of w m).R ≡ false
  full-not = full_is w m w2 l s ∙ D.row-left

  -- the row of the new id
  row_inside : 0 < length (read_index w m).vacant → new_id (read_index w m) < length (read_index w m).rows
  row_inside h =
      let e : new_id x ≡ get_or x.vacant (length x.vacant - 1) 0 = rw (ne_eqb (length x.vacant) 0 (λ q. omega arith)) in
      rw e (snd.within (length x.vacant - 1) (omega arith))

  row-left : length (read_index w m).vacant ≡ 0 → length (read_index w m).rows < (sizes_of w m).R
  unfolding no_row sizes_of
  row-left h =
      let v : get_or rs 1 0 ≡ 0 = sym (vacant-many w m w2 l s) ∙ h in
      let f = rw (eq-eqb (get_or rs 1 0) 0 v) at D.row-left in
      let b : get_or rs 0 0 ≤ (length rs - head_width) / row_width = R.rows_fit in
      omega (arith, rows-many w m w2 l s, eqb-false (get_or rs 0 0) ((length rs - head_width) / row_width) f)

  row-there : head_width + row_width * (id_in m.references + 1) ≤ length m.references
  row-there =
      let q : id_in rs < (sizes_of w m).R = test (eqb (length x.vacant) 0)
      (λ e. let v = eqb-true (length x.vacant) 0 e in
      let d : new_id x ≡ length x.rows = rw e in
      rw (id-is w m w2 l s, d) (row-left v))
      (λ e.
      let v = positive (length x.vacant) (eqb-false (length x.vacant) 0 e) in
      omega (arith, id-is w m w2 l s, row_inside v, snd.rows_fit)) in
      omega (arith, R.references)

  -- ---- what is found of the new hashes

  module _ (limit rate count : ℕ) (many : count ≡ length (taken (w - 1) hashes (take (get_or m.references 3 0) m.stopped) (hash_count w hashes))) where
    many-ordered : count ≡ length (ordered (w - 1) hashes (take (get_or m.references 3 0) m.stopped) (hash_count w hashes))
    many-ordered = many ∙ sym (length-ordered (w - 1) hashes T N few)

    -- refusal 6
    six-is : ltb (sizes_of w m).P (length (read_index w m).postings + length (unskipped (is_stopped (read_index w m)) (posted (new_id (read_index w m)) (hashes_of w hashes))))
        ≡ ltb (length m.postings / w) (length (entries w (get_or m.references 2 0) m.postings) + count)
    unfolding sizes_of
    six-is =
        let e : length (unskipped (is_stopped x) (posted (new_id x) (hashes_of w hashes))) ≡ count =
        length-unskipped w hashes (new_id x) w2 x ∙ ap (λ (t : List ℕ). length (taken (w - 1) hashes t N)) stop ∙ sym many in
        rw (postings-many w m w2 l s, e, length-entries w p m.postings)

    pub refused-postings : ltb (length m.postings / w) (length (entries w (get_or m.references 2 0) m.postings) + count) ≡ true → run_insert w m limit rate set hashes ≡ (refused 6, m)
    refused-postings more = refused-6 w m limit rate set hashes w2 l s D.formed D.of-set full-not (six-is ∙ more)

    module _ (order : List ℤ) (overs : List ℕ) (n : ℕ)
        (F : Found w limit (entries w (get_or m.references 2 0) m.postings) (take (get_or m.references 3 0) m.stopped) hashes order count overs n)
        (fits : ltb (length m.postings / w) (length (entries w (get_or m.references 2 0) m.postings) + count) ≡ false) where
      abbrev L : List ℕ
      L = take n overs

      over-read : OverKeys limit (map key_of (read_index w m).postings) (map (λ j. key_at hashes (w - 1) j) (ordered (w - 1) hashes (read_index w m).stopped (hash_count w hashes))) (take n overs)
      over-read =
          let e = keys-are (w - 1) hashes T N few order count F.in_order many-ordered in
          subst (λ (t : List ℕ). OverKeys limit (map key_of x.postings) (map (λ j. key_at hashes (w - 1) j) (ordered (w - 1) hashes t N)) (take n overs)) (sym stop)
          (subst (λ (a : List ℕ). OverKeys limit a (map (λ j. key_at hashes (w - 1) j) (ordered (w - 1) hashes T N)) (take n overs)) (sym (keys-read w m w2 l s))
          (subst (λ (b : List ℕ). OverKeys limit (map (λ e. first_word e) (entries w p m.postings)) b (take n overs)) e F.above))

      -- stopped keys, and refusal 7
      stopped-left : place_all (λ y. y) (take n overs) (take (get_or m.references 3 0) m.stopped) ≡ stopped_after limit (read_index w m) (posted (new_id (read_index w m)) (hashes_of w hashes))
      stopped-left =
          ap (place_all (λ y. y) L) (sym stop)
          ∙ stopped-is w hashes (new_id x) w2 x few limit L snd.sorted snd.ascending snd.unstopped over-read

      stopped-count : length (stopped_after limit (read_index w m) (posted (new_id (read_index w m)) (hashes_of w hashes))) ≡ get_or m.references 3 0 + n
      stopped-count =
          ap length (sym stopped-left) ∙ length-place_all (λ y. y) L T
          ∙ rw (length-take-le k ss R.stopped, length-take-le n overs F.overs-room)

      seven_is : ltb (sizes_of w m).K (length (stopped_after limit (read_index w m) (posted (new_id (read_index w m)) (hashes_of w hashes)))) ≡ ltb (length m.stopped) (length (take (get_or m.references 3 0) m.stopped) + n)
      unfolding sizes_of
      seven_is = rw (stopped-count, length-take-le k ss R.stopped)

      pub refused-keys : ltb (length m.stopped) (length (take (get_or m.references 3 0) m.stopped) + n) ≡ true → run_insert w m limit rate set hashes ≡ (refused 7, m)
      refused-keys more = refused-7 w m limit rate set hashes w2 l s D.formed D.of-set full-not (six-is ∙ fits) (seven_is ∙ more)

      -- postings
      postings-left : postings_in w m.references m.postings hashes order count overs n ≡ map posting_words (postings_after limit (read_index w m) (posted (new_id (read_index w m)) (hashes_of w hashes)))
      unfolding placed_entries staying unnamed
      postings-left =
          rw (places-are (w - 1) hashes T N few order count F.in_order many-ordered, id-is w m w2 l s)
          (sym (postings-are w hashes (new_id x) w2 x few limit L snd.sorted snd.ascending snd.unstopped over-read ∙ rw (words-read w m w2 l s, stop)))

      postings-count : length (postings_in w m.references m.postings hashes order count overs n) ≡ length (postings_after limit (read_index w m) (posted (new_id (read_index w m)) (hashes_of w hashes)))
      postings-count = ap length postings-left ∙ length-map (postings_after limit x (posted (new_id x) (hashes_of w hashes))) posting_words

      -- the three slices
      references-left : recorded m.references (get_or m.references 0 0) (get_or m.references 1 0) (id_in m.references) (canonical rate) (cond (has_rmax w) (largest_anchor (hashes_of w hashes)) 0) set
          (length (postings_in w m.references m.postings hashes order count overs n)) (get_or m.references 3 0 + n)
          ≡ (write w (sizes_of w m) (inserted w limit (fingerprint_of w rate set hashes) (read_index w m))).references
      unfolding inserted row_of
      references-left =
          let z = sizes_of w m in
          let y = inserted w limit (fingerprint_of w rate set hashes) x in
          recorded-same m.references (write w z x).references (get_or rs 0 0) (length x.rows) (get_or rs 1 0) (length x.vacant) (id_in rs) (canonical rate) (cond (has_rmax w) (largest_anchor (hashes_of w hashes)) 0) set
          (length (postings_in w rs m.postings hashes order count overs n)) (length y.postings) (k + n) (length y.stopped)
          (ap (λ (u : Words). u.references) (sym (sound-again w m w2 l s))) (sym (rows-many w m w2 l s)) (sym (vacant-many w m w2 l s)) postings-count (sym stopped-count)
          ∙ recorded-is w z x y (row_of w (fingerprint_of w rate set hashes)) snd.rows_fit (fewer w z x w2 snd) row_inside row-left refl refl (id_in rs) (id-is w m w2 l s)

      postings-words : padded (length m.postings) (flat (postings_in w m.references m.postings hashes order count overs n))
          ≡ (write w (sizes_of w m) (inserted w limit (fingerprint_of w rate set hashes) (read_index w m))).postings
      unfolding write inserted
      postings-words =
          ap (λ (a : List (List ℕ)). padded (length m.postings) (flat a)) postings-left
          ∙ ap (λ (a : ℕ). padded a (flat (map posting_words (postings_after limit x (posted (new_id x) (hashes_of w hashes)))))) (postings-long w m w2 l)

      stopped-words : padded (length m.stopped) (place_all (λ y. y) (take n overs) (take (get_or m.references 3 0) m.stopped))
          ≡ (write w (sizes_of w m) (inserted w limit (fingerprint_of w rate set hashes) (read_index w m))).stopped
      unfolding write inserted sizes_of
      stopped-words = ap (padded (length m.stopped)) stopped-left

      -- where there is room for both
      module _ (keys-fit : ltb (length m.stopped) (length (take (get_or m.references 3 0) m.stopped) + n) ≡ false) where
        keys_in : get_or m.references 3 0 + n ≤ length m.stopped
        keys_in = omega (arith, ltb-false (length ss) (length T + n) keys-fit, length-take-le k ss R.stopped)

        postings-in : get_or m.references 2 0 + count ≤ length m.postings / w
        postings-in = omega (arith, ltb-false (length m.postings / w) (length (entries w p m.postings) + count) fits, length-entries w p m.postings)

        pub writable : Writable w m.references m.postings m.stopped hashes order count overs n
        writable = record {
          placing = record {
            wide = D.wide;
            narrow = D.narrow;
            few = omega (arith, few-taken (w - 1) hashes T N, few);
            room = rw R.postings-long (mul-le-mul_left w postings-in);
            ascend = R.ascend;
            unused = R.unused;
            places = are-places (w - 1) hashes T N few order count F.in_order many-ordered F.order-room (mul-div-le (length hashes) (w - 1));
            sorted = rw (places-are (w - 1) hashes T N few order count F.in_order many-ordered) (sorted-ordered (w - 1) hashes T N few);
            overs-room = F.overs-room;
            overs-ascend = F.above.ascending;
          };
          stopping = record { room = keys_in; ascend = R.stopped-ascend; unused = R.stopped-unused; overs-room = F.overs-room; overs-ascend = F.above.ascending };
          vacant = R.vacant-fit;
          rows = omega (arith, R.references, R.rows_fit);
          row = row-there;
          long = omega (arith, R.references, R.rows);
          postings = omega (arith, postings-in, R.postings-few);
          stopped = omega (arith, keys_in, R.stopped-few);
        }

        stored-run : run_insert w m limit rate set hashes ≡ (stored (new_id (read_index w m)), write w (sizes_of w m) (inserted w limit (fingerprint_of w rate set hashes) (read_index w m)))
        stored-run = accepted-is w m limit rate set hashes w2 l s D.formed D.of-set full-not (six-is ∙ fits) (seven_is ∙ keys-fit)

        -- a recording that is written
        pub stored_is : (id : ℕ) (rs' ps' ss' : List ℕ) → id ≡ id_in m.references
            → rs' ≡ recorded m.references (get_or m.references 0 0) (get_or m.references 1 0) (id_in m.references) (canonical rate)
            (cond (has_rmax w) (largest_anchor (hashes_of w hashes)) 0) set (length (postings_in w m.references m.postings hashes order count overs n)) (get_or m.references 3 0 + n)
            → ps' ≡ padded (length m.postings) (flat (postings_in w m.references m.postings hashes order count overs n))
            → ss' ≡ padded (length m.stopped) (place_all (λ y. y) (take n overs) (take (get_or m.references 3 0) m.stopped))
            → (stored id, words rs' ps' ss') ≡ run_insert w m limit rate set hashes
        stored_is id rs' ps' ss' e er ep es =
            (λ i. (stored ((e ∙ id-is w m w2 l s) i), words ((er ∙ references-left) i) ((ep ∙ postings-words) i) ((es ∙ stopped-words) i))) ∙ sym stored-run
