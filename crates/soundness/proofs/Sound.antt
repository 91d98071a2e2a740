-- The passes' tests together are the model's conditions. Assumes nothing.
use mathlib.Core.Path.{◌≡◌, sym, ap, ◌∙◌}
use mathlib.Core.Bool.{Bool, true, false, ◌&&◌}
use mathlib.Core.List.{List, [], ◌∷◌}
use Prim.Native.Nat.{ℕ, ◌+◌, ◌*◌, ◌-◌, ◌≤◌}
use native.Mathlib.Nat.{mul-le-mul_left}
use native.Mathlib.Omega.{arith}
use lib.ListN.{length, get_or}
use lib.Dec.{eqb, leb}
use borrow.Author.Tests.{leb-true, le-leb}
use Rattle.lists.specs.Every.{every, count, all_true}
use Rattle.lists.specs.Entries.{keys_ascend, zero_from}
use Rattle.lists.proofs.Tests.{and_left, and_right, yes_and, no-and, both_true, both_ways, all-true-at, all_more, all_none}
use Rattle.lists.proofs.Every.{every-and}
use Rattle.model.specs.Calls.{Sizes}
use Rattle.model.specs.Words.{room_in, sizes_of, sizes_listed, between, slices_listed, head_width, row_width}
use Rattle.model.specs.Soundness.{counts_fit, live_word, stopped_step, dead_row, vacant_entry, dead_fine, rate_fine, posting_live, anchor_fine, rmax_fine, key_unstopped, entry_unused, set_fine, sound_tests, sound_words}
use Rattle.model.proofs.Stores.{sizes-listed, references-long, postings-long}
use Rattle.soundness.specs.Scan.{words, row_fine, entry_fine, rows_sound, postings_sound, stops_ascend, stopped_sound, sound_at, Fits}

-- ---- the numbers in use

-- once the others fit, the stopped keys decide
pub counts-last : (z : Sizes) (n v p k : ℕ) → n ≤ z.R → v ≤ n → p ≤ z.P → leb k z.K ≡ counts_fit z n v p k
unfolding counts_fit
counts-last z n v p k a b c = rw (le-leb n z.R a, le-leb v n b, le-leb p z.P c)

-- ---- several tests in one pass

module _ (a b c d e : ℕ → Bool) (n : ℕ) where
  five : every n (λ j. a j && (b j && (c j && (d j && e j)))) ≡ every n a && (every n b && (every n c && (every n d && every n e)))
  five =
      every-and a (λ j. b j && (c j && (d j && e j))) n
      ∙ ap (λ (t : Bool). every n a && t) (every-and b (λ j. c j && (d j && e j)) n
      ∙ ap (λ (t : Bool). every n b && t) (every-and c (λ j. d j && e j) n ∙ ap (λ (t : Bool). every n c && t) (every-and d e n)))

rows_are : (w : ℕ) (rs : List ℕ) (n : ℕ) → every n (row_fine w rs) ≡ every n (live_word rs) && (every n (set_fine rs) && (every n (dead_fine rs) && (every n (rate_fine rs) && every n (rmax_fine w rs))))
unfolding row_fine
rows_are w rs n = five (live_word rs) (set_fine rs) (dead_fine rs) (rate_fine rs) (rmax_fine w rs) n

entries-are : (w : ℕ) (rs : List ℕ) (n : ℕ) (ps : List ℕ) (p : ℕ) → every p (entry_fine w rs n ps) ≡ every p (posting_live w rs n ps) && every p (anchor_fine w rs ps)
unfolding entry_fine
entries-are w rs n ps p = every-and (posting_live w rs n ps) (anchor_fine w rs ps) p

-- the same tests in another order
order : (fit live sets dead rate rmax count vacant unused rows up ids anchors posts stops none keys : Bool)
    → fit && (((live && (sets && (dead && (rate && rmax)))) && (count && (vacant && (unused && rows)))) && (((up && (ids && anchors)) && posts) && (stops && (none && keys))))
    ≡ all_true (fit ∷ live ∷ up ∷ stops ∷ count ∷ vacant ∷ dead ∷ rate ∷ ids ∷ anchors ∷ rmax ∷ none ∷ rows ∷ unused ∷ posts ∷ keys ∷ sets ∷ [])
order fit live sets dead rate rmax count vacant unused rows up ids anchors posts stops none keys = both_ways
    (fit && (((live && (sets && (dead && (rate && rmax)))) && (count && (vacant && (unused && rows)))) && (((up && (ids && anchors)) && posts) && (stops && (none && keys)))))
    (all_true (fit ∷ live ∷ up ∷ stops ∷ count ∷ vacant ∷ dead ∷ rate ∷ ids ∷ anchors ∷ rmax ∷ none ∷ rows ∷ unused ∷ posts ∷ keys ∷ sets ∷ []))
    (λ e.
    let a = and_right fit _ e in
    let b = and_left ((live && (sets && (dead && (rate && rmax)))) && (count && (vacant && (unused && rows)))) _ a in
    let c = and_left (live && (sets && (dead && (rate && rmax)))) _ b in
    let q = and_right live _ c in
    let d = and_right sets _ q in
    let f = and_right (live && (sets && (dead && (rate && rmax)))) _ b in
    let g = and_right count _ f in
    let h = and_right vacant _ g in
    let k = and_right ((live && (sets && (dead && (rate && rmax)))) && (count && (vacant && (unused && rows)))) _ a in
    let l = and_left ((up && (ids && anchors)) && posts) _ k in
    let m = and_left (up && (ids && anchors)) _ l in
    let n = and_right up _ m in
    let o = and_right ((up && (ids && anchors)) && posts) _ k in
    let p = and_right stops _ o in
    all_more _ _ (and_left fit _ e) (all_more _ _ (and_left live _ c) (all_more _ _ (and_left up _ m) (all_more _ _ (and_left stops _ o)
    (all_more _ _ (and_left count _ f) (all_more _ _ (and_left vacant _ g) (all_more _ _ (and_left dead _ d) (all_more _ _ (and_left rate rmax (and_right dead _ d))
    (all_more _ _ (and_left ids anchors n) (all_more _ _ (and_right ids anchors n) (all_more _ _ (and_right rate rmax (and_right dead _ d)) (all_more _ _ (and_left none keys p)
    (all_more _ _ (and_right unused rows h) (all_more _ _ (and_left unused rows h) (all_more _ _ (and_right (up && (ids && anchors)) posts l) (all_more _ _ (and_right none keys p) (all_more _ _ (and_left sets _ q) all_none)))))))))))))))))
    (λ e.
    let t = all-true-at (fit ∷ live ∷ up ∷ stops ∷ count ∷ vacant ∷ dead ∷ rate ∷ ids ∷ anchors ∷ rmax ∷ none ∷ rows ∷ unused ∷ posts ∷ keys ∷ sets ∷ []) e in
    both_true fit _ (t 0)
    (both_true ((live && (sets && (dead && (rate && rmax)))) && (count && (vacant && (unused && rows)))) _
    (both_true (live && (sets && (dead && (rate && rmax)))) _ (both_true live _ (t 1) (both_true sets _ (t 16) (both_true dead _ (t 6) (both_true rate rmax (t 7) (t 10))))) (both_true count _ (t 4) (both_true vacant _ (t 5) (both_true unused rows (t 13) (t 12)))))
    (both_true ((up && (ids && anchors)) && posts) _ (both_true (up && (ids && anchors)) posts (both_true up _ (t 2) (both_true ids anchors (t 8) (t 9))) (t 14)) (both_true stops _ (t 3) (both_true none keys (t 11) (t 15))))))

pub sound-is : (w : ℕ) (z : Sizes) (rs ps ss : List ℕ) (n v p k : ℕ) → sound_at w z rs ps ss n v p k ≡ all_true (sound_tests w z rs ps ss n v p k)
unfolding sound_at sound_tests rows_sound postings_sound stopped_sound stops_ascend
sound-is w z rs ps ss n v p k =
    rw (rows_are w rs n, entries-are w rs n ps p)
    (order (counts_fit z n v p k) (every n (live_word rs)) (every n (set_fine rs)) (every n (dead_fine rs)) (every n (rate_fine rs)) (every n (rmax_fine w rs)) (eqb (count n (dead_row rs)) v)
    (every v (vacant_entry rs n)) (every (n - v) (entry_unused rs v)) (zero_from rs (head_width + row_width * n)) (keys_ascend ps w p) (every p (posting_live w rs n ps)) (every p (anchor_fine w rs ps))
    (zero_from ps (w * p)) (every (k - 1) (stopped_step ss)) (every p (key_unstopped w ss k ps)) (zero_from ss k))

pub keys-up : (w : ℕ) (rs : List ℕ) (n : ℕ) (ps : List ℕ) (p : ℕ) → postings_sound w rs n ps p ≡ true → keys_ascend ps w p ≡ true
unfolding postings_sound
keys-up w rs n ps p e = and_left (keys_ascend ps w p) _ (and_left (keys_ascend ps w p && every p (entry_fine w rs n ps)) _ e)

-- ---- the whole

module _ (w : ℕ) (rs ps ss : List ℕ) (w3 : 3 ≤ w) (l : slices_listed w (words rs ps ss) ≡ true) where
  abbrev z : Sizes
  z = sizes_of w (words rs ps ss)

  most-rows : z.R ≤ 4096
  unfolding sizes_listed
  most-rows = leb-true z.R 4096 (and_right (leb 1 z.R) (leb z.R 4096) (and_left (between 1 4096 z.R) _ (sizes-listed w (words rs ps ss) (omega arith) l)))

  most-postings : z.P ≤ 1048576
  unfolding sizes_listed
  most-postings = leb-true z.P 1048576 (and_right (leb 1 z.P) (leb z.P 1048576)
      (and_left (between 1 1048576 z.P) _ (and_right (between 1 4096 z.R) _ (sizes-listed w (words rs ps ss) (omega arith) l))))

  pub header-there : head_width ≤ length rs
  header-there = omega (arith, references-long w (words rs ps ss) (omega arith) l)

  pub counts-mean : (n v p k : ℕ) → counts_fit z n v p k ≡ true → Fits w rs ps ss n v p k
  unfolding counts_fit sizes_of
  counts-mean n v p k e =
      let e1 = and_right (leb n z.R) _ e in
      let e2 = and_right (leb v n) _ e1 in
      let hn = leb-true n z.R (and_left (leb n z.R) _ e) in
      let hp = leb-true p z.P (and_left (leb p z.P) _ e2) in
      record {
        wide = w3;
        many = omega (arith, hn, most-rows);
        rows = omega (arith, hn, references-long w (words rs ps ss) (omega arith) l);
        vacant = leb-true v n (and_left (leb v n) _ e1);
        postings = omega (arith, mul-le-mul_left w hp, postings-long w (words rs ps ss) (omega arith) l);
        few = omega (arith, hp, most-postings);
        stopped = leb-true k z.K (and_right (leb p z.P) (leb k z.K) e2);
      }

  pub sound-words : sound_at w z rs ps ss (get_or rs 0 0) (get_or rs 1 0) (get_or rs 2 0) (get_or rs 3 0) ≡ sound_words w (words rs ps ss)
  unfolding sound_words
  sound-words = sound-is w z rs ps ss (get_or rs 0 0) (get_or rs 1 0) (get_or rs 2 0) (get_or rs 3 0)

  -- as the code has it: the room from the lengths, and the numbers in use from the first words
  abbrev room : Sizes
  room = room_in w (length rs) (length ps) (length ss)

  module _ {n v p k : ℕ} (en : n ≡ get_or rs 0 0) (ev : v ≡ get_or rs 1 0) (ep : p ≡ get_or rs 2 0) (ek : k ≡ get_or rs 3 0) where
    from-words : sound_words w (words rs ps ss) ≡ sound_at w (sizes_of w (words rs ps ss)) rs ps ss n v p k
    from-words = rw (en, ev, ep, ek) (sym sound-words)

    pub counts-no : counts_fit room n v p k ≡ false → false ≡ sound_words w (words rs ps ss)
    unfolding sizes_of sound_at
    counts-no e = rw from-words (sym (no-and (counts_fit room n v p k) _ e))

    pub counts-yes : counts_fit room n v p k ≡ true → (b : Bool) → b ≡ rows_sound w rs n v && (postings_sound w rs n ps p && stopped_sound w ss k ps p) → b ≡ sound_words w (words rs ps ss)
    unfolding sizes_of sound_at
    counts-yes e b f = rw from-words (f ∙ sym (yes_and (counts_fit room n v p k) _ e))

    pub counts-room : counts_fit room n v p k ≡ true → Fits w rs ps ss n v p k
    unfolding sizes_of
    counts-room e = counts-mean n v p k e
