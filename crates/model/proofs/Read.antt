-- Sound words, read: the index is sound, and laid out again it gives the same words. Assumes nothing.
use mathlib.Core.Path.{◌≡◌, refl, sym, ap, ◌∙◌}
use mathlib.Core.Logic.{⊎_elim}
use mathlib.Core.Bool.{true, false, not, ◌||◌}
use mathlib.Core.List.{List, [], ◌∷◌, map}
use mathlib.Core.Option.{Option, none, some}
use Prim.Native.Nat.{ℕ, zero, suc, ◌+◌, ◌*◌, ◌≤◌, ◌<◌}
use native.Mathlib.Nat.{mul-le-mul_left, add-zero}
use native.Mathlib.Numerals.{add-one}
use native.Mathlib.Omega.{arith}
use lib.ListN.{length, get_or, take, drop, length-drop, get_or-eq_default}
use lib.Seq.{get_or-take, get_or-drop, length-take-le}
use lib.Dec.{eqb}
use borrow.Author.Tests.{eq-eqb, ne_eqb, le-leb}
use Rattle.lists.specs.Lists.{All, flat, member}
use Rattle.lists.specs.Every.{count}
use Rattle.lists.specs.Entries.{entries, entry_at, key_of as first_word, key_at, padded}
use Rattle.lists.proofs.Tests.{test, both_true, or_left, or_right, le-or-lt}
use Rattle.lists.proofs.Every.{count_same}
use Rattle.lists.proofs.Keep.{some-none, all-make, all_map, all-imp, map-map, map_same, map-id, count-keep}
use Rattle.lists.proofs.Place.{sorted-map}
use Rattle.lists.proofs.Ascending.{ascending-make}
use Rattle.lists.proofs.Entries.{all-entries, entries_at, entry_key, length-entries, entries-fewer, wide-entries, sorted_entries, flat-entries, length-read, read_at, padded-take}
use Rattle.model.specs.Rows.{Row, has_rmax, no_rate, is_canonical, is_set, row_sound, hash_sound}
use Rattle.model.specs.Index.{Posting, key_of, is_live}
use Rattle.model.specs.Calls.{Sizes}
use Rattle.model.specs.Words.{Words, row_words, row_entries, posting_words, write, read_row, read_vacant, read_posting, read_index, head_width, row_width, at_rate, at_rmax, at_live, at_vacant, at_set}
use Rattle.model.specs.Sound.{is_dead, good_row, good_hash, Sound}
use Rattle.model.specs.Soundness.{row_word, posting_word, dead_row, live_id}
use Rattle.model.proofs.Facts.{Facts, is-dead, not_dead, id-live, id-out, id-dead}
use Rattle.model.proofs.Slices.{front}
use Rattle.model.proofs.Written.{row_word_lem, id-word, anchor-word}

-- ---- a row's entry, read and written again

-- what is asked of a row's words, the vacant entry aside
pub record FineRow (e : List ℕ) : Type 0 where
  pub long : length e ≡ row_width
  pub live : get_or e at_live 0 ≤ 1
  pub rate : get_or e at_live 0 ≡ 0 → get_or e at_rate 0 ≡ no_rate
  pub rmax : get_or e at_live 0 ≡ 0 → get_or e at_rmax 0 ≡ 0
  pub set : get_or e at_live 0 ≡ 0 → get_or e at_set 0 ≡ 0

-- 0 or 1
bit {ℓ} : {C : Type ℓ} (x : ℕ) → x ≤ 1 → (x ≡ 0 → C) → (x ≡ 1 → C) → C
bit zero h f g = f refl
bit (suc zero) h f g = g refl
bit (suc (suc x)) h f g = absurd (omega arith)

row_write : (e : List ℕ) → FineRow e → row_words (read_row e) (read_vacant e) ≡ e
row_write [] F = absurd (omega (arith, F.long))
row_write (a ∷ []) F = absurd (omega (arith, F.long))
row_write (a ∷ b ∷ []) F = absurd (omega (arith, F.long))
row_write (a ∷ b ∷ c ∷ []) F = absurd (omega (arith, F.long))
row_write (a ∷ b ∷ c ∷ d ∷ []) F = absurd (omega (arith, F.long))
row_write (a ∷ b ∷ c ∷ d ∷ s ∷ []) F = bit c F.live
    (λ e. rw (ne_eqb c 1 (λ f. omega arith)) (λ i. sym (F.rate e) i ∷ sym (F.rmax e) i ∷ sym e i ∷ d ∷ sym (F.set e) i ∷ []))
    (λ e. rw (eq-eqb c 1 e) (λ i. a ∷ b ∷ sym e i ∷ d ∷ s ∷ []))
row_write (a ∷ b ∷ c ∷ d ∷ s ∷ x ∷ xs) F = absurd (omega (arith, F.long))

-- rows behind the first v have vacant entry 0
rows_write : (v : ℕ) (es : List (List ℕ)) → All FineRow es → ((i : ℕ) → v ≤ i → i < length es → read_vacant (get_or es i []) ≡ 0)
    → row_entries (map read_row es) (map read_vacant (take v es)) ≡ es
unfolding row_entries
rows_write zero [] F z = refl
rows_write (suc v) [] F z = refl
rows_write zero (e ∷ es) F z = λ i. (ap (row_words (read_row e)) (sym (z 0 (omega arith) (omega arith))) ∙ row_write e F.0) i ∷ rows_write zero es F.1 (λ j h l. z (suc j) (omega arith) (omega arith)) i
rows_write (suc v) (e ∷ es) F z = λ i. row_write e F.0 i ∷ rows_write v es F.1 (λ j h l. z (suc j) (omega arith) (omega arith)) i

posting-write : (e : List ℕ) → 2 ≤ length e → posting_words (read_posting e) ≡ e
posting-write [] h = absurd (omega arith)
posting-write (a ∷ []) h = absurd (omega arith)
posting-write (a ∷ b ∷ e) h = refl

-- ---- the whole

module _ (w : ℕ) (z : Sizes) (m : Words) (w2 : 2 ≤ w) (refs-long : length m.references ≡ head_width + row_width * z.R) (posts-long : length m.postings ≡ w * z.P) (stops-long : length m.stopped ≡ z.K) where
  abbrev rs : List ℕ
  rs = m.references

  abbrev ps : List ℕ
  ps = m.postings

  abbrev ss : List ℕ
  ss = m.stopped

  abbrev n : ℕ
  n = get_or rs 0 0

  abbrev v : ℕ
  v = get_or rs 1 0

  abbrev p : ℕ
  p = get_or rs 2 0

  abbrev k : ℕ
  k = get_or rs 3 0

  module _ (F : Facts w z rs ps ss n v p k) where
    abbrev rows : List (Option Row)
    rows = map read_row (entries row_width n (drop head_width rs))

    abbrev vacant : List ℕ
    vacant = map read_vacant (entries row_width v (drop head_width rs))

    abbrev postings : List Posting
    postings = map read_posting (entries w p ps)

    abbrev stopped : List ℕ
    stopped = take k ss

    pub rows_long : length rows ≡ n
    rows_long = length-read read_row row_width n (drop head_width rs)

    pub vacant-long : length vacant ≡ v
    vacant-long = length-read read_vacant row_width v (drop head_width rs)

    pub postings-long : length postings ≡ p
    postings-long = length-read read_posting w p ps

    pub stopped-long : length stopped ≡ k
    stopped-long = length-take-le k ss (omega (arith, F.stopped-fit))

    rows-there : row_width * n ≤ length (drop head_width rs)
    rows-there = rw length-drop (omega (arith, F.rows_fit))

    postings-there : w * p ≤ length ps
    postings-there = rw posts-long (mul-le-mul_left w F.postings-fit)

    -- ---- rows

    pub row_read : (j : ℕ) → j < n → get_or rows j none ≡ read_row (entry_at row_width j (drop head_width rs))
    row_read j h = read_at read_row row_width n (drop head_width rs) none j h

    pub vacant-read : (i : ℕ) → i < v → get_or vacant i 0 ≡ row_word rs i at_vacant
    vacant-read i h = read_at read_vacant row_width v (drop head_width rs) 0 i h ∙ row_word_lem rs i at_vacant (omega arith)

    pub live-row : (j : ℕ) → j < n → row_word rs j at_live ≡ 1 → get_or rows j none ≡ some (record { rate = row_word rs j at_rate; rmax = row_word rs j at_rmax; set = row_word rs j at_set })
    live-row j h e = row_read j h ∙ rw (row_word_lem rs j at_live (omega arith), e, row_word_lem rs j at_rate (omega arith), row_word_lem rs j at_rmax (omega arith), row_word_lem rs j at_set (omega arith))

    pub dead-row : (j : ℕ) → j < n → row_word rs j at_live ≡ 0 → get_or rows j none ≡ none
    dead-row j h e = row_read j h ∙ rw (row_word_lem rs j at_live (omega arith), e)

    -- a row is dead or live
    either-row {ℓ} : {C : Type ℓ} (j : ℕ) → j < n → (row_word rs j at_live ≡ 0 → C) → (row_word rs j at_live ≡ 1 → C) → C
    either-row j h f g = bit (row_word rs j at_live) (F.live j h) f g

    row-good : (j : ℕ) → j < n → good_row w (get_or rows j none) ≡ true
    unfolding row_sound
    row-good j h = either-row j h
        (λ e. rw (dead-row j h e))
        (λ e. rw (live-row j h e) (both_true (is_canonical (row_word rs j at_rate)) _ (F.rate j h (λ d. omega arith))
        (both_true (has_rmax w || eqb (row_word rs j at_rmax) 0) (is_set (row_word rs j at_set))
        (test (has_rmax w) (λ d. or_left (has_rmax w) _ d) (λ d. or_right (has_rmax w) _ (eq-eqb (row_word rs j at_rmax) 0 (F.rmax j h d)))) (F.set j h (λ d. omega arith)))))

    dead-same : (j : ℕ) → j < n → is_dead (get_or rows j none) ≡ dead_row rs j
    dead-same j h = either-row j h
        (λ e. rw (dead-row j h e, is-dead rs j e))
        (λ e. rw (live-row j h e, not_dead rs j (λ d. omega arith)))

    pub live_same : (id : ℕ) → is_live (get_or rows id none) ≡ live_id rs n id
    live_same id = ⊎_elim
        (λ (le : n ≤ id). rw (get_or-eq_default rows none {n = id} (rw rows_long le), id-out rs n id le))
        (λ (lt : id < n). either-row id lt
        (λ e. rw (dead-row id lt e, id-dead rs n id e))
        (λ e. rw (live-row id lt e, id-live rs n id lt e)))
        (le-or-lt n id)

    entry-once : (i j : ℕ) → i < v → j < v → row_word rs i at_vacant ≡ row_word rs j at_vacant → i ≡ j
    entry-once i j h l e = ⊎_elim
        (λ (a : i ≤ j). ⊎_elim (λ (b : j ≤ i). omega arith) (λ (b : i < j). absurd (F.vacant-once j i l b e)) (le-or-lt j i))
        (λ (a : j < i). absurd (F.vacant-once i j h a (sym e)))
        (le-or-lt i j)

    -- ---- postings

    anchor-read : (i : ℕ) → has_rmax w ≡ true → get_or (drop 2 (entry_at w i ps)) 0 0 ≡ posting_word ps w i 2
    anchor-read i e = get_or-drop 2 (entry_at w i ps) 0 0 ∙ rw add-zero (anchor-word w ps i e)

    pub posting-good : (i : ℕ) → i < p → good_hash w (get_or rows (read_posting (entry_at w i ps)).id none) (read_posting (entry_at w i ps)).hash ≡ true
    unfolding hash_sound
    posting-good i h =
        rw (id-word w ps i w2, live-row (posting_word ps w i 1) (F.id-within i h) (F.id-live i h)) (test (has_rmax w)
        (λ e. or_right (not (has_rmax w)) _ (rw (anchor-read i e) (le-leb (posting_word ps w i 2) (row_word rs (posting_word ps w i 1) at_rmax) (F.anchors i h e))))
        (λ e. or_left (not (has_rmax w)) _ (ap not e)))

    pub stopped-read : (j : ℕ) → j < k → get_or stopped j 0 ≡ get_or ss j 0
    stopped-read j h = get_or-take k ss j 0 h

    posting-unstopped : (i : ℕ) → i < p → member (first_word (entry_at w i ps)) stopped ≡ false
    posting-unstopped i h = rw (entry_key w i ps (omega arith)) (some-none (λ x. eqb x (key_at ps w i)) stopped
        (all-make (λ x. eqb x (key_at ps w i) ≡ false) stopped 0
        (λ j lt. let l : j < k = omega (arith, stopped-long) in ne_eqb (get_or stopped j 0) (key_at ps w i) (λ e. F.unstopped i j h l (sym (stopped-read j l) ∙ e)))))

    -- a fact of every posting, from its entry
    of-entries : (P : Posting → Type 0) → ((i : ℕ) → i < p → P (read_posting (entry_at w i ps))) → All P postings
    of-entries P f = all_map read_posting P (entries w p ps) (all-entries (λ e. P (read_posting e)) w p ps f)

    pub read-sound : Sound w z (read_index w m)
    unfolding read_index
    read-sound = record {
      rows_fit = rw rows_long F.rows_fit;
      postings-fit = rw postings-long F.postings-fit;
      stopped-fit = rw stopped-long F.stopped-fit;
      rows-good = all-make (λ o. good_row w o ≡ true) rows none (λ j lt. row-good j (omega (arith, rows_long)));
      as_many =
          sym (count-keep is_dead rows none)
          ∙ ap (λ (l : ℕ). count l (λ j. is_dead (get_or rows j none))) rows_long
          ∙ count_same (λ j. is_dead (get_or rows j none)) (dead_row rs) n dead-same ∙ F.deads ∙ sym vacant-long;
      within = λ i lt. let l : i < v = omega (arith, vacant-long) in rw (vacant-read i l, rows_long) (F.vacant-within i l);
      dead = λ i lt. let l : i < v = omega (arith, vacant-long) in rw (vacant-read i l) (dead-row (row_word rs i at_vacant) (F.vacant-within i l) (F.vacant-dead i l));
      once = λ i j lt lt' e.
          let l : i < v = omega (arith, vacant-long) in
          let l' : j < v = omega (arith, vacant-long) in
          entry-once i j l l' (sym (vacant-read i l) ∙ e ∙ vacant-read j l');
      sorted = sorted-map key_of read_posting (entries w p ps) (sorted_entries w p ps (omega arith) F.keys);
      ascending = ascending-make (λ k. k) stopped 0 (λ i lt.
          let l : suc i < k = omega (arith, stopped-long) in
          rw (stopped-read i (omega arith), stopped-read (suc i) l) (rw add-one at (F.stops i (omega arith))));
      wide = all_map read_posting (λ p. 2 + length p.hash.times ≡ w) (entries w p ps)
          (all-imp (λ e. length e ≡ w) (λ e. 2 + length (drop 2 e) ≡ w) (λ e h. rw length-drop (omega arith)) (entries w p ps) (wide-entries w p ps postings-there));
      postings-good = of-entries (λ p. good_hash w (get_or rows p.id none) p.hash ≡ true) posting-good;
      unstopped = of-entries (λ p. member (key_of p) stopped ≡ false) posting-unstopped;
    }

    -- ---- laid out again

    rows-fine : All FineRow (entries row_width n (drop head_width rs))
    rows-fine = all-entries FineRow row_width n (drop head_width rs) fine
      where
        fine : (j : ℕ) → j < n → FineRow (entry_at row_width j (drop head_width rs))
        fine j l = record {
          long = length-take-le row_width (drop (row_width * j) (drop head_width rs)) (simp length-drop (omega (arith, F.rows_fit)));
          live = rw (row_word_lem rs j at_live (omega arith)) (F.live j l);
          rate = λ e. row_word_lem rs j at_rate (omega arith) ∙ F.dead-rate j l (sym (row_word_lem rs j at_live (omega arith)) ∙ e);
          rmax = λ e. row_word_lem rs j at_rmax (omega arith) ∙ F.dead-rmax j l (sym (row_word_lem rs j at_live (omega arith)) ∙ e);
          set = λ e. row_word_lem rs j at_set (omega arith) ∙ F.dead-set j l (sym (row_word_lem rs j at_live (omega arith)) ∙ e);
        }

    rows-again : row_entries rows vacant ≡ entries row_width n (drop head_width rs)
    rows-again =
        ap (λ (l : List (List ℕ)). row_entries rows (map read_vacant l)) (entries-fewer row_width v n (drop head_width rs) F.vacant-fit)
        ∙ rows_write v (entries row_width n (drop head_width rs)) rows-fine (λ i h lt.
        let l : i < n = omega (arith, length-entries row_width n (drop head_width rs)) in
        ap read_vacant (entries_at row_width n (drop head_width rs) i l) ∙ row_word_lem rs i at_vacant (omega arith) ∙ F.entries-unused i h l)

    postings-again : map posting_words postings ≡ entries w p ps
    postings-again =
        map-map posting_words read_posting (entries w p ps)
        ∙ map_same (λ e. posting_words (read_posting e)) (λ e. e) (entries w p ps)
        (all-imp (λ e. length e ≡ w) (λ e. posting_words (read_posting e) ≡ e) (λ e h. posting-write e (omega arith)) (entries w p ps) (wide-entries w p ps postings-there))
        ∙ map-id (entries w p ps)

    pub write_read : write w z (read_index w m) ≡ m
    unfolding write read_index
    write_read = λ i. record { references = references i; postings = posts i; stopped = stops i }
      where
        words : length rows ∷ length vacant ∷ length postings ∷ length stopped ∷ flat (row_entries rows vacant) ≡ take (head_width + row_width * n) rs
        words = rw (rows_long, vacant-long, postings-long, stopped-long, rows-again, flat-entries row_width n (drop head_width rs)) (front rs (row_width * n) (omega arith))

        references : padded (head_width + row_width * z.R) (length rows ∷ length vacant ∷ length postings ∷ length stopped ∷ flat (row_entries rows vacant)) ≡ rs
        references = rw (words, ← refs-long) (padded-take rs (head_width + row_width * n) (omega (arith, F.rows_fit)) F.rows-unused)

        posts : padded (w * z.P) (flat (map posting_words postings)) ≡ ps
        posts = rw (postings-again, flat-entries w p ps, ← posts-long) (padded-take ps (w * p) postings-there F.postings-unused)

        stops : padded z.K stopped ≡ ss
        stops = rw (← stops-long) (padded-take ss k (omega (arith, F.stopped-fit)) F.stopped-unused)
