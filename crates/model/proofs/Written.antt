-- A sound index, laid out: the words pass every test of soundness. Assumes nothing.
use mathlib.Core.Path.{◌≡◌, refl, sym, ap, ◌∙◌, subst}
use mathlib.Core.Logic.{⊎_elim}
use mathlib.Core.Bool.{true, false, not, ◌||◌}
use mathlib.Core.List.{List, [], map}
use mathlib.Core.Option.{Option, none, some}
use Prim.Native.Nat.{ℕ, ◌+◌, ◌*◌, ◌≤◌, ◌<◌}
use native.Mathlib.Omega.{arith}
use lib.ListN.{length, get_or, drop, length-map, get_or-eq_default}
use lib.Seq.{get_or-take, get_or-drop}
use lib.Dec.{eqb, leb}
use borrow.Author.Tests.{eqb-true, eqb-false, leb-true}
use Rattle.lists.specs.Lists.{All}
use Rattle.lists.specs.Every.{count}
use Rattle.lists.specs.Entries.{entries, entry_at, key_of as first_word}
use Rattle.lists.specs.Keys.{Sorted}
use Rattle.lists.proofs.Tests.{not-both, and_left, and_right, or_else, le-or-lt}
use Rattle.lists.proofs.Every.{count_same}
use Rattle.lists.proofs.Keep.{length-keep, none_pass, all-at, all-imp, all_map, count-keep}
use Rattle.lists.proofs.Place.{sorted-map}
use Rattle.lists.proofs.Ascending.{ascending-at}
use Rattle.lists.proofs.Entries.{entries_at, entry-word, entry_key, entries_sorted}
use Rattle.model.specs.Rows.{Row, has_rmax, no_rate, is_canonical, is_set, row_sound, hash_sound, anchor}
use Rattle.model.specs.Index.{Posting, Index, is_stopped}
use Rattle.model.specs.Calls.{Sizes}
use Rattle.model.specs.Words.{row_words, posting_words, write, head_width, row_width, row_place, at_rate, at_rmax, at_live, at_vacant, at_set}
use Rattle.model.specs.Sound.{is_dead, good_row, good_hash, Sound}
use Rattle.model.specs.Soundness.{row_word, posting_word, dead_row, sound_words}
use Rattle.model.proofs.Words.{row_at, header-rows, header-vacant, header-postings, header-stopped, written-rows, written-postings, written-stopped, unused-rows, unused-postings, unused-stopped, sizes-written}
use Rattle.model.proofs.Facts.{Facts, tests}

-- a row's words, by the entry
pub row_word_lem : (rs : List ℕ) (j f : ℕ) → f < row_width → get_or (entry_at row_width j (drop head_width rs)) f 0 ≡ row_word rs j f
row_word_lem rs j f h =
    let e : head_width + (row_width * j + f) ≡ row_place j f = omega arith in
    entry-word row_width j (drop head_width rs) f h ∙ get_or-drop head_width rs (row_width * j + f) 0 ∙ rw e

-- a posting's
pub id-word : (w : ℕ) (ps : List ℕ) (i : ℕ) → 2 ≤ w → get_or (entry_at w i ps) 1 0 ≡ posting_word ps w i 1
id-word w ps i h = entry-word w i ps 1 (omega arith)

pub anchor-word : (w : ℕ) (ps : List ℕ) (i : ℕ) → has_rmax w ≡ true → get_or (entry_at w i ps) 2 0 ≡ posting_word ps w i 2
anchor-word w ps i e = entry-word w i ps 2 (omega (arith, eqb-true w 3 e))

-- ---- a row's words, by what it says

live-word : (o : Option Row) (e : ℕ) → get_or (row_words o e) at_live 0 ≤ 1
live-word none e = omega arith
live-word (some r) e = omega arith

dead-word : (o : Option Row) (e : ℕ) → o ≡ none → get_or (row_words o e) at_live 0 ≡ 0
dead-word none e h = refl
dead-word (some r) e h = let z : ◌≡◌ {A = ℕ} 0 1 = cc in absurd (omega arith)

pub entry-word-is : (o : Option Row) (e : ℕ) → get_or (row_words o e) at_vacant 0 ≡ e
entry-word-is none e = refl
entry-word-is (some r) e = refl

dead-rate-word : (o : Option Row) (e : ℕ) → get_or (row_words o e) at_live 0 ≡ 0 → get_or (row_words o e) at_rate 0 ≡ no_rate
dead-rate-word none e h = refl
dead-rate-word (some r) e h = absurd (omega arith)

dead-rmax-word : (o : Option Row) (e : ℕ) → get_or (row_words o e) at_live 0 ≡ 0 → get_or (row_words o e) at_rmax 0 ≡ 0
dead-rmax-word none e h = refl
dead-rmax-word (some r) e h = absurd (omega arith)

rate-word : (w : ℕ) (o : Option Row) (e : ℕ) → good_row w o ≡ true → (get_or (row_words o e) at_live 0 ≡ 0 → ⊥) → is_canonical (get_or (row_words o e) at_rate 0) ≡ true
unfolding row_sound
rate-word w none e g h = absurd (h refl)
rate-word w (some r) e g h = and_left (is_canonical r.rate) _ g

rmax-word : (w : ℕ) (o : Option Row) (e : ℕ) → good_row w o ≡ true → has_rmax w ≡ false → get_or (row_words o e) at_rmax 0 ≡ 0
unfolding row_sound
rmax-word w none e g h = refl
rmax-word w (some r) e g h = eqb-true r.rmax 0 (or_else (has_rmax w) (eqb r.rmax 0) (and_left (has_rmax w || eqb r.rmax 0) _ (and_right (is_canonical r.rate) _ g)) h)

dead-set-word : (o : Option Row) (e : ℕ) → get_or (row_words o e) at_live 0 ≡ 0 → get_or (row_words o e) at_set 0 ≡ 0
dead-set-word none e h = refl
dead-set-word (some r) e h = absurd (omega arith)

set_word : (w : ℕ) (o : Option Row) (e : ℕ) → good_row w o ≡ true → (get_or (row_words o e) at_live 0 ≡ 0 → ⊥) → is_set (get_or (row_words o e) at_set 0) ≡ true
unfolding row_sound
set_word w none e g h = absurd (h refl)
set_word w (some r) e g h = and_right (has_rmax w || eqb r.rmax 0) (is_set r.set) (and_right (is_canonical r.rate) _ g)

dead-test : (o : Option Row) (e : ℕ) → eqb (get_or (row_words o e) at_live 0) 0 ≡ is_dead o
dead-test none e = refl
dead-test (some r) e = refl

module _ (w : ℕ) (z : Sizes) (x : Index) (w2 : 2 ≤ w) (h : Sound w z x) where
  abbrev n : ℕ
  n = length x.rows

  abbrev v : ℕ
  v = length x.vacant

  abbrev rs : List ℕ
  rs = (write w z x).references

  abbrev ps : List ℕ
  ps = (write w z x).postings

  abbrev ss : List ℕ
  ss = (write w z x).stopped

  pub fewer : length x.vacant ≤ length x.rows
  fewer = omega (arith, length-keep is_dead x.rows, h.as_many)

  -- ---- rows

  row_is : (j f : ℕ) → j < n → f < row_width → row_word rs j f ≡ get_or (row_words (get_or x.rows j none) (get_or x.vacant j 0)) f 0
  row_is j f lt le =
      sym (row_word_lem rs j f le)
      ∙ ap (λ (e : List ℕ). get_or e f 0) (sym (entries_at row_width n (drop head_width rs) j lt)
      ∙ ap (λ (l : List (List ℕ)). get_or l j []) (written-rows w z x fewer h.wide)
      ∙ row_at x.rows x.vacant j lt)

  vacant-is : (i : ℕ) → i < n → row_word rs i at_vacant ≡ get_or x.vacant i 0
  vacant-is i lt = row_is i at_vacant lt (omega arith) ∙ entry-word-is (get_or x.rows i none) (get_or x.vacant i 0)

  good : (j : ℕ) → j < n → good_row w (get_or x.rows j none) ≡ true
  good j lt = all-at (λ o. good_row w o ≡ true) x.rows none h.rows-good j lt

  deads-are : count n (dead_row rs) ≡ v
  unfolding dead_row
  deads-are =
      count_same (dead_row rs) (λ j. is_dead (get_or x.rows j none)) n
      (λ j lt. rw (row_is j at_live lt (omega arith)) (dead-test (get_or x.rows j none) (get_or x.vacant j 0)))
      ∙ count-keep is_dead x.rows none ∙ h.as_many

  -- ---- postings

  -- what is asked of a posting's words
  abbrev Held : List ℕ → Type 0
  Held e = (get_or e 1 0 < n) × (row_word rs (get_or e 1 0) at_live ≡ 1) × (has_rmax w ≡ true → get_or e 2 0 ≤ row_word rs (get_or e 1 0) at_rmax)

  held : (p : Posting) → good_hash w (get_or x.rows p.id none) p.hash ≡ true → Held (posting_words p)
  unfolding hash_sound
  held p g = ⊎_elim
      (λ (le : n ≤ p.id). absurd (not-both g (rw (get_or-eq_default x.rows none le))))
      (λ (lt : p.id < n). (
        lt,
        row_is p.id at_live lt (omega arith) ∙ live (get_or x.rows p.id none) (get_or x.vacant p.id 0) g,
        λ e.
            rw (row_is p.id at_rmax lt (omega arith)) (below (get_or x.rows p.id none) (get_or x.vacant p.id 0) g e),
      ))
      (le-or-lt n p.id)
    where
      live : (o : Option Row) (e : ℕ) → good_hash w o p.hash ≡ true → get_or (row_words o e) at_live 0 ≡ 1
      live none e g = absurd (not-both g refl)
      live (some r) e g = refl

      below : (o : Option Row) (e : ℕ) → good_hash w o p.hash ≡ true → has_rmax w ≡ true → anchor p.hash ≤ get_or (row_words o e) at_rmax 0
      below none e g t = absurd (not-both g refl)
      below (some r) e g t = leb-true (anchor p.hash) r.rmax (or_else (not (has_rmax w)) (leb (anchor p.hash) r.rmax) g (ap not t))

  entry-is : (i : ℕ) → i < length x.postings → get_or (map posting_words x.postings) i [] ≡ entry_at w i ps
  entry-is i lt = ap (λ (l : List (List ℕ)). get_or l i []) (sym (written-postings w z x fewer h.wide)) ∙ entries_at w (length x.postings) ps i lt

  of_entry : (P : List ℕ → Type 0) → All (λ p. P (posting_words p)) x.postings → (i : ℕ) → i < length x.postings → P (entry_at w i ps)
  of_entry P a i lt = subst P (entry-is i lt) (all-at P (map posting_words x.postings) [] (all_map posting_words P x.postings a) i (omega (arith, length-map x.postings posting_words)))

  posting-held : (i : ℕ) → i < length x.postings → Held (entry_at w i ps)
  posting-held = of_entry Held (all-imp (λ (p : Posting). good_hash w (get_or x.rows p.id none) p.hash ≡ true) (λ p. Held (posting_words p)) held x.postings h.postings-good)

  keys-ascend : Sorted first_word (entries w (length x.postings) ps)
  keys-ascend = rw (written-postings w z x fewer h.wide) (sorted-map first_word posting_words x.postings h.sorted)

  -- ---- stopped keys

  stopped-is : (i : ℕ) → i < length x.stopped → get_or ss i 0 ≡ get_or x.stopped i 0
  stopped-is i lt = sym (get_or-take (length x.stopped) ss i 0 lt) ∙ ap (λ (l : List ℕ). get_or l i 0) (written-stopped w z x fewer h.wide)

  other_keys : (i : ℕ) → i < length x.postings → is_stopped x (first_word (entry_at w i ps)) ≡ false
  other_keys = of_entry (λ e. is_stopped x (first_word e) ≡ false) h.unstopped

  -- ---- the whole

  written-facts : Facts w z rs ps ss n v (length x.postings) (length x.stopped)
  written-facts = record {
    rows_fit = h.rows_fit;
    vacant-fit = fewer;
    postings-fit = h.postings-fit;
    stopped-fit = h.stopped-fit;
    live = λ j lt. rw (row_is j at_live lt (omega arith)) (live-word (get_or x.rows j none) (get_or x.vacant j 0));
    keys = entries_sorted w (length x.postings) ps (omega arith) keys-ascend;
    stops = λ i lt. rw (stopped-is i (omega arith), stopped-is (i + 1) lt) (ascending-at (λ k. k) x.stopped 0 h.ascending i (i + 1) (omega arith) lt);
    deads = deads-are;
    vacant-within = λ i lt. rw (vacant-is i (omega (arith, fewer))) (h.within i lt);
    vacant-dead = λ i lt. rw (vacant-is i (omega (arith, fewer)), row_is (get_or x.vacant i 0) at_live (h.within i lt) (omega arith)) (dead-word _ _ (h.dead i lt));
    vacant-once = λ i j lt l e. let same = h.once j i (omega arith) lt (sym (vacant-is j (omega (arith, fewer))) ∙ e ∙ vacant-is i (omega (arith, fewer))) in omega arith;
    dead-rate = λ j lt e. row_is j at_rate lt (omega arith) ∙ dead-rate-word (get_or x.rows j none) (get_or x.vacant j 0) (sym (row_is j at_live lt (omega arith)) ∙ e);
    dead-rmax = λ j lt e. row_is j at_rmax lt (omega arith) ∙ dead-rmax-word (get_or x.rows j none) (get_or x.vacant j 0) (sym (row_is j at_live lt (omega arith)) ∙ e);
    rate = λ j lt e. rw (row_is j at_rate lt (omega arith)) (rate-word w (get_or x.rows j none) (get_or x.vacant j 0) (good j lt) (λ d. e (row_is j at_live lt (omega arith) ∙ d)));
    id-within = λ i lt. rw (← id-word w ps i w2) (posting-held i lt).0;
    id-live = λ i lt. rw (← id-word w ps i w2) (posting-held i lt).1;
    anchors = λ i lt e. rw (← id-word w ps i w2, ← anchor-word w ps i e) ((posting-held i lt).2 e);
    rmax = λ j lt e. row_is j at_rmax lt (omega arith) ∙ rmax-word w (get_or x.rows j none) (get_or x.vacant j 0) (good j lt) e;
    unstopped = λ i j lt l e. eqb-false (get_or x.stopped j 0) (first_word (entry_at w i ps))
        (all-at (λ k. eqb k (first_word (entry_at w i ps)) ≡ false) x.stopped 0 (none_pass (λ k. eqb k (first_word (entry_at w i ps))) x.stopped (other_keys i lt)) j l)
        (sym (stopped-is j l) ∙ e ∙ sym (entry_key w i ps (omega arith)));
    rows-unused = unused-rows w z x fewer h.wide;
    entries-unused = λ i le lt. vacant-is i lt ∙ get_or-eq_default x.vacant 0 le;
    postings-unused = unused-postings w z x fewer h.wide;
    stopped-unused = unused-stopped w z x fewer h.wide;
    dead-set = λ j lt e. row_is j at_set lt (omega arith) ∙ dead-set-word (get_or x.rows j none) (get_or x.vacant j 0) (sym (row_is j at_live lt (omega arith)) ∙ e);
    set = λ j lt e. rw (row_is j at_set lt (omega arith)) (set_word w (get_or x.rows j none) (get_or x.vacant j 0) (good j lt) (λ d. e (row_is j at_live lt (omega arith) ∙ d)));
  }

  pub written-sound : sound_words w (write w z x) ≡ true
  unfolding sound_words
  written-sound =
      rw (
        sizes-written w z x fewer h.wide h.rows_fit h.postings-fit h.stopped-fit (omega arith),
        header-rows w z x fewer h.wide,
        header-vacant w z x fewer h.wide,
        header-postings w z x fewer h.wide,
        header-stopped w z x fewer h.wide,
      ) (tests w z rs ps ss n v (length x.postings) (length x.stopped) written-facts)
