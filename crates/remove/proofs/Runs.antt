-- What the model says of live_count and remove on the words of a store, case by case. Assumes nothing.
use mathlib.Core.Path.{◌≡◌, sym, ap, ◌∙◌}
use mathlib.Core.Logic.{⊎_elim}
use mathlib.Core.Bool.{true, false}
use mathlib.Core.List.{List, [], ◌∷◌, map}
use mathlib.Core.Option.{none}
use Prim.Native.Nat.{ℕ, ◌+◌, ◌*◌, ◌-◌, ◌≤◌, ◌<◌}
use native.Mathlib.Nat.{mul-le-mul_left}
use native.Mathlib.Omega.{arith}
use lib.ListN.{length, get_or, drop, get_or-eq_default}
use lib.Dec.{eqb, leb}
use borrow.Author.Tests.{leb-true, lt-ltb, le-ltb}
use Rattle.lists.specs.Entries.{entries, entry_at}
use Rattle.lists.proofs.Tests.{test, le-or-lt, and_left, and_right}
use Rattle.lists.proofs.Every.{count-lt}
use Rattle.lists.proofs.Entries.{length-read, read_at}
use Rattle.model.specs.Index.{Index, is_live, without_id, erased}
use Rattle.model.specs.Calls.{Sizes, count as counted, removed, refused, plain_tests, count_step, remove_step}
use Rattle.model.specs.Words.{Words, sizes_of, sizes_listed, between, slices_listed, write, read_row, read_vacant, read_posting, read_index, head_width, row_width, at_live}
use Rattle.model.specs.Sound.{Sound}
use Rattle.model.specs.Soundness.{dead_row, live_id, sound_words}
use Rattle.model.proofs.Facts.{Facts, live-id, not_dead}
use Rattle.model.proofs.Written.{row_word_lem}
use Rattle.model.proofs.Stores.{sizes-listed, references-long, postings-long, sound-facts, sound-read, sound-again, store-holds, store-again}
use Rattle.soundness.specs.Scan.{words, refusal_of}
use Rattle.soundness.proofs.Refusal.{refused-first}
use Rattle.postings.specs.Retain.{staying, retained}
use Rattle.model.specs.Run.{run_count, run_remove}
use Rattle.remove.specs.Erasing.{vacated, others, others_left, Erasable}
use Rattle.remove.proofs.Erased.{vacated-is, held-is, left_is, stopped-is}

-- ---- refused

module _ (w : ℕ) (m : Words) (w2 : 2 ≤ w) (n : refusal_of w m ≡ 0 → ⊥) where
  pub count-refused : run_count w m ≡ (refused (refusal_of w m), m)
  unfolding run_count count_step plain_tests
  count-refused = rw (refused-first w m [] n, store-again w m w2)

  pub remove-refused : (id : ℕ) → run_remove w m id ≡ (refused (refusal_of w m), m)
  unfolding run_remove remove_step plain_tests
  remove-refused id = rw (refused-first w m [] n, store-again w m w2)

-- ---- accepted

is_live_lem : (e : List ℕ) → is_live (read_row e) ≡ eqb (get_or e 2 0) 1
is_live_lem e = test (eqb (get_or e 2 0) 1) (λ t. rw t) (λ t. rw t)

module _ (w : ℕ) (rs ps ss : List ℕ) (w3 : 3 ≤ w) (l : slices_listed w (words rs ps ss) ≡ true) (s : sound_words w (words rs ps ss) ≡ true) where
  abbrev m : Words
  m = words rs ps ss

  abbrev z : Sizes
  z = sizes_of w m

  abbrev x : Index
  x = read_index w m

  w2 : 2 ≤ w
  w2 = omega arith

  again : write w z x ≡ m
  again = sound-again w m w2 l s

  facts-are : Facts w z rs ps ss (get_or rs 0 0) (get_or rs 1 0) (get_or rs 2 0) (get_or rs 3 0)
  facts-are = sound-facts w m w2 l s

  many-rows : length x.rows ≡ get_or rs 0 0
  unfolding read_index
  many-rows = length-read read_row row_width (get_or rs 0 0) (drop head_width rs)

  many-vacant : length x.vacant ≡ get_or rs 1 0
  unfolding read_index
  many-vacant = length-read read_vacant row_width (get_or rs 1 0) (drop head_width rs)

  many-postings : length x.postings ≡ get_or rs 2 0
  unfolding read_index
  many-postings = length-read read_posting w (get_or rs 2 0) ps

  pub count-done : run_count w (words rs ps ss) ≡ (counted (get_or rs 0 0 - get_or rs 1 0), words rs ps ss)
  unfolding run_count count_step plain_tests
  count-done = rw (store-holds w m l s, many-rows, many-vacant, again)

  pub vacant-few : get_or rs 1 0 ≤ get_or rs 0 0
  vacant-few = facts-are.vacant-fit

  pub header-there : head_width ≤ length rs
  header-there = omega (arith, references-long w m w2 l)

  pub rows-there : head_width + row_width * get_or rs 0 0 ≤ length rs
  rows-there = omega (arith, references-long w m w2 l, facts-are.rows_fit)

  -- is the recording live?
  pub live-is : (id : ℕ) → is_live (get_or x.rows id none) ≡ live_id rs (get_or rs 0 0) id
  unfolding read_index live_id
  live-is id = ⊎_elim
      (λ (h : get_or rs 0 0 ≤ id).
      let past : length (map read_row (entries row_width (get_or rs 0 0) (drop head_width rs))) ≤ id = omega (arith, length-read read_row row_width (get_or rs 0 0) (drop head_width rs)) in
      rw (get_or-eq_default (map read_row (entries row_width (get_or rs 0 0) (drop head_width rs))) none past, le-ltb id (get_or rs 0 0) h))
      (λ (h : id < get_or rs 0 0).
      rw (read_at read_row row_width (get_or rs 0 0) (drop head_width rs) none id h, lt-ltb id (get_or rs 0 0) h)
      (is_live_lem (entry_at row_width id (drop head_width rs)) ∙ rw (row_word_lem rs id at_live (omega arith))))
      (le-or-lt (get_or rs 0 0) id)

  pub remove-dead : (id : ℕ) → live_id rs (get_or rs 0 0) id ≡ false → run_remove w (words rs ps ss) id ≡ (removed false, words rs ps ss)
  unfolding run_remove remove_step plain_tests
  remove-dead id e = rw (store-holds w m l s, live-is id, e, again)

  module _ (id : ℕ) (e : live_id rs (get_or rs 0 0) id ≡ true) where
    within : id < get_or rs 0 0
    within = (live-id rs (get_or rs 0 0) id e).0

    -- not all of the rows are dead
    fewer : get_or rs 1 0 < get_or rs 0 0
    fewer =
        let d = not_dead rs id (λ q. omega (arith, (live-id rs (get_or rs 0 0) id e).1)) in
        omega (arith, facts-are.deads, count-lt (dead_row rs) (get_or rs 0 0) id within d)

    most : (z.R ≤ 4096) × (z.P ≤ 1048576)
    unfolding sizes_listed
    most =
        let t = sizes-listed w m w2 l in
        let u = and_right (between 1 4096 z.R) _ t in (
          leb-true z.R 4096 (and_right (leb 1 z.R) (leb z.R 4096) (and_left (between 1 4096 z.R) _ t)),
          leb-true z.P 1048576 (and_right (leb 1 z.P) (leb z.P 1048576) (and_left (between 1 1048576 z.P) _ u)),
        )

    pub erasable : Erasable w rs ps id
    erasable =
        let F = facts-are in
        let r = references-long w m w2 l in
        record {
          wide = w3;
          held = omega (arith, mul-le-mul_left w F.postings-fit, postings-long w m w2 l);
          few = omega (arith, F.postings-fit, most.1);
          here = omega (arith, F.rows_fit, within);
          next = omega (arith, F.rows_fit, fewer);
          some = omega (arith, F.rows_fit, fewer, most.0);
        }

    sound : Sound w z x
    sound = sound-read w m w2 l s

    -- the words left are the erased index, laid out
    left : write w z (erased id x) ≡ words (vacated rs id (length (others w rs ps id))) (others_left w rs ps id) ss
    left = λ i. record { references = sym references i; postings = sym postings i; stopped = sym stopped i }
      where
        rest : length x.vacant ≤ length x.rows
        rest = rw (many-rows, many-vacant) vacant-few

        held : length (others w rs ps id) ≡ length (without_id id x.postings)
        held =
            ap (λ (k : ℕ). length (staying w k 1 (id ∷ []) ps)) (sym many-postings)
            ∙ ap (λ (v : Words). length (staying w (length x.postings) 1 (id ∷ []) v.postings)) (sym again)
            ∙ held-is w z x id rest sound.wide sound.postings-fit

        references : vacated rs id (length (others w rs ps id)) ≡ (write w z (erased id x)).references
        references =
            ap (λ (v : Words). vacated v.references id (length (others w rs ps id))) (sym again)
            ∙ vacated-is w z x id (rw many-rows within) (rw (many-rows, many-vacant) fewer) (length (others w rs ps id)) held

        postings : others_left w rs ps id ≡ (write w z (erased id x)).postings
        postings =
            ap (λ (k : ℕ). retained w k 1 (id ∷ []) ps) (sym many-postings)
            ∙ ap (λ (v : Words). retained w (length x.postings) 1 (id ∷ []) v.postings) (sym again)
            ∙ left_is w z x id rest sound.wide sound.postings-fit

        stopped : ss ≡ (write w z (erased id x)).stopped
        stopped = ap (λ (v : Words). v.stopped) (sym again) ∙ stopped-is w z x id

    pub remove-live : run_remove w (words rs ps ss) id ≡ (removed true, words (vacated rs id (length (others w rs ps id))) (others_left w rs ps id) ss)
    unfolding run_remove remove_step plain_tests
    remove-live = rw (store-holds w m l s, live-is id, e, left)
