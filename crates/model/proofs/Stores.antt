-- What the words of a store say, both ways: words are sound exactly if they are a sound index laid out, and that index is what is
-- read from them. Assumes nothing.
use mathlib.Core.Path.{◌≡◌, refl, sym, ap, ◌∙◌}
use mathlib.Core.Logic.{◌↔◌}
use mathlib.Core.Bool.{true, false, ◌&&◌}
use Prim.Native.Nat.{ℕ, ◌+◌, ◌*◌, ◌≤◌}
use native.Mathlib.Omega.{arith}
use lib.ListN.{length, get_or}
use lib.Dec.{eqb}
use borrow.Author.Tests.{eqb-true, eq-eqb}
use Rattle.lists.proofs.Tests.{test, and_left, and_right, both_true}
use Rattle.model.specs.Index.{Index}
use Rattle.model.specs.Calls.{Sizes, unlisted, unsound, holds}
use Rattle.model.specs.Words.{Words, sizes_of, sizes_listed, slices_listed, write, read_index, head_width, row_width}
use Rattle.model.specs.Sound.{Sound, SoundStore}
use Rattle.model.specs.Soundness.{sound_words}
use Rattle.model.specs.Run.{store_of, laid_out}
use Rattle.model.proofs.Words.{read-write, sizes-written, length-references, length-postings}
use Rattle.model.proofs.Facts.{Facts, facts}
use Rattle.model.proofs.Written.{fewer, written-sound}
use Rattle.model.proofs.Read.{read-sound, write_read}

-- ---- from words to an index

by-sizes : (w : ℕ) (m : Words) → slices_listed w m ≡ sizes_listed (sizes_of w m) && (eqb (length m.references) (head_width + row_width * (sizes_of w m).R) && eqb (length m.postings) (w * (sizes_of w m).P))
unfolding slices_listed sizes_of
by-sizes w m = refl

module _ (w : ℕ) (m : Words) (w2 : 2 ≤ w) (l : slices_listed w m ≡ true) where
  abbrev z : Sizes
  z = sizes_of w m

  exact : eqb (length m.references) (head_width + row_width * z.R) && eqb (length m.postings) (w * z.P) ≡ true
  unfolding slices_listed sizes_of
  exact = and_right (sizes_listed z) _ l

  pub sizes-listed : sizes_listed (sizes_of w m) ≡ true
  unfolding slices_listed sizes_of
  sizes-listed = and_left (sizes_listed z) _ l

  pub references-long : length m.references ≡ head_width + row_width * (sizes_of w m).R
  references-long = eqb-true (length m.references) (head_width + row_width * z.R) (and_left (eqb (length m.references) (head_width + row_width * z.R)) _ exact)

  pub postings-long : length m.postings ≡ w * (sizes_of w m).P
  postings-long = eqb-true (length m.postings) (w * z.P) (and_right (eqb (length m.references) (head_width + row_width * z.R)) _ exact)

  pub stopped-long : length m.stopped ≡ (sizes_of w m).K
  unfolding sizes_of
  stopped-long = refl

  module _ (s : sound_words w m ≡ true) where
    pub sound-facts : Facts w (sizes_of w m) m.references m.postings m.stopped (get_or m.references 0 0) (get_or m.references 1 0) (get_or m.references 2 0) (get_or m.references 3 0)
    unfolding sound_words
    sound-facts = facts w (sizes_of w m) m.references m.postings m.stopped (get_or m.references 0 0) (get_or m.references 1 0) (get_or m.references 2 0) (get_or m.references 3 0) s

    -- what is read is sound
    pub sound-read : Sound w (sizes_of w m) (read_index w m)
    sound-read = read-sound w (sizes_of w m) m w2 references-long postings-long stopped-long sound-facts

    -- laid out again it gives the same words
    pub sound-again : write w (sizes_of w m) (read_index w m) ≡ m
    sound-again = write_read w (sizes_of w m) m w2 references-long postings-long stopped-long sound-facts

-- ---- from an index to words

module _ (w : ℕ) (z : Sizes) (x : Index) (w2 : 2 ≤ w) (h : Sound w z x) where
  pub written-sizes : sizes_of w (write w z x) ≡ z
  written-sizes = sizes-written w z x (fewer w z x w2 h) h.wide h.rows_fit h.postings-fit h.stopped-fit (omega arith)

  pub written_listed : sizes_listed z ≡ true → slices_listed w (write w z x) ≡ true
  written_listed l = by-sizes w (write w z x) ∙ rw written-sizes (both_true (sizes_listed z) _ l (both_true (eqb (length (write w z x).references) (head_width + row_width * z.R)) _
      (eq-eqb (length (write w z x).references) (head_width + row_width * z.R) (length-references w z x (fewer w z x w2 h) h.wide h.rows_fit h.postings-fit h.stopped-fit))
      (eq-eqb (length (write w z x).postings) (w * z.P) (length-postings w z x (fewer w z x w2 h) h.wide h.rows_fit h.postings-fit h.stopped-fit))))

  pub written_read : read_index w (write w z x) ≡ x
  written_read = read-write w z x (fewer w z x w2 h) h.wide

-- ---- both ways

-- the test accepts exactly the words of sound indexes
pub sound-exactly : (w : ℕ) (m : Words) → 2 ≤ w → slices_listed w m ≡ true
    → (sound_words w m ≡ true) ↔ ((x : Index) × Sound w (sizes_of w m) x × (write w (sizes_of w m) x ≡ m))
sound-exactly w m w2 l = (
  (λ s. (read_index w m, sound-read w m w2 l s, sound-again w m w2 l s)),
  (λ t. rw t.2 at (written-sound w (sizes_of w m) t.0 w2 t.1)),
)

-- and there is just one
pub sound-once : (w : ℕ) (m : Words) (x : Index) → 2 ≤ w → Sound w (sizes_of w m) x → write w (sizes_of w m) x ≡ m → read_index w m ≡ x
sound-once w m x w2 h e = ap (read_index w) (sym e) ∙ written_read w (sizes_of w m) x w2 h

-- ---- what the words say

pub store-holds : (w : ℕ) (m : Words) → slices_listed w m ≡ true → sound_words w m ≡ true → store_of w m ≡ holds (read_index w m)
unfolding store_of
store-holds w m l s = rw (l, s)

pub store-unsound : (w : ℕ) (m : Words) → slices_listed w m ≡ true → sound_words w m ≡ false → store_of w m ≡ unsound
unfolding store_of
store-unsound w m l s = rw (l, s)

pub store-unlisted : (w : ℕ) (m : Words) → slices_listed w m ≡ false → store_of w m ≡ unlisted
unfolding store_of
store-unlisted w m l = rw l

module _ (w : ℕ) (m : Words) (w2 : 2 ≤ w) where
  pub store-sound : SoundStore w (sizes_of w m) (store_of w m)
  store-sound = test (slices_listed w m)
      (λ l. test (sound_words w m)
      (λ s. rw (store-holds w m l s) (sound-read w m w2 l s))
      (λ s. rw (store-unsound w m l s) tt))
      (λ l. rw (store-unlisted w m l) tt)

  -- what the words say, laid out, are the words
  pub store-again : laid_out w m (store_of w m) ≡ m
  store-again = test (slices_listed w m)
      (λ l. test (sound_words w m)
      (λ s. rw (store-holds w m l s) (sound-again w m w2 l s))
      (λ s. rw (store-unsound w m l s)))
      (λ l. rw (store-unlisted w m l))

  -- another sound index of the same sizes, laid out, says that index
  pub store-written : slices_listed w m ≡ true → (x : Index) → Sound w (sizes_of w m) x → store_of w (write w (sizes_of w m) x) ≡ holds x
  store-written l x h =
      store-holds w (write w (sizes_of w m) x) (written_listed w (sizes_of w m) x w2 h (sizes-listed w m w2 l)) (written-sound w (sizes_of w m) x w2 h)
      ∙ ap holds (written_read w (sizes_of w m) x w2 h)
