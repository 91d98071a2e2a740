-- The postings, one after the other: keys that ascend, ids and anchors. Assumes nothing.
use mathlib.Core.Path.{◌≡◌, refl}
use mathlib.Core.Bool.{true, false, ◌&&◌, and-false}
use mathlib.Core.List.{List}
use Prim.Native.Nat.{ℕ, zero, suc, ◌+◌, ◌-◌, ◌≤◌, ◌<◌}
use native.Mathlib.Omega.{arith}
use native.Mathlib.Numerals.{add-one}
use lib.Dec.{leb}
use borrow.Author.Tests.{lt-ltb, le-ltb, le-leb, lt-leb, eq-eqb, ne_eqb}
use Rattle.lists.specs.Every.{every}
use Rattle.lists.specs.Entries.{key_at, keys_ascend}
use Rattle.lists.proofs.Every.{every-none, every_more, every-fail}
use Rattle.model.specs.Soundness.{row_word, posting_word, live_id, posting_live, anchor_fine}
use Rattle.model.specs.Words.{at_rmax, at_live}
use Rattle.soundness.specs.Scan.{entry_fine, last_key}

-- the keys of the first i postings ascend, and the last of them is `last`
pub record Ascended (ps : List ℕ) (w i last : ℕ) : Type 0 where
  pub up : keys_ascend ps w i ≡ true
  pub end : last ≡ last_key ps w i

module _ (ps : List ℕ) (w : ℕ) where
  pub ascended-none : Ascended ps w 0 0
  unfolding keys_ascend
  ascended-none = record { up = every-none (λ i. leb (key_at ps w i) (key_at ps w (i + 1))); end = refl }

  last-next : (i : ℕ) → key_at ps w i ≡ last_key ps w (i + 1)
  last-next i = rw (add-one i)

  pub ascended-more : (i last : ℕ) → Ascended ps w i last → last ≤ key_at ps w i → Ascended ps w (i + 1) (key_at ps w i)
  unfolding keys_ascend
  ascended-more zero last a h = record { up = every-none (λ i. leb (key_at ps w i) (key_at ps w (i + 1))); end = last-next 0 }
  ascended-more (suc i) last a h =
      let e : suc i + 1 - 1 ≡ i + 1 = omega arith in
      let f : suc i - 1 ≡ i = omega arith in
      let u : every i (λ i. leb (key_at ps w i) (key_at ps w (i + 1))) ≡ true = rw f at a.up in
      let g : key_at ps w i ≤ key_at ps w (i + 1) = rw (add-one i) (rw a.end at h) in
      record {
        up = rw e (every_more (λ i. leb (key_at ps w i) (key_at ps w (i + 1))) i u (le-leb (key_at ps w i) (key_at ps w (i + 1)) g));
        end = last-next (suc i);
      }

  pub ascended-fail : (i last p : ℕ) → Ascended ps w i last → i < p → key_at ps w i < last → keys_ascend ps w p ≡ false
  unfolding keys_ascend
  ascended-fail zero last p a l h = absurd (omega (arith, a.end))
  ascended-fail (suc i) last p a l h =
      let f : suc i - 1 ≡ i = omega arith in
      let g : key_at ps w (i + 1) < key_at ps w i = rw (add-one i) (rw a.end at h) in
      every-fail (λ i. leb (key_at ps w i) (key_at ps w (i + 1))) (p - 1) i (omega arith) (lt-leb (key_at ps w i) (key_at ps w (i + 1)) g)

-- the tests of posting i, id being its id
module _ (w : ℕ) (rs : List ℕ) (n : ℕ) (ps : List ℕ) (i : ℕ) {id : ℕ} (e : id ≡ posting_word ps w i 1) where
  pub entry-out : n ≤ id → entry_fine w rs n ps i ≡ false
  unfolding entry_fine posting_live live_id
  entry-out h = rw (← e, le-ltb id n h)

  pub entry-dead : id < n → (row_word rs id at_live ≡ 1 → ⊥) → entry_fine w rs n ps i ≡ false
  unfolding entry_fine posting_live live_id
  entry-dead h d = rw (← e, lt-ltb id n h, ne_eqb (row_word rs id at_live) 1 d)

  pub entry_other : id < n → row_word rs id at_live ≡ 1 → (w ≡ 3 → ⊥) → entry_fine w rs n ps i ≡ true
  unfolding entry_fine posting_live live_id anchor_fine
  entry_other h d o = rw (← e, lt-ltb id n h, eq-eqb (row_word rs id at_live) 1 d, ne_eqb w 3 o)

  pub entry-wang : id < n → row_word rs id at_live ≡ 1 → w ≡ 3 → entry_fine w rs n ps i ≡ leb (posting_word ps w i 2) (row_word rs id at_rmax)
  unfolding entry_fine posting_live live_id anchor_fine
  entry-wang h d o = rw (← e, lt-ltb id n h, eq-eqb (row_word rs id at_live) 1 d, eq-eqb w 3 o)

-- where posting i fails, the pass fails
module _ (w : ℕ) (rs : List ℕ) (n : ℕ) (ps : List ℕ) (p i last : ℕ) (a : Ascended ps w i last) (l : i < p) where
  pub pass-descends : key_at ps w i < last → keys_ascend ps w p && every p (entry_fine w rs n ps) ≡ false
  pass-descends h = rw (ascended-fail ps w i last p a l h)

  pub pass-fails : entry_fine w rs n ps i ≡ false → keys_ascend ps w p && every p (entry_fine w rs n ps) ≡ false
  pass-fails h = rw (every-fail (entry_fine w rs n ps) p i l h, and-false)
