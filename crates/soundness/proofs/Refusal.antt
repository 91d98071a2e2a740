-- What refusals 1 and 2 mean for a call on the store. Assumes nothing.
use mathlib.Core.Path.{◌≡◌, refl, ◌∙◌}
use mathlib.Core.Bool.{Bool, true, false, cond, ◌&&◌}
use mathlib.Core.List.{List, ◌∷◌}
use mathlib.Core.Option.{some}
use Prim.Native.Nat.{ℕ, ◌*◌}
use native.Mathlib.Omega.{arith}
use Rattle.lists.proofs.Tests.{test}
use Rattle.model.specs.Calls.{is_unlisted, is_unsound, refusal}
use Rattle.model.specs.Words.{Words, slices_listed}
use Rattle.model.specs.Soundness.{sound_words}
use Rattle.model.specs.Run.{store_of}
use Rattle.model.proofs.Stores.{store-holds, store-unsound, store-unlisted}
use Rattle.refusals.specs.declared.Refusal.{Refusal}
use Rattle.refusals.specs.declared.Refusal.TheVariants.{Unlisted, Unsound, Malformed, Setting, Set, NotLive, NoRow, NoPostings, NoStops, NoScratch}
use Rattle.refusals.specs.Numbers.{number_of}
use Rattle.lists.specs.Every.{every}
use Rattle.lists.specs.Entries.{keys_ascend, zero_from}
use Rattle.soundness.specs.Scan.{entry_fine, rows_sound, postings_sound, stopped_sound, refusal_of}

-- 2 where a test fails, else 0
pub number-none : {n : ℕ} (b : Bool) → n ≡ cond b 0 2 → n ≡ 0 → b ≡ true
number-none b e z = test b (λ t. t) (λ f. let k : _ ≡ 2 = e ∙ rw f in absurd (omega arith))

pub number-some : {n : ℕ} (b : Bool) → n ≡ cond b 0 2 → (n ≡ 0 → ⊥) → b ≡ false
number-some b e z = test b (λ t. absurd (z (e ∙ rw t))) (λ f. f)

module _ (w : ℕ) (m : Words) where
  pub refusal-unlisted : slices_listed w m ≡ false → refusal_of w m ≡ 1
  unfolding refusal_of
  refusal-unlisted l = rw l

  pub refusal-unsound : slices_listed w m ≡ true → sound_words w m ≡ false → refusal_of w m ≡ 2
  unfolding refusal_of
  refusal-unsound l s = rw (l, s)

  pub refusal-none : slices_listed w m ≡ true → sound_words w m ≡ true → refusal_of w m ≡ 0
  unfolding refusal_of
  refusal-none l s = rw (l, s)

  pub refusal-number : slices_listed w m ≡ true → (b : Bool) → b ≡ sound_words w m → cond b 0 2 ≡ refusal_of w m
  unfolding refusal_of
  refusal-number l b e = rw (l, e)

  -- where it is not refused, the slices' lengths are listed and the words sound
  pub accepted : refusal_of w m ≡ 0 → (slices_listed w m ≡ true) × (sound_words w m ≡ true)
  accepted e = test (slices_listed w m)
      (λ l. test (sound_words w m) (λ s. (l, s)) (λ s. absurd (omega (arith, refusal-unsound l s))))
      (λ l. absurd (omega (arith, refusal-unlisted l)))

  -- in a table that begins with 1 and 2, they come first
  pub refused-first : (rest : List (ℕ × Bool)) → (refusal_of w m ≡ 0 → ⊥)
      → refusal ((1, is_unlisted (store_of w m)) ∷ (2, is_unsound (store_of w m)) ∷ rest) ≡ some (refusal_of w m)
  refused-first rest n = test (slices_listed w m)
      (λ l. test (sound_words w m)
      (λ s. absurd (n (refusal-none l s)))
      (λ s. rw (store-unsound w m l s, refusal-unsound l s)))
      (λ l. rw (store-unlisted w m l, refusal-unlisted l))

  pub refused-not : (rest : List (ℕ × Bool)) → refusal_of w m ≡ 0
      → refusal ((1, is_unlisted (store_of w m)) ∷ (2, is_unsound (store_of w m)) ∷ rest) ≡ refusal rest
  refused-not rest e = let a = accepted e in rw (store-holds w m a.0 a.1)

-- a refusal has a number
pub numbered : (r : Refusal) → number_of r ≡ 0 → ⊥
numbered Unlisted e = omega arith
numbered Unsound e = omega arith
numbered Malformed e = omega arith
numbered Setting e = omega arith
numbered Set e = omega arith
numbered NotLive e = omega arith
numbered NoRow e = omega arith
numbered NoPostings e = omega arith
numbered NoStops e = omega arith
numbered NoScratch e = omega arith

-- where the rows are sound and no posting fails, what follows decides; where a posting fails, the store is refused
module _ (w : ℕ) (rs : List ℕ) (n v : ℕ) (ps : List ℕ) (p : ℕ) (ss : List ℕ) (k : ℕ) (rows : rows_sound w rs n v ≡ true) where
  abbrev scan : ℕ
  scan = cond (rows_sound w rs n v && (postings_sound w rs n ps p && stopped_sound w ss k ps p)) 0 2

  pub scan-fails : (r : Refusal) → number_of r ≡ cond (keys_ascend ps w p && every p (entry_fine w rs n ps)) 0 2 → number_of r ≡ scan
  unfolding postings_sound
  scan-fails r e = e ∙ rw (rows, number-some (keys_ascend ps w p && every p (entry_fine w rs n ps)) e (numbered r))

  module _ (fine : ◌≡◌ {A = ℕ} 0 (cond (keys_ascend ps w p && every p (entry_fine w rs n ps)) 0 2)) where
    postings-zero : postings_sound w rs n ps p ≡ zero_from ps (w * p)
    unfolding postings_sound
    postings-zero = rw (number-none (keys_ascend ps w p && every p (entry_fine w rs n ps)) fine refl)

    pub scan-ends : zero_from ps (w * p) ≡ false → scan ≡ 2
    scan-ends z = rw (rows, postings-zero, z)

    pub scan-stops : zero_from ps (w * p) ≡ true → stopped_sound w ss k ps p ≡ false → scan ≡ 2
    scan-stops z s = rw (rows, postings-zero, z, s)

    pub scan-passes : zero_from ps (w * p) ≡ true → stopped_sound w ss k ps p ≡ true → scan ≡ 0
    scan-passes z s = rw (rows, postings-zero, z, s)
