-- The table of an insertion's refusals, on a store's words. Assumes nothing.
use mathlib.Core.Path.{◌≡◌, ap, ◌∙◌}
use mathlib.Core.Bool.{Bool, true, false, cond, not, ◌&&◌}
use mathlib.Core.List.{List}
use mathlib.Core.Option.{Option, none, some}
use Prim.Native.Nat.{ℕ, ◌+◌, ◌≤◌}
use lib.ListN.{length, drop}
use lib.Dec.{eqb, ltb}
use Rattle.model.specs.Fingerprints.{fingerprint_of, hashes_of, malformed, reference_most}
use Rattle.model.specs.Rows.{is_set}
use Rattle.model.specs.Index.{Index, posted, unskipped, is_stopped, stopped_after, new_id, inserted}
use Rattle.model.specs.Calls.{holds, content, Answer, stored, refused, insert_tests, outcome, insert_step}
use Rattle.model.specs.Words.{Words, sizes_of, slices_listed, write, read_index}
use Rattle.model.specs.Soundness.{sound_words}
use Rattle.model.specs.Run.{store_of, on_words, run_insert}
use Rattle.model.proofs.Stores.{sound-again, store-holds, store-again}
use Rattle.soundness.specs.Scan.{refusal_of}
use Rattle.soundness.proofs.Refusal.{refused-first}

-- refusals 1 and 2
pub refused-early : (w : ℕ) (m : Words) (limit rate set : ℕ) (hashes : List ℕ) → 2 ≤ w → (refusal_of w m ≡ 0 → ⊥) → run_insert w m limit rate set hashes ≡ (refused (refusal_of w m), m)
unfolding run_insert insert_step insert_tests
refused-early w m limit rate set hashes w2 n =
    let s = store_of w m in
    let f = fingerprint_of w rate set hashes in
    let tests = insert_tests (sizes_of w m) s (malformed w reference_most hashes) limit f in
    ap (λ (o : Option ℕ). on_words w m (outcome o s (stored (new_id (content s))) (holds (inserted w limit f (content s))))) (refused-first w m (drop 2 tests) n)
    ∙ ap (λ (y : Words). (refused (refusal_of w m), y)) (store-again w m w2)

module _ (w : ℕ) (m : Words) (limit rate set : ℕ) (hashes : List ℕ) (w2 : 2 ≤ w) (l : slices_listed w m ≡ true) (s : sound_words w m ≡ true) where
  abbrev x : Index
  x = read_index w m

  abbrev full : Bool
  full = eqb (length (read_index w m).vacant) 0 && eqb (length (read_index w m).rows) (sizes_of w m).R

  abbrev six : Bool
  six = ltb (sizes_of w m).P (length (read_index w m).postings + length (unskipped (is_stopped (read_index w m)) (posted (new_id (read_index w m)) (hashes_of w hashes))))

  abbrev seven : Bool
  seven = ltb (sizes_of w m).K (length (stopped_after limit (read_index w m) (posted (new_id (read_index w m)) (hashes_of w hashes))))

  -- what a table of the other refusals leaves
  left : Option ℕ → Answer × Words
  left o = on_words w m (outcome o (holds (read_index w m)) (stored (new_id (read_index w m))) (holds (inserted w limit (fingerprint_of w rate set hashes) (read_index w m))))

  table : run_insert w m limit rate set hashes ≡ left (cond (malformed w reference_most hashes) (some 3) (cond (not (is_set set)) (some 9) (cond full (some 5) (cond six (some 6) (cond seven (some 7) none)))))
  unfolding run_insert insert_step insert_tests left
  table = rw (store-holds w m l s)

  refused-leaves : (n : ℕ) → left (some n) ≡ (refused n, m)
  unfolding left
  refused-leaves n = ap (λ (y : Words). (refused n, y)) (sound-again w m w2 l s)

  pub refused-3 : malformed w reference_most hashes ≡ true → run_insert w m limit rate set hashes ≡ (refused 3, m)
  refused-3 a = table ∙ rw a (refused-leaves 3)

  pub refused-9 : malformed w reference_most hashes ≡ false → is_set set ≡ false → run_insert w m limit rate set hashes ≡ (refused 9, m)
  refused-9 a o = table ∙ rw (a, o) (refused-leaves 9)

  pub refused-5 : malformed w reference_most hashes ≡ false → is_set set ≡ true → full ≡ true → run_insert w m limit rate set hashes ≡ (refused 5, m)
  refused-5 a o b = table ∙ rw (a, o, b) (refused-leaves 5)

  pub refused-6 : malformed w reference_most hashes ≡ false → is_set set ≡ true → full ≡ false → six ≡ true → run_insert w m limit rate set hashes ≡ (refused 6, m)
  refused-6 a o b c = table ∙ rw (a, o, b, c) (refused-leaves 6)

  pub refused-7 : malformed w reference_most hashes ≡ false → is_set set ≡ true → full ≡ false → six ≡ false → seven ≡ true → run_insert w m limit rate set hashes ≡ (refused 7, m)
  refused-7 a o b c d = table ∙ rw (a, o, b, c, d) (refused-leaves 7)

  pub accepted-is : malformed w reference_most hashes ≡ false → is_set set ≡ true → full ≡ false → six ≡ false → seven ≡ false
      → run_insert w m limit rate set hashes ≡ (stored (new_id (read_index w m)), write w (sizes_of w m) (inserted w limit (fingerprint_of w rate set hashes) (read_index w m)))
  unfolding left
  accepted-is a o b c d = table ∙ rw (a, o, b, c, d)
