-- The refusals of a replacement that are not about room, on a store's words. Assumes nothing.
use mathlib.Core.Path.{◌≡◌, ap, ◌∙◌}
use mathlib.Core.Bool.{true, false}
use mathlib.Core.List.{List}
use mathlib.Core.Option.{Option, none}
use Prim.Native.Nat.{ℕ, ◌≤◌}
use lib.ListN.{get_or, drop}
use Rattle.model.specs.Fingerprints.{malformed, reference_most}
use Rattle.model.specs.Index.{is_live}
use Rattle.model.specs.Calls.{refused, outcome, replace_tests, replace_step}
use Rattle.model.specs.Words.{Words, sizes_of, slices_listed, read_index}
use Rattle.model.specs.Soundness.{sound_words}
use Rattle.model.specs.Run.{store_of, on_words, run_replace}
use Rattle.model.proofs.Stores.{sound-again, store-holds, store-again}
use Rattle.soundness.specs.Scan.{refusal_of}
use Rattle.soundness.proofs.Refusal.{refused-first}

module _ (w : ℕ) (m : Words) (id limit rate : ℕ) (hashes : List ℕ) (w2 : 2 ≤ w) where
  -- 1 and 2
  pub refused-early : (refusal_of w m ≡ 0 → ⊥) → run_replace w m id limit rate hashes ≡ (refused (refusal_of w m), m)
  unfolding run_replace replace_step replace_tests
  refused-early n =
      let s = store_of w m in
      let p = replace_step w (sizes_of w m) s id limit rate hashes in
      ap (λ (o : Option ℕ). on_words w m (outcome o s p.answer p.left)) (refused-first w m (drop 2 p.tests) n)
      ∙ ap (λ (y : Words). (refused (refusal_of w m), y)) (store-again w m w2)

  module _ (l : slices_listed w m ≡ true) (s : sound_words w m ≡ true) where
    pub refused-3 : malformed w reference_most hashes ≡ true → run_replace w m id limit rate hashes ≡ (refused 3, m)
    unfolding run_replace replace_step replace_tests
    refused-3 a = rw (store-holds w m l s, a) (ap (λ (y : Words). (refused 3, y)) (sound-again w m w2 l s))

    pub refused-10 : malformed w reference_most hashes ≡ false → is_live (get_or (read_index w m).rows id none) ≡ false → run_replace w m id limit rate hashes ≡ (refused 10, m)
    unfolding run_replace replace_step replace_tests
    refused-10 a d = rw (store-holds w m l s, a, d) (ap (λ (y : Words). (refused 10, y)) (sound-again w m w2 l s))
