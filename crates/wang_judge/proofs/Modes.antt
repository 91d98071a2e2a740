-- The mode over all offsets of a span is the mode over the occupied ones. Assumes nothing.
use mathlib.Core.Path.{◌≡◌, refl, sym, ap, ap₂, ◌∙◌}
use mathlib.Core.Bool.{Bool, false}
use Prim.Native.Nat.{ℕ, ◌<◌}
use lib.IntN.{ℤ}
use lib.Dec.{eqb}
use borrow.Author.Tests.{ne_eqb, eqb-false}
use Rattle.maps.specs.Sums.{sum_to, sum_to_ℤ, greatest, when, when_ℤ}
use Rattle.lists.proofs.Tests.{test}
use Rattle.maps.proofs.Sums.{sum-cong, sum_ℤ-cong, greatest-cong}
use Rattle.bins.proofs.Sparse.{Sparse, Off, sparse-sum, sparse-greatest, sparse-sum_ℤ}
use Rattle.consolidate.specs.Modes.{tied, mode}

-- b names n of the w offsets, and every other has no count; the n offsets named have counts m' and are z'
module _ (b : ℕ → ℕ) (w n : ℕ) (S : Sparse b w n) (m m' : ℕ → ℕ) (z z' : ℕ → ℤ) (off : (x : ℕ) → x < w → Off b n x → m x ≡ 0)
    (on : (j : ℕ) → j < n → m (b j) ≡ m' j) (at : (j : ℕ) → j < n → z (b j) ≡ z' j) where
  most-is : greatest m w ≡ greatest m' n
  most-is = sparse-greatest b w n S m off ∙ greatest-cong (λ j. m (b j)) m' n on

  module _ (some : eqb (greatest m' n) 0 ≡ false) where
    off-tied : (x : ℕ) → x < w → Off b n x → tied m w x ≡ false
    off-tied x h o = ap₂ eqb (off x h o) most-is ∙ ne_eqb 0 (greatest m' n) (λ e. eqb-false (greatest m' n) 0 some (sym e))

    on_tied : (j : ℕ) → j < n → tied m w (b j) ≡ tied m' n j
    on_tied j h = ap₂ eqb (on j h) most-is

    ties-are : sum_to (λ x. when (tied m w x) 1) w ≡ sum_to (λ j. when (tied m' n j) 1) n
    ties-are =
        sparse-sum b w n S (λ x. when (tied m w x) 1) (λ x h o. ap (λ (t : Bool). when t 1) (off-tied x h o))
        ∙ sum-cong (λ j. when (tied m w (b j)) 1) (λ j. when (tied m' n j) 1) n (λ j h. ap (λ (t : Bool). when t 1) (on_tied j h))

    sum_is : sum_to_ℤ (λ x. when_ℤ (tied m w x) (z x)) w ≡ sum_to_ℤ (λ j. when_ℤ (tied m' n j) (z' j)) n
    sum_is =
        sparse-sum_ℤ b w n S (λ x. when_ℤ (tied m w x) (z x)) (λ x h o. ap (λ (t : Bool). when_ℤ t (z x)) (off-tied x h o))
        ∙ sum_ℤ-cong (λ j. when_ℤ (tied m w (b j)) (z (b j))) (λ j. when_ℤ (tied m' n j) (z' j)) n (λ j h. ap₂ when_ℤ (on_tied j h) (at j h))

  pub sparse-mode : mode m z w ≡ mode m' z' n
  unfolding mode
  sparse-mode = test (eqb (greatest m' n) 0) (λ e. rw (most-is, e) refl) (λ e. rw (ties-are e, sum_is e, most-is, e) refl)
