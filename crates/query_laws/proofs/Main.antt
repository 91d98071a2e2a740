-- A recording with too few votes is no candidate: without the words of such the best is the same. Assumes nothing.
use mathlib.Core.Path.{◌≡◌, sym, ap, ◌∙◌}
use mathlib.Core.Bool.{Bool, true, false}
use mathlib.Core.List.{List, [], ◌∷◌, map}
use mathlib.Core.Option.{none}
use Prim.Native.Nat.{ℕ, ◌+◌, ◌≤◌}
use native.Mathlib.Omega.{arith}
use lib.IntN.{ℤ}
use lib.ListN.{length, get_or, length-map}
use lib.Dec.{eqb}
use borrow.Author.Tests.{eqb-true, eqb-false, ne_eqb}
use Rattle.lists.specs.Lists.{keep}
use Rattle.lists.proofs.Keep.{all-imp, all-kept, keep_all, keep-none}
use Rattle.lists.proofs.Tests.{test}
use Rattle.maps.specs.Lists.{count_if}
use Rattle.model.proofs.Best.{best-ext}
use Rattle.query_laws.specs.Candidates.{Reading, row_at, of_recording, votes_of, judged_by, candidate_in, best_in}

module _ {Vote : Type 0} (R : Reading Vote) (x : ℕ) where
  abbrev own : ℤ → Bool
  own z = eqb (R.recording_of z) x

  -- the words of another recording, and those of x
  apart : (j : ℕ) → (j ≡ x → ⊥) → (zs : List ℤ) → length (of_recording R j zs) + count_if own zs ≤ length zs
  unfolding keep count_if
  apart j ne [] = omega arith
  apart j ne (z ∷ zs) =
      let ih = apart j ne zs in
      test (eqb (R.recording_of z) j)
      (λ a. test (own z) (λ b. absurd (ne (sym (eqb-true (R.recording_of z) j a) ∙ eqb-true (R.recording_of z) x b))) (λ b. rw (a, b) (omega arith)))
      (λ a. test (own z) (λ b. rw (a, b) (omega arith)) (λ b. rw (a, b) (omega arith)))

  -- where no other recording has votes enough, its words may go
  pub best-main : (rs : List ℕ) (zs : List ℤ) → ((j : ℕ) (vs : List Vote) → length vs + count_if own zs ≤ length zs → judged_by R (row_at rs j) vs ≡ none)
      → best_in R rs (keep own zs) ≡ best_in R rs zs
  unfolding candidate_in
  best-main rs zs few = best-ext (candidate_in R rs (keep own zs)) (candidate_in R rs zs) (get_or rs 0 0) (λ j h. test (eqb j x) (λ e. here j (eqb-true j x e)) (λ e. other j (eqb-false j x e)))
    where
      here : (j : ℕ) → j ≡ x → candidate_in R rs (keep own zs) j ≡ candidate_in R rs zs j
      here j e = rw e (ap (λ (l : List ℤ). judged_by R (row_at rs x) (map R.vote_in l)) (keep_all own (keep own zs) (all-kept own zs)))

      gone : (j : ℕ) → (j ≡ x → ⊥) → of_recording R j (keep own zs) ≡ []
      gone j ne =
          keep-none (λ z. eqb (R.recording_of z) j) (keep own zs)
          (all-imp (λ z. own z ≡ true) (λ z. eqb (R.recording_of z) j ≡ false) (λ z e. ne_eqb (R.recording_of z) j (λ d. ne (sym d ∙ eqb-true (R.recording_of z) x e))) (keep own zs) (all-kept own zs))

      other : (j : ℕ) → (j ≡ x → ⊥) → candidate_in R rs (keep own zs) j ≡ candidate_in R rs zs j
      other j ne =
          ap (λ (l : List ℤ). judged_by R (row_at rs j) (map R.vote_in l)) (gone j ne)
          ∙ sym (few j (votes_of R j zs) (omega (arith, apart j ne zs, length-map (of_recording R j zs) R.vote_in)))
