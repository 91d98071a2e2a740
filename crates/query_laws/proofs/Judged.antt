-- A recording is judged by the counts of its votes, so the order of their words does not matter; where all are of one recording, it is the one
-- candidate. Assumes nothing.
use mathlib.Core.Path.{◌≡◌, refl, sym, ap, ap₂, ◌∙◌}
use mathlib.Core.Bool.{Bool, true, false, ◌&&◌}
use mathlib.Core.List.{List, [], ◌∷◌, map}
use mathlib.Core.Option.{Option, none}
use Prim.Native.Nat.{ℕ, ◌<◌}
use native.Mathlib.Omega.{arith}
use lib.IntN.{ℤ}
use lib.ListN.{length, get_or, length-map}
use lib.Dec.{eqb}
use borrow.Author.Tests.{eq-eqb, ne_eqb}
use Rattle.lists.specs.Lists.{All}
use Rattle.lists.proofs.Keep.{all-imp, keep_all, keep-none}
use Rattle.matching.specs.declared.MatchResult.{MatchResult}
use Rattle.model.specs.Query.{track_best}
use Rattle.maps.specs.Lists.{count_if}
use Rattle.sorting.specs.Sort.{sort_z}
use Rattle.sorting.proofs.Sorted.{count-sort_z}
use Rattle.model.specs.Rows.{Row}
use Rattle.model.proofs.Best.{best-ext}
use Rattle.query_laws.specs.Candidates.{Reading, row_at, votes_of, judged_by, candidate_in, best_in, Fair}
use Rattle.query_laws.proofs.Lists.{count_kept}
use Rattle.query_laws.proofs.Ranks.{best_none, best-more}

module _ {Vote : Type 0} (R : Reading Vote) where
  pub judged-some : (r : Row) (vs : List Vote) → 0 < length vs → judged_by R r vs ≡ R.judge r vs
  judged-some r [] h = absurd (omega arith)
  judged-some r (v ∷ vs) h = refl

  -- where all words are of recording x, it is the one candidate
  pub one-recording : (rs : List ℕ) (zs : List ℤ) (x : ℕ) → x < get_or rs 0 0 → All (λ z. R.recording_of z ≡ x) zs → 0 < length zs
      → best_in R rs zs ≡ track_best none x (R.judge (row_at rs x) (map R.vote_in zs))
  unfolding candidate_in
  one-recording rs zs x lt one some =
      best-more (λ j. none) (candidate_in R rs zs) (get_or rs 0 0) x lt (λ j h. other j (λ e. omega arith)) (λ j h. refl) (λ j h. other j (λ e. omega arith))
      ∙ ap₂ (λ (b : Option (ℕ × MatchResult)) (r : Option MatchResult). track_best b x r) (best_none (λ j. none) (get_or rs 0 0) (λ j. refl)) own
    where
      other : (j : ℕ) → (j ≡ x → ⊥) → candidate_in R rs zs j ≡ none
      other j ne =
          ap (λ (l : List ℤ). judged_by R (row_at rs j) (map R.vote_in l))
          (keep-none (λ z. eqb (R.recording_of z) j) zs (all-imp (λ z. R.recording_of z ≡ x) (λ z. eqb (R.recording_of z) j ≡ false) (λ z e. ne_eqb (R.recording_of z) j (λ d. ne (sym d ∙ e))) zs one))

      own : candidate_in R rs zs x ≡ R.judge (row_at rs x) (map R.vote_in zs)
      own =
          ap (λ (l : List ℤ). judged_by R (row_at rs x) (map R.vote_in l))
          (keep_all (λ z. eqb (R.recording_of z) x) zs (all-imp (λ z. R.recording_of z ≡ x) (λ z. eqb (R.recording_of z) x ≡ true) (λ z e. eq-eqb (R.recording_of z) x e) zs one))
          ∙ judged-some (row_at rs x) (map R.vote_in zs) (rw (length-map zs R.vote_in) some)

  counts-sorted : (j : ℕ) (zs : List ℤ) (p : Vote → Bool) → count_if p (votes_of R j (sort_z zs)) ≡ count_if p (votes_of R j zs)
  counts-sorted j zs p =
      count_kept R.vote_in (λ z. eqb (R.recording_of z) j) p (sort_z zs)
      ∙ count-sort_z (λ z. eqb (R.recording_of z) j && p (R.vote_in z)) zs
      ∙ sym (count_kept R.vote_in (λ z. eqb (R.recording_of z) j) p zs)

  module _ (fair : Fair R) where
    judged-same : (r : Row) (vs us : List Vote) → ((p : Vote → Bool) → count_if p vs ≡ count_if p us) → judged_by R r vs ≡ judged_by R r us
    unfolding count_if
    judged-same r [] [] e = refl
    judged-same r [] (u ∷ us) e = absurd (omega (arith, e (λ v. true)))
    judged-same r (v ∷ vs) [] e = absurd (omega (arith, e (λ v. true)))
    judged-same r (v ∷ vs) (u ∷ us) e = fair r (v ∷ vs) (u ∷ us) e

    pub best-sorted : (rs : List ℕ) (zs : List ℤ) → best_in R rs (sort_z zs) ≡ best_in R rs zs
    unfolding candidate_in
    best-sorted rs zs = best-ext (candidate_in R rs (sort_z zs)) (candidate_in R rs zs) (get_or rs 0 0)
        (λ j h. judged-same (row_at rs j) (votes_of R j (sort_z zs)) (votes_of R j zs) (counts-sorted j zs))
