-- Votes with the same counts are judged the same, so their order never matters. Assumes nothing.
use mathlib.Core.Path.{◌≡◌, refl, sym, ◌∙◌}
use mathlib.Core.Bool.{Bool, true}
use mathlib.Core.List.{List}
use Prim.Native.Nat.{ℕ}
use lib.ListN.{length}
use Rattle.maps.specs.Lists.{count_if}
use Rattle.bins.proofs.Occupied.{length-counts}
use Rattle.panako_vote.specs.declared.Vote.{Vote}
use Rattle.panako_judge.specs.Judge.{judge_by}
use Rattle.panako_judge.specs.declared.PanakoQuery.{PanakoQuery}
use Rattle.panako_judge.proofs.Occupied.{occupied-same, bins-same}

module _ (vs us : List Vote) (same : (p : Vote → Bool) → count_if p vs ≡ count_if p us) where
  lengths : length vs ≡ length us
  lengths = sym (length-counts vs) ∙ same (λ v. true) ∙ length-counts us

  pub judged-same : (q : PanakoQuery) (rate : ℕ) → judge_by q rate vs ≡ judge_by q rate us
  unfolding judge_by
  judged-same q rate = rw (bins-same vs us same, occupied-same vs us same, lengths) refl
