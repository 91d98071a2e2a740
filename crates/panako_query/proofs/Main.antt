-- The words that decide the best. Assumes nothing.
use mathlib.Core.Path.{◌≡◌, refl}
use mathlib.Core.Bool.{◌&&◌}
use mathlib.Core.List.{List, [], ◌∷◌}
use mathlib.Core.Option.{none}
use Prim.Native.Nat.{ℕ, ◌<◌}
use native.Mathlib.Omega.{arith}
use lib.IntN.{ℤ}
use lib.ListN.{length}
use lib.Dec.{ltb}
use borrow.Author.Tests.{ltb-true}
use Rattle.lists.proofs.Tests.{test, and_right}
use Rattle.main_votes.specs.Main.{main_lead, others, main_of}
use Rattle.query_laws.specs.Candidates.{row_at, judged_by}
use Rattle.query_laws.proofs.Main.{best-main}
use Rattle.panako_judge.specs.declared.PanakoQuery.{PanakoQuery}
use Rattle.panako_vote.specs.declared.Vote.{Vote}
use Rattle.panako_vote.specs.Words.{lowest}
use Rattle.panako_judge.proofs.Gates.{judged-few}
use Rattle.panako_query.specs.Candidates.{reading, best_in, main_in}

module _ (q : PanakoQuery) (rs : List ℕ) (zs : List ℤ) where
  abbrev least : ℕ
  least = q.cfg.min_votes

  few : (j : ℕ) (vs : List Vote) → length vs < least → judged_by (reading q) (row_at rs j) vs ≡ none
  few j [] h = refl
  few j (v ∷ vs) h = judged-few q (row_at rs j).rate (v ∷ vs) h

  pub main-best : best_in q rs (main_in q zs) ≡ best_in q rs zs
  unfolding main_of
  main-best =
      let o = others lowest 52 zs in
      test (ltb 0 o && ltb o least)
      (λ e.
      let small : o < least = ltb-true o least (and_right (ltb 0 o) (ltb o least) e) in
      rw e (best-main (reading q) (main_lead lowest 52 zs) rs zs (λ j vs h. few j vs (omega arith))))
      (λ e. rw e refl)
