-- The gathered words, sorted. Assumes nothing.
use mathlib.Core.Path.{◌≡◌, sym, ap, ◌∙◌, subst}
use mathlib.Core.List.{List}
use Prim.Native.Nat.{ℕ, ◌*◌, ◌≤◌, ◌<◌}
use native.Mathlib.Omega.{arith}
use lib.IntN.{ℤ, pos}
use lib.ListN.{length, get_or, take}
use lib.Seq.{get_or-take}
use lib.Signed.{le_z}
use Rattle.lists.specs.Lists.{All}
use Rattle.lists.proofs.Keep.{all-at}
use Rattle.sorting.specs.Sort.{sort_z}
use Rattle.sorting.proofs.Order.{all-sort}
use Rattle.sorting.proofs.Sorted.{ascending, length-sort_z}
use Rattle.query_laws.specs.Candidates.{Reading, best_in, Fair, Votes}
use Rattle.query_laws.proofs.Judged.{best-sorted}

module _ (zs s : List ℤ) (v : ℕ) (e : v ≡ length zs) (sorted : take v s ≡ sort_z zs) where
  word-is : (t : ℕ) → t < v → get_or s t (pos 0) ≡ get_or (sort_z zs) t (pos 0)
  word-is t h = sym (get_or-take v s t (pos 0) h) ∙ ap (λ (l : List ℤ). get_or l t (pos 0)) sorted

  -- what the walk over the candidates asks of them
  pub sorted-votes : (P : ℤ → Type 0) (w : ℕ) → All P zs → v ≤ 1000000 → w * v ≤ length s → Votes P w s v
  sorted-votes P w h few room = record {
    ascend = λ i j k l. rw (word-is i (omega arith), word-is j l) (ascending zs i j k (omega arith));
    each = λ t k. subst P (sym (word-is t k)) (all-at P (sort_z zs) (pos 0) (all-sort le_z P zs h) t (omega (arith, length-sort_z zs)));
    few = few;
    room = room;
  }

  pub sorted-best : {Vote : Type 0} (R : Reading Vote) → Fair R → (rs : List ℕ) → best_in R rs (take v s) ≡ best_in R rs zs
  sorted-best R fair rs = ap (best_in R rs) sorted ∙ best-sorted R fair rs zs
