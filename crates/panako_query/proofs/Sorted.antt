-- The gathered votes, as they stand and sorted: what is asked of them. Assumes nothing.
use mathlib.Core.Path.{◌≡◌, sym, ap, ◌∙◌, subst}
use mathlib.Core.List.{List}
use Prim.Native.Nat.{ℕ, ◌+◌, ◌*◌, ◌^◌, ◌≤◌, ◌<◌}
use native.Mathlib.Omega.{arith}
use lib.IntN.{ℤ, pos}
use lib.ListN.{length, get_or, take}
use lib.Seq.{get_or-take}
use Rattle.lists.specs.Lists.{All}
use Rattle.lists.proofs.Keep.{all-at, all_both, all-imp}
use Rattle.sorting.specs.Sort.{sort_z}
use Rattle.panako_vote.specs.Grids.{grid_of}
use Rattle.query_laws.proofs.Gathering.{words-all, all-voting}
use Rattle.query_laws.proofs.Sorted as sorting
use Rattle.panako_judge.specs.declared.PanakoQuery.{PanakoQuery}
use Rattle.panako_judge.specs.Candidates.{recording_of}
use Rattle.panako_votes.specs.Gathered.{pair_words}
use Rattle.panako_query.specs.Candidates.{held_in, postings_in, hashes_in, words_in, Limits, Known, Votes, Posted}
use Rattle.panako_query.proofs.Pairs.{SmallHash, SmallPosting, small-hashes, small-postings, own}

module _ (w : ℕ) (rs ps hs : List ℕ) (q : PanakoQuery) (P : Posted rs ps hs q) (post-bits : (i : ℕ) → get_or ps i 0 < 2 ^ 32) (hash-bits : (i : ℕ) → get_or hs i 0 < 2 ^ 32) where
  pub all_known : All (Known rs) (words_in w q rs ps hs)
  all_known = words-all (pair_words (grid_of q.cfg)) (Known rs) (0 + length (hashes_in q hs)) SmallHash (λ e. (get_or e 1 0 < get_or rs 0 0) × SmallPosting e)
      (λ i h e k H E. all-imp (λ z. recording_of z ≡ get_or e 1 0) (Known rs) (λ z m. rw m E.0) (pair_words (grid_of q.cfg) i h e) (own (grid_of q.cfg) P.packable.grid i h e H E.1))
      (postings_in w rs ps) (all-voting (λ e. (get_or e 1 0 < get_or rs 0 0) × SmallPosting e) w rs (held_in rs ps) (all_both (λ e. get_or e 1 0 < get_or rs 0 0) SmallPosting (held_in rs ps) P.packable.rowed.ids (small-postings (get_or rs 2 0) ps post-bits)))
      (hashes_in q hs) (small-hashes q.q_len hs hash-bits) 0 (omega arith)

module _ (rs : List ℕ) (q : PanakoQuery) (zs : List ℤ) (known : All (Known rs) zs) (s : List ℤ) (v : ℕ) (e : v ≡ length zs) where
  pub sorted-votes : Limits rs q → take v s ≡ sort_z zs → v ≤ 1000000 → 6 * v ≤ length s → Votes rs s v q
  sorted-votes limits sorted few room = record { limits = limits; words = sorting.sorted-votes zs s v e sorted (Known rs) 6 known few room }

  -- the first of them, before they are sorted
  pub first-known : take v s ≡ zs → 0 < v → Known rs (get_or s 0 (pos 0))
  first-known same some =
      subst (Known rs) (ap (λ (l : List ℤ). get_or l 0 (pos 0)) (sym same) ∙ get_or-take v s 0 (pos 0) some) (all-at (Known rs) zs (pos 0) known 0 (omega arith))
