-- One pair of a query hash and a posting. Assumes nothing.
use Rattle.std.proofs.Common.{◌≡◌, ℕ, ◌+◌, ◌<◌, ◌≤◌, ◌^◌, Bool, true, false, cond, Option, Some, None, List, ◌++◌, map, length, get_or, take, set, ℤ, refl, sym, ap, ◌∙◌, append-nil, add-one, arith}
use lib.Seq.{take-suc-set}
use Rattle.lists.proofs.Tests.{test}
use Rattle.maps.specs.Sums.{when}
use Rattle.query_search.specs.Voting.{may_vote, if_voting}
use Rattle.panako_vote.specs.Votes.{vote_on, is_vote, InRange, Bounded}
use Rattle.panako_vote.specs.declared.ScaleGrid.{ScaleGrid}
use Rattle.panako_vote.specs.declared.Vote.{Vote}
use Rattle.panako_vote.specs.Words.{as_list, word_of}
use Rattle.panako_votes.specs.Gathered.{words_with}

counted : (id : ℕ) (v : Option Vote) → length (map (word_of id) (as_list v)) ≡ cond (is_vote v) 1 0
counted id None = refl
counted id (Some v) = refl

module _ (g : ScaleGrid) (qa qc : ℕ) (e : List ℕ) where
  abbrev vote : Option Vote
  vote = vote_on g qa qc (get_or e 2 0) (get_or e 4 0)

  -- how many there are: one with a vote, if it votes
  pub count-one : (vs : ℕ) (rs : List ℕ) → is_vote vote ≡ true → length (if_voting vs rs (words_with g qa qc) e) ≡ when (may_vote vs rs (get_or e 1 0)) 1
  unfolding if_voting
  count-one vs rs v = test (may_vote vs rs (get_or e 1 0)) (λ y. rw y (counted (get_or e 1 0) vote ∙ ap (λ (b : Bool). cond b 1 0) v)) (λ n. rw n refl)

  pub count_none : (vs : ℕ) (rs : List ℕ) → is_vote vote ≡ false → length (if_voting vs rs (words_with g qa qc) e) ≡ 0
  unfolding if_voting
  count_none vs rs v = test (may_vote vs rs (get_or e 1 0)) (λ y. rw y (counted (get_or e 1 0) vote ∙ ap (λ (b : Bool). cond b 1 0) v)) (λ n. rw n refl)

  -- written, where there is none
  pub put-none : (s : List ℤ) (at : ℕ) → vote ≡ None → (at ≡ at + length (words_with g qa qc e)) × (take at s ≡ take at s ++ words_with g qa qc e)
  put-none s at k = rw k (omega arith, sym (append-nil (take at s)))

  -- and where there is one
  module _ (v : Vote) (k : vote ≡ Some v) where
    pub one-room : (at n : ℕ) → at + length (words_with g qa qc e) ≤ n → at < n
    one-room at n h = let l = rw k at h in omega arith

    pub put_one : (s s' : List ℤ) (at : ℕ) → at < length s → s' ≡ set s at (word_of (get_or e 1 0) v)
        → (at + 1 ≡ at + length (words_with g qa qc e)) × (take (at + 1) s' ≡ take at s ++ words_with g qa qc e)
    put_one s s' at h l = rw (k, l, add-one at) (refl, take-suc-set s at (word_of (get_or e 1 0) v) h)

    -- its parts have their bits
    pub bits_of : (last : ℕ) → last < 4096 → Bounded last vote → (v.bin < 2 ^ 12) × InRange v.offset
    bits_of last h b = let c = rw k at b in (omega arith, c.1)
