-- A query hash's turn in `meet`: the walk over the postings under its key. Assumes nothing.
use Rattle.std.proofs.Common.{◌≡◌, ℕ, ◌+◌, ◌-◌, ◌*◌, ◌^◌, ◌<◌, ◌≤◌, true, false, ltb, eqb, ◌&&◌, List, length, get_or, sym, ap, ◌∙◌, subst, arith, ltb-false, ltb-true}
use Rattle.lists.specs.Entries.{entries, key_at}
use Rattle.lists.proofs.Entries.{stride}
use Rattle.maps.specs.Sums.{when}
use Rattle.maps.specs.Entries.{first_at}
use Rattle.maps.proofs.Entries.{first-splits}
use Rattle.query_search.specs.Starts.{Sought, met}
use Rattle.query_search.specs.Voting.{may_vote, voting, HasRow, Rowed}
use Rattle.query_search.proofs.Steps.{few_words}
use Rattle.query_search.proofs.Meeting.{met-more, met-longer, first_reach, under-word, entry-below, entry-behind}
use Rattle.query_search.proofs.Voting.{rowed-word}
use Rattle.query_search.proofs.Counting.{votes_of, votes-all, Reached, reached-first, reached-more, reached-upto, reached-all}

module _ (vs : ℕ) (rs ps : List ℕ) (w p : ℕ) (hs : List ℕ) (h m : ℕ) (S : Sought ps w p hs h m) (R : Rowed rs ps w p) (i : ℕ) (lt : i < m) where
  abbrev key : ℕ
  key = key_at hs h i

  -- where the postings under the key begin and end
  abbrev first : ℕ
  first = first_at ps w p key

  abbrev above : ℕ
  above = first_at ps w p (key + 1)

  inside : above ≤ p
  inside = (first-splits ps w p (key + 1) S.ascend).within

  -- those that vote, of the first j hashes and of this one
  abbrev upto : ℕ → ℕ
  upto j = met (voting vs rs (entries w p ps)) (entries h j hs)

  abbrev ours : ℕ
  ours = votes_of vs rs ps w p key (above - first)

  more : upto (i + 1) ≡ upto i + ours
  more = met-more _ h hs S.hash i ∙ ap (λ (n : ℕ). upto i + n) (votes-all vs rs ps w p key S.posting S.ascend S.postings)

  all : upto (i + 1) ≤ upto m
  all = met-longer _ h hs S.hash (i + 1) m (omega arith)

  -- the walk begins at word a, with the first posting or without one
  module _ (a n : ℕ) (ea : a ≡ w * first) (en : n ≡ when (ltb first above) 1) where
    begun : (first + n ≤ above) × (n ≤ 1)
    begun = first_reach ps w p key S.ascend n en

    pub first-asks : (a < w * p → (a + 1 < length ps) × HasRow rs (get_or ps (a + 1) 0)) × (w * p ≤ a → n ≡ 0) × (n ≤ 1)
    first-asks = (
      λ l. rowed-word rs ps w p R S.postings a first ea (entry-below w first p (omega arith)),
      λ l. omega (arith, begun, inside, entry-behind w first p S.posting (omega arith)),
      begun.1,
    )

    pub walk-begun : (v c : ℕ) → v ≡ upto i → c ≡ when (may_vote vs rs (get_or ps (a + 1) 0)) n → Reached vs rs ps w p key (upto i) (v + c) (a + w * n)
    walk-begun v c ev ec = subst (λ (k : ℕ). Reached vs rs ps w p key (upto i) (k + c) (a + w * n)) (sym ev) (reached-first vs rs ps w p key R.wide (upto i) a n c ea begun ec)

  -- it is at word e
  module _ (v e : ℕ) (K : Reached vs rs ps w p key (upto i) v e) where
    pub reached-most : v ≤ upto m
    reached-most = omega (arith, reached-upto vs rs ps w p key (upto i) v e K, more, all)

    pub reached-few : e < 2 ^ 32
    reached-few = omega (arith, K.stands, few_words ps w p hs h m S (first + K.walked) (omega (arith, K.within, inside)))

    asked : (ltb e (w * p) && eqb (get_or ps e 0) key) ≡ ltb (first + K.walked) above
    asked = under-word ps w p key S.ascend S.posting (first + K.walked) e K.stands (omega arith)

    -- where it goes on
    module _ (b : (ltb e (w * p) && eqb (get_or ps e 0) key) ≡ true) where
      on : first + K.walked < above
      on = ltb-true (first + K.walked) above (sym asked ∙ b)

      pub under-row : (e + 1 < length ps) × HasRow rs (get_or ps (e + 1) 0)
      under-row = rowed-word rs ps w p R S.postings e (first + K.walked) K.stands (omega (arith, on, inside))

      pub under-within : e + w ≤ w * p
      under-within = omega (arith, K.stands, stride w (first + K.walked) p (w * p) (omega (arith, on, inside)) (omega arith))

      pub walk-more : (c : ℕ) → c ≡ when (may_vote vs rs (get_or ps (e + 1) 0)) 1 → Reached vs rs ps w p key (upto i) (v + c) (e + w)
      walk-more c ec = reached-more vs rs ps w p key R.wide (upto i) v e K c ec on

    -- where it ends
    module _ (b : (ltb e (w * p) && eqb (get_or ps e 0) key) ≡ false) where
      end : first + K.walked ≡ above
      end = omega (arith, K.within, ltb-false (first + K.walked) above (sym asked ∙ b))

      pub walk-counts : v ≡ upto (i + 1)
      walk-counts = reached-all vs rs ps w p key (upto i) v e K end ∙ sym more

      pub walk-ends : e ≡ w * above
      walk-ends = K.stands ∙ ap (λ (k : ℕ). w * k) end
