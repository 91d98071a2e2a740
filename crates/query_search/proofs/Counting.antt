-- The walk over the postings under a key, of which those that vote are counted. Assumes nothing.
use Rattle.std.proofs.Common.{◌≡◌, ℕ, ◌+◌, ◌-◌, ◌*◌, ◌<◌, ◌≤◌, true, ◌⊎◌, List, length, get_or, drop, sym, ap, ◌∙◌, inl, inr, eq-or-lt_of_le, mul-add, arith, get_or-drop}
use Rattle.lists.specs.Keys.{under}
use Rattle.lists.specs.Entries.{entries, key_of, keys_ascend}
use Rattle.lists.proofs.Entries.{stride-more}
use Rattle.maps.specs.Sums.{when}
use Rattle.maps.specs.Entries.{first_at}
use Rattle.maps.proofs.Sums.{keep-le}
use Rattle.query_search.specs.Voting.{may_vote, voting}
use Rattle.query_search.proofs.Meeting.{under-entries}
use Rattle.query_search.proofs.Voting.{under-voting, many-none, many_more, many-longer}

module _ (vs : ℕ) (rs ps : List ℕ) (w p key : ℕ) where
  -- how many of the first d postings at the key or behind it vote
  unfoldable pub votes_of : ℕ → ℕ
  votes_of d = length (voting vs rs (entries w d (drop (w * first_at ps w p key) ps)))

  votes-none : votes_of 0 ≡ 0
  unfolding votes_of
  votes-none = many-none vs rs w (drop (w * first_at ps w p key) ps)

  votes-longer : (d n : ℕ) → d ≤ n → votes_of d ≤ votes_of n
  unfolding votes_of
  votes-longer d n h = many-longer vs rs w (drop (w * first_at ps w p key) ps) d n h

  -- one more, which stands at word e
  votes-more : 1 < w → (d e : ℕ) → e ≡ w * (first_at ps w p key + d) → votes_of (d + 1) ≡ votes_of d + when (may_vote vs rs (get_or ps (e + 1) 0)) 1
  unfolding votes_of
  votes-more w1 d e q =
      let first = first_at ps w p key in
      let k : w * first + (w * d + 1) ≡ e + 1 = omega (arith, mul-add w first d) in
      many_more vs rs w (drop (w * first) ps) w1 d
      ∙ ap (λ (i : ℕ). votes_of d + when (may_vote vs rs i) 1) (get_or-drop (w * first) ps (w * d + 1) 0 ∙ ap (λ (i : ℕ). get_or ps i 0) k)

  -- all of them
  pub votes-all : 1 ≤ w → keys_ascend ps w p ≡ true → w * p ≤ length ps → length (under key_of key (voting vs rs (entries w p ps))) ≡ votes_of (first_at ps w p (key + 1) - first_at ps w p key)
  unfolding votes_of
  votes-all w1 t fits = ap length (under-voting vs rs key (entries w p ps)) ∙ ap (λ (l : List (List ℕ)). length (voting vs rs l)) (under-entries ps w p key t w1 fits)

  -- word e is reached with v votes, of which the hashes before have n
  pub record Reached (n v e : ℕ) : Type 0 where
    pub walked : ℕ
    pub stands : e ≡ w * (first_at ps w p key + walked)
    pub within : first_at ps w p key + walked ≤ first_at ps w p (key + 1)
    pub counted : v ≡ n + votes_of walked

  -- of one posting at most
  pub few-votes : 1 < w → (a d : ℕ) → a ≡ w * first_at ps w p key → d ≤ 1 → votes_of d ≡ when (may_vote vs rs (get_or ps (a + 1) 0)) d
  few-votes w1 a d ea le = go (eq-or-lt_of_le le)
    where
      go : (d ≡ 1) ⊎ (d < 1) → votes_of d ≡ when (may_vote vs rs (get_or ps (a + 1) 0)) d
      go (inl q) =
          let k : first_at ps w p key + 0 ≡ first_at ps w p key = omega arith in
          rw q (omega (arith, votes-more w1 0 a (ea ∙ ap (λ (x : ℕ). w * x) (sym k)), votes-none))
      go (inr l) =
          let z : d ≡ 0 = omega arith in
          rw z (omega (arith, votes-none, keep-le (may_vote vs rs (get_or ps (a + 1) 0)) 0))

  -- with the first posting, or without one
  pub reached-first : 1 < w → (n a d c : ℕ) → a ≡ w * first_at ps w p key → (first_at ps w p key + d ≤ first_at ps w p (key + 1)) × (d ≤ 1) → c ≡ when (may_vote vs rs (get_or ps (a + 1) 0)) d
      → Reached n (n + c) (a + w * d)
  reached-first w1 n a d c ea h ec = record {
    walked = d;
    stands = ap (λ (k : ℕ). k + w * d) ea ∙ sym (mul-add w (first_at ps w p key) d);
    within = h.0;
    counted = ap (λ (k : ℕ). n + k) (ec ∙ sym (few-votes w1 a d ea h.1));
  }

  module _ (w1 : 1 < w) (n v e : ℕ) (R : Reached n v e) (c : ℕ) (ec : c ≡ when (may_vote vs rs (get_or ps (e + 1) 0)) 1) (h : first_at ps w p key + R.walked < first_at ps w p (key + 1)) where
    next : votes_of (R.walked + 1) ≡ votes_of R.walked + c
    next = votes-more w1 R.walked e R.stands ∙ ap (λ (k : ℕ). votes_of R.walked + k) (sym ec)

    -- one more
    pub reached-more : Reached n (v + c) (e + w)
    reached-more =
        let k : first_at ps w p key + (R.walked + 1) ≡ (first_at ps w p key + R.walked) + 1 = omega arith in
        record {
          walked = R.walked + 1;
          stands = ap (λ (x : ℕ). x + w) R.stands ∙ sym (stride-more w (first_at ps w p key + R.walked)) ∙ ap (λ (x : ℕ). w * x) (sym k);
          within = omega arith;
          counted = omega (arith, R.counted, next);
        }

  module _ (n v e : ℕ) (R : Reached n v e) where
    -- no more than there are
    pub reached-upto : v ≤ n + votes_of (first_at ps w p (key + 1) - first_at ps w p key)
    reached-upto = omega (arith, R.counted, votes-longer R.walked (first_at ps w p (key + 1) - first_at ps w p key) (omega (arith, R.within)))

    pub reached-all : first_at ps w p key + R.walked ≡ first_at ps w p (key + 1) → v ≡ n + votes_of (first_at ps w p (key + 1) - first_at ps w p key)
    reached-all q =
        let k : R.walked ≡ first_at ps w p (key + 1) - first_at ps w p key = omega arith in
        R.counted ∙ ap (λ (d : ℕ). n + votes_of d) k
