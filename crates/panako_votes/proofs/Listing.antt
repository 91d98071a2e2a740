-- The query hashes that meet a posting: how they are listed, and that the others have no votes. Assumes nothing.
use mathlib.Core.Path.{◌≡◌, refl, sym, ap, ◌∙◌}
use mathlib.Core.Bool.{Bool}
use mathlib.Core.Logic.{◌⊎◌, inl, inr}
use mathlib.Core.List.{List, [], ◌++◌, append-nil}
use Prim.Native.Nat.{ℕ, zero, suc, ◌+◌, ◌*◌, ◌-◌, ◌≤◌, ◌<◌}
use native.Mathlib.Nat.{eq-or-lt_of_le}
use native.Mathlib.Omega.{arith}
use lib.IntN.{ℤ}
use lib.ListN.{length, get_or, set, take}
use lib.Seq.{get_or-set_same, get_or-set_other, get_or-take, length-take-le}
use lib.Dec.{ltb}
use borrow.Author.Tests.{ltb-true, ltb-false, lt-ltb}
use Rattle.lists.specs.Lists.{flat}
use Rattle.lists.specs.Keys.{under}
use Rattle.lists.specs.Entries.{entries, key_of, key_at}
use Rattle.lists.proofs.Tests.{test}
use Rattle.maps.specs.Sums.{when}
use Rattle.maps.proofs.Sums.{sum-next, sum_mono, sum-under, sum-zero, keep-le}
use Rattle.query_search.specs.Starts.{Starts, Ends, Sought}
use Rattle.query_search.proofs.Meeting.{under-many}
use Rattle.query_search.proofs.Walks.{none_of}
use Rattle.panako_vote.specs.declared.ScaleGrid.{ScaleGrid}
use Rattle.query_search.specs.Gathered.{words_by}
use Rattle.query_search.specs.Voting.{voting}
use Rattle.query_search.proofs.Voting.{under-voting, voting-none}
use Rattle.panako_votes.specs.Listed.{met_to, Listed}
use Rattle.panako_votes.proofs.Walks.{before, at, before-none, before_more, put-hash, longer, before-longer}

-- ---- how many meet

module _ (starts ends : List ℕ) where
  abbrev meeting : ℕ → ℕ
  meeting t = when (ltb (get_or starts t 0) (get_or ends t 0)) 1

  met_next : (i : ℕ) → met_to starts ends (i + 1) ≡ met_to starts ends i + meeting i
  unfolding met_to
  met_next i = sum-next meeting i

  met-zero : met_to starts ends 0 ≡ 0
  unfolding met_to
  met-zero = sum-zero meeting

  met-mono : (i e : ℕ) → i ≤ e → met_to starts ends i ≤ met_to starts ends e
  unfolding met_to
  met-mono i e h = sum_mono meeting i e h

  met-few : (i : ℕ) → met_to starts ends i ≤ i
  unfolding met_to
  met-few i = omega (arith, sum-under meeting i 1 (λ t h. keep-le (ltb (get_or starts t 0) (get_or ends t 0)) 1))

  met_at : (i : ℕ) → get_or starts i 0 < get_or ends i 0 → met_to starts ends (i + 1) ≡ met_to starts ends i + 1
  met_at i h = met_next i ∙ ap (λ (b : Bool). met_to starts ends i + when b 1) (lt-ltb (get_or starts i 0) (get_or ends i 0) h)

  not-met : (i : ℕ) → met_to starts ends (i + 1) ≡ met_to starts ends i → get_or ends i 0 ≤ get_or starts i 0
  not-met i e = test (ltb (get_or starts i 0) (get_or ends i 0)) (λ t. absurd (omega (arith, met_at i (ltb-true (get_or starts i 0) (get_or ends i 0) t)))) (ltb-false (get_or starts i 0) (get_or ends i 0))

  -- ---- the listing

  pub listed-none : (which : List ℕ) → Listed starts ends which 0 0
  listed-none which = record { number = sym met-zero; place = λ j h. absurd (omega arith); rank = λ j h. absurd (omega arith); meets = λ j h. absurd (omega arith) }

  module _ (which : List ℕ) (i k : ℕ) (L : Listed starts ends which i k) where
    pub listed-few : k ≤ i
    listed-few = omega (arith, L.number, met-few i)

    module _ (r : ℕ) (lt : i < length which) (er : r ≡ when (ltb (get_or starts i 0) (get_or ends i 0)) 1) where
      at_most : r ≤ 1
      at_most = omega (arith, er, keep-le (ltb (get_or starts i 0) (get_or ends i 0)) 1)

      -- what holds of the words that were listed, and of hash i where it meets a posting, holds of those that are listed then
      each : (P : ℕ → ℕ → Type 0) → ((j : ℕ) → j < k → P j (get_or which j 0)) → (get_or starts i 0 < get_or ends i 0 → P k i) → (j : ℕ) → j < k + r → P j (get_or (set which k i) j 0)
      each P old new j h = go (eq-or-lt_of_le (omega (arith, at_most)))
        where
          go : (j ≡ k) ⊎ (j < k) → P j (get_or (set which k i) j 0)
          go (inr l) = rw (get_or-set_other which k j i 0 (λ q. omega arith)) (old j l)
          go (inl q) = rw (q, get_or-set_same which k i 0 (omega (arith, listed-few))) (test (ltb (get_or starts i 0) (get_or ends i 0)) (λ t. new (ltb-true (get_or starts i 0) (get_or ends i 0) t)) (λ f. absurd (let z : r ≡ 0 = er ∙ ap (λ (b : Bool). when b 1) f in omega arith)))

      pub listed_more : Listed starts ends (set which k i) (i + 1) (k + r)
      listed_more = record {
        number = omega (arith, L.number, er, met_next i);
        place = each (λ (j t : ℕ). t < i + 1) (λ j h. omega (arith, L.place j h)) (λ h. omega arith);
        rank = each (λ (j t : ℕ). met_to starts ends t ≡ j) L.rank (λ h. sym L.number);
        meets = each (λ (j t : ℕ). get_or starts t 0 < get_or ends t 0) L.meets (λ h. h);
      }

-- those listed alone
pub listed-front : (starts ends which l : List ℕ) (m k : ℕ) → Listed starts ends which m k → k ≤ length which → l ≡ take k which → Listed starts ends l m (length l)
listed-front starts ends which l m k L h e =
    let n : length l ≡ k = ap length e ∙ length-take-le k which h in
    let w = λ (j : ℕ) (lt : j < length l). ap (λ (x : List ℕ). get_or x j 0) e ∙ get_or-take k which j 0 (omega (arith, n)) in
    record {
      number = n ∙ L.number;
      place = λ j lt. rw (w j lt) (L.place j (omega (arith, n)));
      rank = λ j lt. rw (w j lt) (L.rank j (omega (arith, n)));
      meets = λ j lt. rw (w j lt) (L.meets j (omega (arith, n)));
    }

-- ---- the walk over those listed

module _ (g : ScaleGrid) (vs : ℕ) (rs ps : List ℕ) (p : ℕ) (hs : List ℕ) (m : ℕ) (starts ends : List ℕ) where
  -- the words l are the v votes of the hashes before some place, of which j meet a posting
  pub record Walked (l : List ℤ) (v j : ℕ) : Type 0 where
    pub place : ℕ
    pub within : place ≤ m
    pub rank : met_to starts ends place ≡ j
    pub put : l ≡ before g vs rs ps p hs place
    pub many : v ≡ length (before g vs rs ps p hs place)

  pub walked_none : (l : List ℤ) → l ≡ [] → Walked l 0 0
  walked_none l e = record { place = 0; within = omega arith; rank = met-zero starts ends; put = e ∙ sym (before-none g vs rs ps p hs); many = sym (ap length (before-none g vs rs ps p hs)) }

  module _ (W : Sought ps 5 p hs 4 m) (S : Starts ps 5 p hs 4 m starts) (E : Ends ps 5 p hs 4 m ends) where
    -- a hash that meets none has no votes
    under_none : (i : ℕ) → i < m → get_or ends i 0 ≤ get_or starts i 0 → under key_of (get_or hs (4 * i) 0) (voting vs rs (entries 5 p ps)) ≡ []
    under_none i h le =
        let a = S.begins i h in
        let b = E.stops i h in
        let e = none_of (under key_of (get_or hs (4 * i) 0) (entries 5 p ps)) (omega (arith, a, b, under-many ps 5 p (key_at hs 4 i) W.ascend (omega arith) W.postings)) in
        under-voting vs rs (get_or hs (4 * i) 0) (entries 5 p ps) ∙ ap (voting vs rs) e ∙ voting-none vs rs

    before-skip : (i : ℕ) → i < m → get_or ends i 0 ≤ get_or starts i 0 → before g vs rs ps p hs (i + 1) ≡ before g vs rs ps p hs i
    unfolding words_by flat
    before-skip i h le = before_more g vs rs ps p hs i ∙ rw (under_none i h le) (append-nil (before g vs rs ps p hs i))

    skip : (i d : ℕ) → i + d ≤ m → met_to starts ends i ≡ met_to starts ends (i + d) → before g vs rs ps p hs i ≡ before g vs rs ps p hs (i + d)
    skip i zero h e = let z : i + 0 ≡ i = omega arith in rw z refl
    skip i (suc d) h e =
        let z : i + suc d ≡ (i + d) + 1 = omega arith in
        let e' : met_to starts ends i ≡ met_to starts ends ((i + d) + 1) = rw z at e in
        let a = met-mono starts ends i (i + d) (omega arith) in
        let b = met-mono starts ends (i + d) ((i + d) + 1) (omega arith) in
        let ih = skip i d (omega arith) (omega arith) in
        rw z (ih ∙ sym (before-skip (i + d) (omega arith) (not-met starts ends (i + d) (omega arith))))

    -- where no more are met, no more are voted for
    before_same : (i e : ℕ) → i ≤ e → e ≤ m → met_to starts ends i ≡ met_to starts ends e → before g vs rs ps p hs i ≡ before g vs rs ps p hs e
    before_same i e l h k = let z : i + (e - i) ≡ e = omega arith in rw z at (skip i (e - i) (rw z h) (rw z k))

    module _ (which : List ℕ) (k : ℕ) (L : Listed starts ends which m k) (l : List ℤ) (v j : ℕ) (A : Walked l v j) where
      module _ (lt : j < k) where
        abbrev next : ℕ
        next = get_or which j 0

        behind : A.place ≤ next
        behind = test (ltb next A.place) (λ t. absurd (omega (arith, A.rank, L.rank j lt, met_at starts ends next (L.meets j lt), met-mono starts ends (next + 1) A.place (omega (arith, ltb-true next A.place t))))) (ltb-false next A.place)

        -- up to the next
        reached : before g vs rs ps p hs A.place ≡ before g vs rs ps p hs (get_or which j 0)
        reached = before_same A.place next behind (omega (arith, L.place j lt)) (A.rank ∙ sym (L.rank j lt))

        pub walked-room : v + length (at g vs rs ps p hs (get_or which j 0)) ≤ length (before g vs rs ps p hs m)
        walked-room = omega (arith, A.many, ap length reached, longer g vs rs ps p hs next, before-longer g vs rs ps p hs (next + 1) m (omega (arith, L.place j lt)))

        pub walked_more : (x : List ℤ) (v' : ℕ) → v' ≡ v + length (at g vs rs ps p hs (get_or which j 0)) → x ≡ l ++ at g vs rs ps p hs (get_or which j 0) → Walked x v' (j + 1)
        walked_more x v' ev ex = record {
          place = next + 1;
          within = omega (arith, L.place j lt);
          rank = met_at starts ends next (L.meets j lt) ∙ ap (λ (t : ℕ). t + 1) (L.rank j lt);
          put = put-hash g vs rs ps p hs next l x (A.put ∙ reached) ex;
          many = omega (arith, ev, A.many, ap length reached, longer g vs rs ps p hs next);
        }

      pub walked_all : j ≡ k → before g vs rs ps p hs A.place ≡ before g vs rs ps p hs m
      walked_all e = before_same A.place m A.within (omega arith) (A.rank ∙ e ∙ L.number)
