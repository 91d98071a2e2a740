-- The walk over the candidates: what holds when the words before i have been judged, and a turn of it. Assumes nothing.
use mathlib.Core.Path.{◌≡◌, refl, sym, ap, ap₂, ◌∙◌, subst}
use mathlib.Core.Logic.{⊎_elim}
use mathlib.Core.List.{List, [], map}
use mathlib.Core.Option.{Option, none, some}
use Prim.Native.Nat.{ℕ, ◌-◌, ◌≤◌, ◌<◌}
use native.Mathlib.Omega.{arith}
use lib.IntN.{ℤ, pos}
use lib.ListN.{length, get_or, take, drop, length-drop, length-map}
use lib.Seq.{take-take, get_or-take, ext_get_or, length-take-le}
use Rattle.lists.specs.Lists.{keep}
use Rattle.lists.proofs.Tests.{le-or-lt}
use Rattle.maps.specs.Words.{SameOutside}
use Rattle.maps.proofs.Entries.{scale-le}
use Rattle.bins.specs.Votes.{Run}
use Rattle.matching.specs.declared.MatchResult.{MatchResult}
use Rattle.model.specs.Query.{track_best}
use Rattle.std.specs.Prelude as code
use Rattle.query_rank.specs.Verdicts.{verdict_of, result_in}
use Rattle.query_laws.specs.Candidates.{Reading, row_at, judged_by, candidate_in, best_in, recording_at, Rising, Votes}
use Rattle.query_laws.proofs.Ranks.{best_none, best-more}
use Rattle.query_laws.proofs.Judged.{judged-some}
use Rattle.query_laws.proofs.Groups.{later-none, own-part, other-same}

-- the result in a verdict is the judge's
pub result-of : (o : Option MatchResult) → result_in (verdict_of o) ≡ o
result-of none = refl
result-of (some r) = refl

-- ---- words that stay as they are

module _ (s s' : List ℤ) (v : ℕ) (same : take v s' ≡ take v s) where
  pub word_same : (t : ℕ) → t < v → get_or s' t (pos 0) ≡ get_or s t (pos 0)
  word_same t h = sym (get_or-take v s' t (pos 0) h) ∙ ap (λ (l : List ℤ). get_or l t (pos 0)) same ∙ get_or-take v s t (pos 0) h

  part_same : (e : ℕ) → e ≤ v → take e s' ≡ take e s
  part_same e h = sym (take-take e v s' h) ∙ ap (take e) same ∙ take-take e v s h

same-before : (s s' : List ℤ) (v at e : ℕ) → length s' ≡ length s → v ≤ length s → v ≤ at → SameOutside s s' at e → take v s' ≡ take v s
same-before s s' v at e len fits le S = ext_get_or (pos 0) (take v s') (take v s)
    (length-take-le v s' (omega arith) ∙ sym (length-take-le v s fits))
    (λ t lt. let l : t < v = omega (arith, length-take-le v s' (omega arith)) in
    get_or-take v s' t (pos 0) l ∙ S.before t (omega arith) ∙ sym (get_or-take v s t (pos 0) l))

module _ (P : ℤ → Type 0) (w : ℕ) where
  votes-same : (s s' : List ℤ) (v : ℕ) → length s' ≡ length s → take v s' ≡ take v s → Votes P w s v → Votes P w s' v
  votes-same s s' v len same W = record {
    ascend = λ i j h k. rw (word_same s s' v same i (omega arith), word_same s s' v same j k) (W.ascend i j h k);
    each = λ t h. subst P (sym (word_same s s' v same t h)) (W.each t h);
    few = W.few;
    room = rw len W.room;
  }

module _ {Vote : Type 0} (R : Reading Vote) (rs : List ℕ) (P : ℤ → Type 0) (w : ℕ) where
  -- ---- the words before i are judged, and word i is of another recording

  pub record Judged (s₀ s : List ℤ) (v : ℕ) (best : Option (ℕ × MatchResult)) (i : ℕ) : Type 0 where
    pub votes : Votes P w s v
    pub long : length s ≡ length s₀
    pub kept : take v s ≡ take v s₀
    pub on : i ≤ v
    pub first : i < v → (t : ℕ) → t < i → recording_at R s t < recording_at R s i
    pub found : best ≡ best_in R rs (take i s)

  pub judged-none : (s : List ℤ) (v : ℕ) → Votes P w s v → Judged s s v none 0
  unfolding candidate_in keep
  judged-none s v W = record {
    votes = W;
    long = refl;
    kept = refl;
    on = omega arith;
    first = λ h t k. absurd (omega arith);
    found = sym (best_none (candidate_in R rs []) (get_or rs 0 0) (λ j. refl));
  }

  pub judged-all : (s₀ s : List ℤ) (v : ℕ) (best : Option (ℕ × MatchResult)) → Judged s₀ s v best v → best ≡ best_in R rs (take v s₀)
  judged-all s₀ s v best J = J.found ∙ ap (best_in R rs) J.kept

  module _ (w1 : 1 ≤ w) (rises : Rising R) (known : (z : ℤ) → P z → R.recording_of z < get_or rs 0 0)
      (s₀ s : List ℤ) (v : ℕ) (best : Option (ℕ × MatchResult)) (i : ℕ) (J : Judged s₀ s v best i) (h : i < v) (e : ℕ) (U : Run (recording_at R s) i v e) where
    abbrev x : ℕ
    x = recording_at R s i

    W : Votes P w s v
    W = J.votes

    short : v ≤ length s
    short = omega (arith, scale-le w v w1, W.room)

    fits : e ≤ length s
    fits = omega (arith, U.within, short)

    -- what candidates there are before i, and before e
    abbrev f : ℕ → Option MatchResult
    f j = candidate_in R rs (take i s) j

    abbrev g : ℕ → Option MatchResult
    g j = candidate_in R rs (take e s) j

    before : (t : ℕ) → t < i → recording_at R s t < x
    before = J.first h

    le : i ≤ e
    le = omega (arith, U.since)

    g-other : (j : ℕ) → (j ≡ x → ⊥) → g j ≡ f j
    unfolding candidate_in
    g-other j ne = ap (λ (l : List ℤ). judged_by R (row_at rs j) (map R.vote_in l)) (other-same R s i e x le fits before U.same j ne)

    f-late : (j : ℕ) → x ≤ j → f j ≡ none
    unfolding candidate_in
    f-late j k = ap (λ (l : List ℤ). judged_by R (row_at rs j) (map R.vote_in l)) (later-none R s i e x le fits before U.same j k)

    -- the votes from i to e
    abbrev own : List Vote
    own = map R.vote_in (take (e - i) (drop i s))

    g-own : g x ≡ R.judge (row_at rs x) own
    unfolding candidate_in
    g-own =
        ap (λ (l : List ℤ). judged_by R (row_at rs x) (map R.vote_in l)) (own-part R s i e x le fits before U.same)
        ∙ judged-some R (row_at rs x) own
        (rw (length-map (take (e - i) (drop i s)) R.vote_in, length-take-le (e - i) (drop i s) (omega (arith, length-drop i s, U.within, short))) (omega (arith, U.since)))

    best-next : track_best best x (R.judge (row_at rs x) own) ≡ best_in R rs (take e s)
    best-next =
        ap₂ (λ (b : Option (ℕ × MatchResult)) (r : Option MatchResult). track_best b x r) J.found (sym g-own)
        ∙ sym (best-more f g (get_or rs 0 0) x (known (get_or s i (pos 0)) (W.each i h)) (λ j k. g-other j (λ eq. omega arith)) f-late (λ j k. g-other j (λ eq. omega arith) ∙ f-late j (omega arith)))

    -- the next recording is above all before it
    next-first : e < v → (t : ℕ) → t < e → recording_at R s t < recording_at R s e
    next-first k t lt =
        let up : x < recording_at R s e = omega (arith, rises (get_or s i (pos 0)) (get_or s e (pos 0)) (W.ascend i e U.since k), U.stop k) in
        ⊎_elim (λ (a : i ≤ t). omega (arith, U.same t a lt)) (λ (a : t < i). omega (arith, before t a)) (le-or-lt i t)

    -- the candidate is judged, which writes behind the votes
    judged-more : (s' : List ℤ) (at to : ℕ) → v ≤ at → length s' ≡ length s → SameOutside s s' at to → Judged s₀ s' v (track_best best x (R.judge (row_at rs x) own)) e
    judged-more s' at to behind len S = record {
      votes = votes-same P w s s' v len same W;
      long = len ∙ J.long;
      kept = same ∙ J.kept;
      on = U.within;
      first = λ k t lt. rw (record_same t (omega (arith, U.within)), record_same e k) (next-first k t lt);
      found = best-next ∙ ap (best_in R rs) (sym (part_same s s' v same e U.within));
    }
      where
        same : take v s' ≡ take v s
        same = same-before s s' v at to len short behind S

        record_same : (t : ℕ) → t < v → recording_at R s' t ≡ recording_at R s t
        record_same t k = ap R.recording_of (word_same s s' v same t k)

    -- a turn, by what the calls say
    pub turn : (s' : List ℤ) (at to : ℕ) → v ≤ at → length s' ≡ length s → SameOutside s s' at to → (id : ℕ) (r : code.Option MatchResult) (best' : Option (ℕ × MatchResult))
        → id ≡ recording_at R s i → r ≡ verdict_of (R.judge (row_at rs id) own) → best' ≡ track_best best id (result_in r) → Judged s₀ s' v best' e
    turn s' at to behind len S id r best' e1 e2 e3 =
        let m : best' ≡ track_best best x (R.judge (row_at rs x) own) = e3 ∙ rw (e2, result-of (R.judge (row_at rs id) own), e1) refl in
        rw m (judged-more s' at to behind len S)
