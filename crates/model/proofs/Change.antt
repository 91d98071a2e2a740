-- What a new recording, and one that is removed, do to a query's answer; on catalogs. Assumes nothing.
use mathlib.Core.Path.{◌≡◌, refl, sym, ap, ◌∙◌, subst}
use mathlib.Core.Logic.{◌⊎◌, inl, inr}
use mathlib.Core.Bool.{Bool, true, false, cond, not}
use mathlib.Core.List.{List, [], ◌∷◌, ◌++◌, append-nil}
use mathlib.Core.Option.{Option, none, some}
use Prim.Native.Nat.{ℕ, suc, ◌≤◌, ◌<◌, max}
use native.Mathlib.Omega.{arith}
use lib.ListN.{length}
use lib.Dec.{eqb, ltb}
use borrow.Author.Tests.{ltb-true, ltb-false, eqb-true, eqb-false, eq-eqb, ne_eqb, le-ltb, not-true}
use Rattle.lists.specs.Lists.{keep, none?}
use Rattle.lists.specs.Keys.{has_key}
use Rattle.lists.proofs.Tests.{test, maybe, not-both}
use Rattle.lists.proofs.Keep.{keep-comm, keep-both, keep_append, keep_all, keep-none, all_keep, all-kept, all-imp, all-of-key, key-of-all}
use Rattle.matching.specs.declared.MatchResult.{MatchResult}
use Rattle.model.specs.Fingerprints.{Fingerprint}
use Rattle.model.specs.Rows.{Row}
use Rattle.model.specs.Index.{Posting, key_of, of_id, without_id, posted, unskipped, exceeds, is_live}
use Rattle.model.specs.Query.{Scheme, Query, Catalog, asked, voting, hashes, room, votes, judged, candidate, best_below, best_of, too_many_votes}
use Rattle.model.specs.Calls.{Answer, best, nothing, answer_of}
use Rattle.model.specs.History.{arrived, with_recording, without_recording}
use Rattle.model.specs.Claim.{ranks_above, is_concerned, KeysKept, BecomesBest, OldOrNew}
use Rattle.model.proofs.Fingerprints.{posted-other}
use Rattle.model.proofs.Best.{best-ext, best-is, best_none, Joined, alone, wins, loses, best-joined, best-without}
use Rattle.model.proofs.Agree.{Clean, gather-fewer}

module _ (S : Scheme) where
  -- the answer of an accepted query
  abbrev pub found : Query S → Catalog → Answer
  found q c = answer_of (best_of S q c)

  -- ---- has a vote and passes every gate

  judged-some : (q : Query S) (row : Row) (vs : List S.Vote) → none? vs ≡ false → judged S q (some row) vs ≡ S.judge q.ask (hashes S q) row vs
  judged-some q row [] e = absurd (not-both refl e)
  judged-some q row (v ∷ vs) e = refl

  record Passes (q : Query S) (o : Option Row) (vs : List S.Vote) (r : MatchResult) : Type 0 where
    row : Row
    live : o ≡ some row
    vote : none? vs ≡ false
    passes : S.judge q.ask (hashes S q) row vs ≡ some r

  passes : (q : Query S) (o : Option Row) (vs : List S.Vote) (r : MatchResult) → judged S q o vs ≡ some r → Passes q o vs r
  passes q none vs r e = let z : ◌≡◌ {A = ℕ} 0 1 = cc in absurd (omega arith)
  passes q (some row) [] r e = let z : ◌≡◌ {A = ℕ} 0 1 = cc in absurd (omega arith)
  passes q (some row) (v ∷ vs) r e = record { row = row; live = refl; vote = refl; passes = e }

  -- ---- the new recording among the candidates

  answer-nothing : (b : Option (ℕ × MatchResult)) → answer_of b ≡ nothing → b ≡ none
  answer-nothing none e = refl
  answer-nothing (some t) e = let z : ◌≡◌ {A = ℕ} 0 1 = cc in absurd (omega arith)

  answer-best : (b : Option (ℕ × MatchResult)) (j : ℕ) (r : MatchResult) → answer_of b ≡ best j r → b ≡ some (j, r)
  answer-best none j r e = let z : ◌≡◌ {A = ℕ} 0 1 = cc in absurd (omega arith)
  answer-best (some t) j r e = let a : t.0 ≡ j = cc in let b : t.1 ≡ r = cc in λ i. some (a i, b i)

  -- who votes is concerned
  concerned : (set : ℕ) (o : Option Row) → is_live (asked set o) ≡ true → is_concerned set o ≡ true
  concerned set none h = h
  concerned set (some r) h = test (is_concerned set (some r)) (λ d. d) (λ d. let z : ◌≡◌ {A = ℕ} 0 1 = cc in absurd (omega arith))

  module _ (q : Query S) (c : Catalog) (limit : ℕ) (f : Fingerprint) (id : ℕ) (clean : Clean c) (kept : KeysKept q.set c (with_recording S.width limit f id c) id) where
    over : ℕ → Bool
    over = exceeds limit (posted id f.hashes) (arrived c (posted id f.hashes))

    not-over : (j k : ℕ) → (j ≡ id → ⊥) → is_live (asked q.set (c.live j)) ≡ true → has_key key_of k (of_id j c.held) ≡ true → not (over k) ≡ true
    unfolding over with_recording Clean
    not-over j k ne there has =
        let free : c.stopped k ≡ false = key-of-all key_of (λ k. c.stopped k ≡ false) (of_id j c.held) (all_keep (λ p. c.stopped (key_of p) ≡ false) (λ p. eqb p.id j) c.held clean) k has in
        test (over k) (λ e. absurd (kept j k (concerned q.set (c.live j) there) ne has free (rw (free, e)))) (λ e. rw e)

    -- what another live recording holds stays
    of_id-same : (j : ℕ) → (j ≡ id → ⊥) → is_live (asked q.set (c.live j)) ≡ true → of_id j (with_recording S.width limit f id c).held ≡ of_id j c.held
    unfolding over with_recording
    of_id-same j ne there =
        keep-comm (λ p. eqb p.id j) (λ p. not (over (key_of p))) (arrived c (posted id f.hashes))
        ∙ ap (keep (λ p. not (over (key_of p))))
        (keep_append (λ p. eqb p.id j) c.held (unskipped c.stopped (posted id f.hashes))
        ∙ ap (λ l. of_id j c.held ++ l) (keep-none (λ p. eqb p.id j) (unskipped c.stopped (posted id f.hashes))
        (all_keep (λ p. eqb p.id j ≡ false) (λ p. not (c.stopped (key_of p))) (posted id f.hashes) (posted-other id j f.hashes ne)))
        ∙ append-nil (of_id j c.held))
        ∙ keep_all (λ p. not (over (key_of p))) (of_id j c.held) (all-of-key key_of (λ k. not (over k) ≡ true) (of_id j c.held) (λ k has. not-over j k ne there has))

    live_same : (j : ℕ) → (j ≡ id → ⊥) → (with_recording S.width limit f id c).live j ≡ c.live j
    unfolding with_recording
    live_same j ne = rw (ne_eqb j id ne)

    pub candidate-others : (j : ℕ) → (j ≡ id → ⊥) → candidate S q (with_recording S.width limit f id c) j ≡ candidate S q c j
    unfolding candidate
    candidate-others j ne = maybe (asked q.set (c.live j))
        (λ e. rw (live_same j ne, e))
        (λ r e. rw (of_id-same j ne (rw e), live_same j ne))

  module _ (q : Query S) (c : Catalog) (id : ℕ) (vacant : c.live id ≡ none) where
    pub candidate-vacant : candidate S q c id ≡ none
    unfolding candidate
    candidate-vacant = rw vacant

    -- the walk over the ids may go one further
    pub best-further : (n : ℕ) → id ≤ n → best_below (max n (suc id)) (candidate S q c) ≡ best_below n (candidate S q c)
    best-further n le = test (ltb id n)
        (λ e. let m : max n (suc id) ≡ n = omega (arith, ltb-true id n e) in rw m)
        (λ e. let eq : n ≡ id = omega (arith, ltb-false id n e) in
        let m : max n (suc id) ≡ suc id = omega arith in rw (m, eq) (best_none (candidate S q c) id candidate-vacant))

  module _ (q : Query S) (c d : Catalog) (id : ℕ)
      (was : candidate S q c id ≡ none) (others : (j : ℕ) → (j ≡ id → ⊥) → candidate S q d j ≡ candidate S q c j)
      (wide : id < d.size) (further : best_below d.size (candidate S q c) ≡ best_below c.size (candidate S q c)) where
    abbrev b : Option (ℕ × MatchResult)
    b = best_below c.size (candidate S q c)

    abbrev b' : Option (ℕ × MatchResult)
    b' = best_below d.size (candidate S q d)

    never : (r : MatchResult) → answer_of b ≡ best id r → ⊥
    never r e = let h = best-is (candidate S q c) c.size (id, r) (answer-best b id r e) in let z : ◌≡◌ {A = ℕ} 0 1 = cc in omega arith

    becomes-candidate : (old : Answer) (r : MatchResult) → BecomesBest S q d id old r → candidate S q d id ≡ some r
    unfolding candidate
    becomes-candidate old r E = rw E.live (judged-some q E.row (votes S q (of_id id d.held)) E.vote ∙ E.passes)

    becomes : (old : Answer) (r : MatchResult) → candidate S q d id ≡ some r → ((old ≡ nothing) ⊎ ((j : ℕ) × (t : MatchResult) × (old ≡ best j t) × (ranks_above r id t j ≡ true))) → BecomesBest S q d id old r
    unfolding candidate
    becomes old r e k = let P = passes q (asked q.set (d.live id)) (votes S q (of_id id d.held)) r e in record { row = P.row; live = P.live; vote = P.vote; passes = P.passes; ranks = k }

    joins : (r : MatchResult) → candidate S q d id ≡ some r → Joined id r b b'
    joins r e = subst (λ (o : Option (ℕ × MatchResult)). Joined id r o b') further (best-joined (candidate S q c) (candidate S q d) id r was e others d.size wide)

    -- the new recording is no candidate
    stays : candidate S q d id ≡ none → found q d ≡ found q c
    stays e = ap answer_of (best-ext (candidate S q d) (candidate S q c) d.size (λ j h. every j) ∙ further)
      where
        every : (j : ℕ) → candidate S q d j ≡ candidate S q c j
        every j = test (eqb j id) (λ k. rw (eqb-true j id k) (e ∙ sym was)) (λ k. others j (eqb-false j id k))

    absent : candidate S q d id ≡ none → OldOrNew S q d id (found q c) (found q d)
    absent e = record {
      either = inl (stays e);
      new-if = λ r E. let h = becomes-candidate (found q c) r E in let z : ◌≡◌ {A = ℕ} 0 1 = cc in absurd (omega arith);
      new-only-if = λ r k. absurd (never r (sym (stays e) ∙ k));
    }

    abbrev Ranks : MatchResult → Type 0
    Ranks r = (found q c ≡ nothing) ⊎ ((j : ℕ) × (t : MatchResult) × (found q c ≡ best j t) × (ranks_above r id t j ≡ true))

    -- the new recording is the best now
    now-best : (r : MatchResult) → candidate S q d id ≡ some r → b' ≡ some (id, r) → Ranks r → OldOrNew S q d id (found q c) (found q d)
    now-best r e n k = record {
      either = inr (r, ap answer_of n);
      new-if = λ r' E. let h = becomes-candidate (found q c) r' E in let i : r ≡ r' = cc in ap answer_of n ∙ ap (best id) i;
      new-only-if = λ r' j. let i : r ≡ r' = same r' j in becomes (found q c) r' (e ∙ ap some i) (subst Ranks i k);
    }
      where
        same : (r' : MatchResult) → answer_of b' ≡ best id r' → r ≡ r'
        same r' j = let m = ap answer_of n in cc

    joined_at : (r : MatchResult) → candidate S q d id ≡ some r → Joined id r b b' → OldOrNew S q d id (found q c) (found q d)
    joined_at r e (alone o n) = now-best r e n (inl (ap answer_of o))
    joined_at r e (wins t o n a) = now-best r e n (inr (t.0, t.1, ap answer_of o, a))
    joined_at r e (loses t o n a) = record {
      either = inl (ap answer_of (n ∙ sym o));
      new-if = λ r' E. let h = becomes-candidate (found q c) r' E in let i : r ≡ r' = cc in absurd (outranked r' i E.ranks);
      new-only-if = λ r' k. absurd (never r' (ap answer_of (o ∙ sym n) ∙ k));
    }
      where
        outranked : (r' : MatchResult) → r ≡ r' → Ranks r' → ⊥
        outranked r' i (inl k) = let m = ap answer_of o in let z : ◌≡◌ {A = ℕ} 0 1 = cc in omega arith
        outranked r' i (inr k) =
            let m : answer_of b ≡ best t.0 t.1 = ap answer_of o in
            let j-is : t.0 ≡ k.0 = cc (m, k.2) in
            let t-is : t.1 ≡ k.1 = cc (m, k.2) in
            not-both k.3 (rw (← i, ← j-is, ← t-is) a)

    pub old-or-new : OldOrNew S q d id (found q c) (found q d)
    old-or-new = maybe (candidate S q d id) absent (λ r e. joined_at r e (joins r e))

  -- ---- a recording goes

  module _ (q : Query S) (c : Catalog) (id : ℕ) where
    of_id-others : (j : ℕ) → (j ≡ id → ⊥) → of_id j (without_recording id c).held ≡ of_id j c.held
    unfolding without_recording
    of_id-others j ne =
        keep-comm (λ p. eqb p.id j) (λ p. not (eqb p.id id)) c.held
        ∙ keep_all (λ p. not (eqb p.id id)) (of_id j c.held)
        (all-imp (λ (p : Posting). eqb p.id j ≡ true) (λ p. not (eqb p.id id) ≡ true)
        (λ p e. rw (ne_eqb p.id id (λ k. ne (sym (eqb-true p.id j e) ∙ k)))) (of_id j c.held) (all-kept (λ p. eqb p.id j) c.held))

    others_same : (j : ℕ) → (j ≡ id → ⊥) → candidate S q c j ≡ candidate S q (without_recording id c) j
    unfolding without_recording candidate
    others_same j ne = sym (rw (of_id-others j ne, ne_eqb j id ne))

    one-gone : candidate S q (without_recording id c) id ≡ none
    unfolding without_recording candidate
    one-gone = rw (eq-eqb id id refl)

    pub found-without : ((r : MatchResult) → found q c ≡ best id r → ⊥) → found q (without_recording id c) ≡ found q c
    unfolding without_recording
    found-without other = ap answer_of (best-without (candidate S q c) (candidate S q (without_recording id c)) id c.size one-gone others_same (λ r e. other r (ap answer_of e)))

    -- the others vote as before
    voting-without : voting q.set (without_recording id c) ≡ without_id id (voting q.set c)
    unfolding without_recording
    voting-without = keep-both (λ (p : Posting). is_live (asked q.set (cond (eqb p.id id) none (c.live p.id)))) (λ p. is_live (asked q.set (c.live p.id))) (λ p. not (eqb p.id id))
        (λ p e. rw (not-true (eqb p.id id) e)) c.held

    pub many-without : too_many_votes S q c ≡ false → too_many_votes S q (without_recording id c) ≡ false
    unfolding too_many_votes
    many-without e = le-ltb (room S q) (length (votes S q (voting q.set (without_recording id c))))
        (rw voting-without (omega (arith, ltb-false (room S q) (length (votes S q (voting q.set c))) e, gather-fewer S q.ask 0 (hashes S q) (λ p. not (eqb p.id id)) (voting q.set c))))
