-- The answer from the words is the model's. Assumes nothing.
use mathlib.Core.Path.{◌≡◌, refl, sym, ap, ap₂, ◌∙◌}
use mathlib.Core.Bool.{true, cond}
use mathlib.Core.List.{List, [], ◌∷◌, map}
use mathlib.Core.Option.{Option, none, some}
use Prim.Native.Nat.{ℕ, ◌-◌, ◌/◌, ◌≤◌, ◌<◌}
use native.Mathlib.Omega.{arith}
use lib.IntN.{ℤ}
use lib.ListN.{length, get_or, drop}
use lib.Dec.{eqb, ltb}
use borrow.Author.Tests.{eqb-true}
use Rattle.lists.specs.Entries.{entries}
use Rattle.lists.proofs.Tests.{test, maybe}
use Rattle.lists.proofs.Keep.{keep-map, keep_same, all_keep, all-kept, all-imp, all_both}
use Rattle.matching.specs.declared.MatchResult.{MatchResult}
use Rattle.model.specs.Fingerprints.{Hash, hash_of, hashes_of}
use Rattle.model.specs.Rows.{Row, in_set}
use Rattle.model.specs.Index.{Posting, of_id, is_live}
use Rattle.model.specs.Query as model
use Rattle.model.specs.Query.{Scheme, Query, catalog, asked as of_set, gather, votes, too_many_votes, judged, candidate, best_below, best_of}
use Rattle.model.specs.Calls.{refused, answer_of}
use Rattle.model.specs.Words.{Words, sizes_of, slices_listed, read_row, read_posting, read_index, head_width, row_width, at_live, at_set}
use Rattle.model.specs.Soundness.{row_word, sound_words}
use Rattle.model.proofs.Stores.{references-long, postings-long, stopped-long, sound-facts}
use Rattle.model.proofs.Read.{rows_long, live-row}
use Rattle.model.proofs.Best.{best-ext}
use Rattle.model.proofs.Sets.{held-votes}
use Rattle.query_search.specs.Gathered.{Pairing, words_from}
use Rattle.query_search.specs.Voting.{may_vote, voting}
use Rattle.query_laws.specs.Candidates.{Reading, row_at, votes_of, judged_by, candidate_in, best_in, answer_in}
use Rattle.query_laws.proofs.Lists.{some-kept}
use Rattle.query_laws.proofs.Gathering.{RightAll, votes-are, votes-many, gather_none}
use Rattle.query_laws.proofs.Sound.{hashes-long, live-entries}

module _ (S : Scheme) (w2 : 2 ≤ S.width) (m : Words) (l : slices_listed S.width m ≡ true) (s : sound_words S.width m ≡ true) (a : S.Ask) (set : ℕ) (hs : List ℕ) (scratch : ℕ)
    (R : Reading S.Vote) (judges : (r : Row) (vs : List S.Vote) → R.judge r vs ≡ S.judge a (hashes_of S.width hs) r vs) where
  abbrev w : ℕ
  w = S.width

  abbrev asked : Query S
  asked = record { ask = a; set = set; words = hs; scratch = scratch }

  abbrev rs : List ℕ
  rs = m.references

  -- the postings, and those that vote
  abbrev held : List (List ℕ)
  held = entries S.width (get_or m.references 2 0) m.postings

  abbrev es : List (List ℕ)
  es = voting set m.references (entries S.width (get_or m.references 2 0) m.postings)

  abbrev rows : List (Option Row)
  rows = map read_row (entries row_width (get_or m.references 0 0) (drop head_width m.references))

  -- the row of a live recording
  row_is : (j : ℕ) → j < get_or rs 0 0 → row_word rs j at_live ≡ 1 → get_or rows j none ≡ some (row_at rs j)
  row_is = live-row w (sizes_of w m) m w2 (references-long w m w2 l) (postings-long w m w2 l) (stopped-long w m w2 l) (sound-facts w m w2 l s)

  -- whether the set is asked for
  asked-row : (r : Row) → is_live (of_set set (some r)) ≡ in_set set r.set
  asked-row r = test (in_set set r.set) (λ e. rw e) (λ e. rw e)

  abbrev Live : List ℕ → Type 0
  Live e = (get_or e 1 0 < get_or rs 0 0) × (row_word rs (get_or e 1 0) at_live ≡ 1)

  -- the postings that vote are the model's
  voting-is : map read_posting es ≡ model.voting set (catalog (read_index w m))
  unfolding read_index voting may_vote
  voting-is =
      ap (map read_posting) (sym (keep_same (λ e. is_live (of_set set (get_or rows (get_or e 1 0) none))) (λ e. in_set set (row_word rs (get_or e 1 0) at_set)) held
      (all-imp Live (λ e. is_live (of_set set (get_or rows (get_or e 1 0) none)) ≡ in_set set (row_word rs (get_or e 1 0) at_set))
      (λ e live. rw (row_is (get_or e 1 0) live.0 live.1) (asked-row (row_at rs (get_or e 1 0)))) held (live-entries w w2 m l s))))
      ∙ sym (keep-map read_posting (λ p. is_live (of_set set (get_or rows p.id none))) held)

  -- a recording with a vote is live, and asked for
  alive : (j : ℕ) → 0 < length (gather S a 0 (hashes_of w hs) (of_id j (map read_posting es))) → of_set set (get_or rows j none) ≡ some (row_at rs j)
  unfolding voting may_vote
  alive j h =
      some-kept (λ e. eqb (get_or e 1 0) j) (λ e. Live e × (in_set set (row_word rs (get_or e 1 0) at_set) ≡ true)) es
      (all_both Live (λ e. in_set set (row_word rs (get_or e 1 0) at_set) ≡ true) es
      (all_keep Live (λ e. in_set set (row_word rs (get_or e 1 0) at_set)) held (live-entries w w2 m l s)) (all-kept (λ e. in_set set (row_word rs (get_or e 1 0) at_set)) held))
      (λ nil.
      let e = ap (gather S a 0 (hashes_of w hs)) (keep-map read_posting (λ p. eqb p.id j) es ∙ ap (map read_posting) nil) ∙ gather_none S a 0 (hashes_of w hs) in
      absurd (omega (arith, h, ap length e)))
      (λ e live is.
      let m₁ = eqb-true (get_or e 1 0) j is in
      let k : in_set set (row_word rs j at_set) ≡ true = (rw m₁ at live.1) in
      rw (row_is j (rw m₁ at live.0.0) (rw m₁ at live.0.1), k))

  judged-is : (j : ℕ) (o : Option Row) (vs : List S.Vote) → (0 < length vs → o ≡ some (row_at rs j)) → judged_by R (row_at rs j) vs ≡ judged S asked o vs
  judged-is j none [] h = refl
  judged-is j (some r) [] h = refl
  judged-is j o (v ∷ vs) h = rw (h (omega arith)) (judges (row_at rs j) (v ∷ vs))

  size_is : length (read_index w m).rows ≡ get_or rs 0 0
  unfolding read_index
  size_is = rows_long w (sizes_of w m) m w2 (references-long w m w2 l) (postings-long w m w2 l) (stopped-long w m w2 l) (sound-facts w m w2 l s)

  module _ (pair : Pairing) (H : RightAll S R a pair es 0 (entries (S.width - 1) (length (hashes_of S.width hs)) hs)) where
    abbrev zs : List ℤ
    zs = words_from pair 0 es (entries (S.width - 1) (length (hashes_of S.width hs)) hs)

    hashes-are : map hash_of (entries (w - 1) (length (hashes_of w hs)) hs) ≡ hashes_of w hs
    unfolding hashes_of
    hashes-are = ap (λ (n : ℕ). map hash_of (entries (w - 1) n hs)) (hashes-long w hs)

    votes-is : (j : ℕ) → votes_of R j zs ≡ votes S asked (of_id j (map read_posting es))
    votes-is j =
        votes-are S R a pair j es (entries (w - 1) (length (hashes_of w hs)) hs) 0 H
        ∙ ap (λ (h : List Hash). gather S a 0 h (of_id j (map read_posting es))) hashes-are

    many_is : length zs ≡ length (votes S asked (map read_posting es))
    many_is =
        votes-many S R a pair es (entries (w - 1) (length (hashes_of w hs)) hs) 0 H
        ∙ ap (λ (h : List Hash). length (gather S a 0 h (map read_posting es))) hashes-are

    candidate-is : (j : ℕ) → candidate_in R rs zs j ≡ candidate S asked (catalog (read_index w m)) j
    unfolding candidate_in candidate read_index
    candidate-is j =
        ap (judged_by R (row_at rs j)) (votes-is j) ∙ judged-is j (of_set set (get_or rows j none)) (votes S asked (of_id j (map read_posting es))) (alive j)
        ∙ maybe (of_set set (get_or rows j none))
        (λ e. rw e)
        (λ r e. ap (λ (ps : List Posting). judged S asked (of_set set (get_or rows j none)) (votes S asked ps)) (ap (of_id j) voting-is ∙ held-votes set (catalog (read_index w m)) j r e))

    best-is : best_in R rs zs ≡ best_of S asked (catalog (read_index w m))
    best-is =
        best-ext (candidate_in R rs zs) (candidate S asked (catalog (read_index w m))) (get_or rs 0 0) (λ j h. candidate-is j)
        ∙ ap (λ (n : ℕ). best_below n (candidate S asked (catalog (read_index w m)))) (sym size_is)

    pub answer-is : answer_in R (scratch / S.vote_words) rs zs
        ≡ cond (too_many_votes S asked (catalog (read_index w m))) (refused 8) (answer_of (best_of S asked (catalog (read_index w m))))
    unfolding answer_in too_many_votes read_index
    answer-is = ap₂ (λ (n : ℕ) (b : Option (ℕ × MatchResult)). cond (ltb (scratch / S.vote_words) n) (refused 8) (answer_of b)) (many_is ∙ ap (λ (ps : List Posting). length (votes S asked ps)) voting-is) best-is
