-- The words of a pair of a query hash and a posting are its votes. Assumes nothing.
use mathlib.Core.Path.{◌≡◌, refl, ap, ◌∙◌}
use mathlib.Core.List.{List, [], ◌∷◌, map}
use Prim.Native.Nat.{ℕ, ◌*◌, ◌+◌, ◌^◌, ◌<◌}
use native.Mathlib.Omega.{arith}
use lib.ListN.{get_or}
use lib.Seq.{get_or-drop}
use Rattle.lists.specs.Lists.{All}
use Rattle.lists.specs.Entries.{entries}
use Rattle.lists.proofs.Entries.{all-entries, entry-word}
use Rattle.model.specs.Fingerprints.{hash_of}
use Rattle.model.specs.Words.{read_posting}
use Rattle.panako_vote.specs.Grids.{grid_of, Limited}
use Rattle.panako_vote.specs.Votes.{vote_on, Bounded}
use Rattle.panako_vote.specs.declared.ScaleGrid.{ScaleGrid}
use Rattle.std.specs.Prelude.{Option, Some, None}
use Rattle.panako_vote.proofs.Bounds.{vote-bounded}
use Rattle.query_laws.proofs.Gathering.{Right}
use Rattle.panako_judge.specs.declared.PanakoQuery.{PanakoQuery}
use Rattle.panako_vote.specs.declared.Vote.{Vote}
use Rattle.panako_vote.specs.Words.{as_list, word_of}
use Rattle.panako_judge.specs.Scheme.{Ask, settings, votes_of, panako}
use Rattle.panako_judge.specs.Candidates.{recording_of, vote_in}
use Rattle.panako_judge.proofs.Codes.{packed-recording, packed-vote}
use Rattle.panako_votes.specs.Gathered.{pair_words}
use Rattle.panako_query.specs.Candidates.{reading}

-- the times of a hash and of a posting are words
abbrev pub SmallHash : List ℕ → Type 0
SmallHash h = (get_or h 1 0 < 2 ^ 32) × (get_or h 3 0 < 2 ^ 32)

abbrev pub SmallPosting : List ℕ → Type 0
SmallPosting e = (get_or e 2 0 < 2 ^ 32) × (get_or e 4 0 < 2 ^ 32)

pub small-hashes : (m : ℕ) (hs : List ℕ) → ((i : ℕ) → get_or hs i 0 < 2 ^ 32) → All SmallHash (entries 4 m hs)
small-hashes m hs h = all-entries SmallHash 4 m hs (λ i lt. rw (entry-word 4 i hs 1 (omega arith), entry-word 4 i hs 3 (omega arith)) (h (4 * i + 1), h (4 * i + 3)))

pub small-postings : (p : ℕ) (ps : List ℕ) → ((i : ℕ) → get_or ps i 0 < 2 ^ 32) → All SmallPosting (entries 5 p ps)
small-postings p ps h = all-entries SmallPosting 5 p ps (λ i lt. rw (entry-word 5 i ps 2 (omega arith), entry-word 5 i ps 4 (omega arith)) (h (5 * i + 2), h (5 * i + 4)))

back : (id last : ℕ) (o : Option Vote) → last < 4096 → Bounded last o
    → All (λ z. recording_of z ≡ id) (map (word_of id) (as_list o)) × (map vote_in (map (word_of id) (as_list o)) ≡ as_list o)
back id last None h b = (tt, refl)
back id last (Some v) h b = ((packed-recording id v (omega (arith, b.0)) b.1, tt), ap (λ (u : Vote). u ∷ []) (packed-vote id v (omega (arith, b.0)) b.1))

module _ (g : ScaleGrid) (L : Limited g) (i : ℕ) (h e : List ℕ) (H : SmallHash h) (E : SmallPosting e) where
  both : All (λ z. recording_of z ≡ get_or e 1 0) (pair_words g i h e) × (map vote_in (pair_words g i h e) ≡ as_list (vote_on g (get_or h 1 0) (get_or h 3 0) (get_or e 2 0) (get_or e 4 0)))
  both = back (get_or e 1 0) g.last_bin (vote_on g (get_or h 1 0) (get_or h 3 0) (get_or e 2 0) (get_or e 4 0)) L.last
      (vote-bounded g L (get_or h 1 0) (get_or h 3 0) (get_or e 2 0) (get_or e 4 0) H.0 H.1 E.0 E.1)

  pub own : All (λ z. recording_of z ≡ get_or e 1 0) (pair_words g i h e)
  own = both.0

scheme-vote : (a : Ask) (h e : List ℕ) → as_list (vote_on (grid_of (settings a)) (get_or h 1 0) (get_or h 3 0) (get_or e 2 0) (get_or e 4 0)) ≡ votes_of a (hash_of h) (read_posting e).hash
unfolding votes_of
scheme-vote a h e = rw (get_or-drop 1 h 0 0, get_or-drop 1 h 2 0, get_or-drop 2 e 0 0, get_or-drop 2 e 2 0) refl

pub right : (a : Ask) → Limited (grid_of (settings a)) → (q : PanakoQuery) (i : ℕ) (h e : List ℕ) → SmallHash h → SmallPosting e
    → Right panako (reading q) a (pair_words (grid_of (settings a))) i h e
right a L q i h e H E = record { own = own (grid_of (settings a)) L i h e H E; votes = (both (grid_of (settings a)) L i h e H E).1 ∙ scheme-vote a h e }
