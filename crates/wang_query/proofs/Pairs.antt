-- The word of a pair of a query hash and a posting is its vote. Assumes nothing.
use mathlib.Core.Path.{◌≡◌, refl, ap}
use mathlib.Core.List.{List, [], ◌∷◌}
use Prim.Native.Nat.{ℕ, ◌+◌, ◌*◌, ◌-◌, ◌^◌, ◌≤◌, ◌<◌}
use native.Mathlib.Omega.{arith}
use lib.IntN.{pos}
use lib.ListN.{get_or}
use lib.Seq.{get_or-drop}
use Rattle.lists.specs.Lists.{All}
use Rattle.lists.specs.Entries.{entries}
use Rattle.lists.proofs.Entries.{all-entries, entry-word}
use Rattle.bins.specs.Votes.{recording_of, place_of}
use Rattle.bins.proofs.Votes.{packed-recording, packed-place, packed-position}
use Rattle.model.specs.Fingerprints.{hash_of}
use Rattle.model.specs.Words.{read_posting}
use Rattle.query_laws.proofs.Gathering.{Right}
use Rattle.wang_judge.specs.declared.WangQuery.{WangQuery}
use Rattle.wang_judge.specs.Judge.{Vote}
use Rattle.wang_judge.specs.Scheme.{Ask, vote_of, wang}
use Rattle.wang_judge.specs.Candidates.{vote_in}
use Rattle.wang_votes.specs.Gathered.{vote_word, pair_word}
use Rattle.wang_query.specs.Candidates.{reading}
use Rattle.wang_query.proofs.Deltas.{delta-is}

-- a query hash's anchor is at most the largest; a posting's is a word
abbrev pub Low : ℕ → List ℕ → Type 0
Low top h = get_or h 1 0 ≤ top

abbrev pub Small : List ℕ → Type 0
Small e = get_or e 2 0 < 2 ^ 32

pub low-hashes : (m : ℕ) (hs : List ℕ) (top : ℕ) → ((i : ℕ) → i < m → get_or hs (2 * i + 1) 0 ≤ top) → All (Low top) (entries 2 m hs)
low-hashes m hs top h = all-entries (Low top) 2 m hs (λ i lt. rw (entry-word 2 i hs 1 (omega arith)) (h i lt))

pub small-postings : (p : ℕ) (ps : List ℕ) → ((i : ℕ) → get_or ps i 0 < 2 ^ 32) → All Small (entries 3 p ps)
small-postings p ps h = all-entries Small 3 p ps (λ i lt. rw (entry-word 3 i ps 2 (omega arith)) (h (3 * i + 2)))

module _ (top : ℕ) (high : top < 2 ^ 32) (i : ℕ) (h e : List ℕ) (k : i < 2 ^ 11) (low : Low top h) (small : Small e) where
  pub recording-is : recording_of (pos (vote_word (top - get_or h 1 0) i e)) ≡ get_or e 1 0
  recording-is = packed-recording (get_or e 1 0) (get_or e 2 0 + (top - get_or h 1 0)) i (omega arith) k

  pub place_is : place_of (pos (vote_word (top - get_or h 1 0) i e)) ≡ get_or e 2 0 + (top - get_or h 1 0)
  place_is = packed-place (get_or e 1 0) (get_or e 2 0 + (top - get_or h 1 0)) i (omega arith) k

  vote-is : vote_in top (pos (vote_word (top - get_or h 1 0) i e)) ≡ vote_of i (hash_of h) (read_posting e).hash
  vote-is =
      rw (
        place_is,
        packed-position (get_or e 1 0) (get_or e 2 0 + (top - get_or h 1 0)) i (omega arith) k,
        delta-is top (get_or h 1 0) (get_or e 2 0) low,
        get_or-drop 2 e 0 0,
        get_or-drop 1 h 0 0,
      )
      refl

pub right : (a : Ask) (q : WangQuery) → q.q_max < 2 ^ 32 → (i : ℕ) (h e : List ℕ) → i < 2 ^ 11 → Low q.q_max h → Small e → Right wang (reading q) a (pair_word q.q_max) i h e
right a q high i h e k low small = record { own = (recording-is q.q_max high i h e k low small, tt); votes = ap (λ (v : Vote). v ∷ []) (vote-is q.q_max high i h e k low small) }
