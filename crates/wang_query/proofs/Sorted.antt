-- The gathered votes, sorted: what the walk over the candidates asks of them. Assumes nothing.
use mathlib.Core.Path.{◌≡◌, sym}
use mathlib.Core.List.{List}
use Prim.Native.Nat.{ℕ, ◌+◌, ◌*◌, ◌-◌, ◌^◌, ◌≤◌, ◌<◌, min}
use native.Mathlib.Omega.{arith}
use lib.IntN.{ℤ, pos}
use lib.ListN.{length, get_or, take}
use Rattle.lists.specs.Lists.{All}
use Rattle.lists.proofs.Keep.{all_both}
use Rattle.lists.proofs.Entries.{length-entries}
use Rattle.sorting.specs.Sort.{sort_z}
use Rattle.query_search.specs.Starts.{met}
use Rattle.query_laws.proofs.Gathering.{words-all, all-voting}
use Rattle.query_laws.proofs.Sorted as sorting
use Rattle.wang_judge.specs.declared.WangQuery.{WangQuery}
use Rattle.wang_votes.specs.Gathered.{vote_word, pair_word}
use Rattle.wang_votes.proofs.Walks.{votes-many}
use Rattle.wang_query.specs.Candidates.{held_in, postings_in, hashes_in, words_in, Spanned, Votes, Held, Posted}
use Rattle.wang_query.proofs.Pairs.{Low, Small, low-hashes, small-postings, recording-is, place_is}

-- how many are gathered
pub gathered-many : (v : ℕ) (q : WangQuery) (rs ps hs : List ℕ) → met (postings_in v rs ps) (hashes_in q hs) ≡ length (words_in v q rs ps hs)
gathered-many v q rs ps hs = sym (votes-many q.q_max 0 (postings_in v rs ps) (hashes_in q hs))

pub counted-all : (w : ℕ) (q : WangQuery) (rs ps hs : List ℕ) (room v : ℕ) → v ≡ min (room + 1) (met (postings_in w rs ps) (hashes_in q hs)) → v ≡ min (room + 1) (length (words_in w q rs ps hs))
counted-all w q rs ps hs room v e = rw (gathered-many w q rs ps hs) at e

-- a vote lies in its recording's span
spanned-one : (rs : List ℕ) (top : ℕ) → top < 2 ^ 32 → (i : ℕ) (h e : List ℕ) → i < 2 ^ 11 → Low top h → Held rs e → Small e → Spanned rs top (pos (vote_word (top - get_or h 1 0) i e))
spanned-one rs top high i h e k low held small =
    let r = recording-is top high i h e k low small in
    record { known = rw r held.0; near = rw (place_is top high i h e k low small, r) (omega (arith, held.1)) }

module _ (w : ℕ) (rs ps hs : List ℕ) (q : WangQuery) (P : Posted rs ps hs q) (bits : (i : ℕ) → get_or ps i 0 < 2 ^ 32) where
  spanned : All (Spanned rs q.q_max) (words_in w q rs ps hs)
  spanned = words-all (pair_word q.q_max) (Spanned rs q.q_max) (2 ^ 11) (Low q.q_max) (λ e. Held rs e × Small e)
      (λ i h e k L E. (spanned-one rs q.q_max P.packable.high i h e k L E.0 E.1, tt))
      (postings_in w rs ps) (all-voting (λ e. Held rs e × Small e) w rs (held_in rs ps) (all_both (Held rs) Small (held_in rs ps) P.held (small-postings (get_or rs 2 0) ps bits)))
      (hashes_in q hs) (low-hashes q.q_len hs q.q_max P.packable.below) 0 (omega (arith, length-entries 2 q.q_len hs, P.packable.walk.few))

  pub sorted-votes : (s : List ℤ) (v : ℕ) → v ≡ length (words_in w q rs ps hs) → take v s ≡ sort_z (words_in w q rs ps hs) → v ≤ 1000000 → 4 * v ≤ length s → Votes rs s v q
  sorted-votes s v e sorted few room = record { limits = P.limits; words = sorting.sorted-votes (words_in w q rs ps hs) s v e sorted (Spanned rs q.q_max) 4 spanned few room }
