-- What a query answers, from what is live and held. Definitions only. Assumes nothing.
use Rattle.std.specs.Prelude.{Bool, cond, List, [], ◌∷◌, ◌++◌, map, ℕ, zero, suc, ◌/◌, length, get_or, ltb}
use Rattle.std.proofs.Math.Option.{Option, none, some}
use Rattle.lists.specs.Lists.{keep, flat}
use Rattle.lists.specs.Keys.{under}
use Rattle.matching.specs.declared.MatchResult.{MatchResult}
use Rattle.matching.specs.Results.{better}
use Rattle.model.specs.Fingerprints.{Hash, hashes_of}
use Rattle.model.specs.Rows.{Row, in_set}
use Rattle.model.specs.Index.{Posting, Index, key_of, of_id, is_stopped, is_live}

-- What Wang and Panako each have of their own.
-- width          words of a posting: 3 (Wang), 5 (Panako)
-- vote_words      scratch words of a vote: 6 (Wang), 12 (Panako)
-- Ask            a query's settings and rate
-- beyond a       a setting is beyond its limit, after `normalize_config`
-- vote a i h g   the votes, none or one, of the query hash h at position i and a held hash g
-- judge a hs r vs   "Each candidate", steps 1 to 4: the result of a recording with row r and votes vs, if it passes them all
pub record Scheme : Type 1 where
  pub width : ℕ
  pub vote_words : ℕ
  pub Ask : Type 0
  pub Vote : Type 0
  pub beyond : Ask → Bool
  pub vote : Ask → ℕ → Hash → Hash → List Vote
  pub judge : Ask → List Hash → Row → List Vote → Option MatchResult

-- What a query is called with, the store aside: settings and rate, "a set, or 0 for all", the words of its hashes, and how many words
-- of scratch are lent
pub record Query (S : Scheme) : Type 0 where
  pub ask : S.Ask
  pub set : ℕ
  pub words : List ℕ
  pub scratch : ℕ

-- What is known of an index from outside: the live ids, all below `size`, with their rows; the ids that are free, in order of
-- vacating; the hashes held; the stopped keys
pub record Catalog : Type 0 where
  pub size : ℕ
  pub live : ℕ → Option Row
  pub vacant : List ℕ
  pub held : List Posting
  pub stopped : ℕ → Bool

abbrev pub catalog : Index → Catalog
catalog x = record { size = length x.rows; live = λ j. get_or x.rows j none; vacant = x.vacant; held = x.postings; stopped = is_stopped x }

-- the row of a recording, if a query for `set` asks for it
abbrev pub asked : ℕ → Option Row → Option Row
asked set none = none
asked set (some r) = cond (in_set set r.set) (some r) none

-- "only recordings of the query's set vote": the hashes that they hold
abbrev pub voting : ℕ → Catalog → List Posting
voting set c = keep (λ p. is_live (asked set (c.live p.id))) c.held

module _ (S : Scheme) where
  abbrev pub hashes : Query S → List Hash
  hashes q = hashes_of S.width q.words

  -- the votes that the scratch holds
  abbrev pub room : Query S → ℕ
  room q = q.scratch / S.vote_words

  -- "For each query hash, the part of the postings under its key": their votes, the first hash being at position i
  unfoldable pub gather : S.Ask → ℕ → List Hash → List Posting → List S.Vote
  gather a i [] ps = []
  gather a i (h ∷ hs) ps = flat (map (λ p. S.vote a i h p.hash) (under key_of h.key ps)) ++ gather a (suc i) hs ps

  abbrev pub votes : Query S → List Posting → List S.Vote
  votes q ps = gather q.ask 0 (hashes q) ps

  -- refusal 8: "query gathers more votes than its scratch holds"; "only votes of that set count against its scratch"
  unfoldable pub too_many_votes : Query S → Catalog → Bool
  too_many_votes q c = ltb (room q) (length (votes q (voting q.set c)))

  -- a live recording of the set with a vote is judged. "What it holds, its rate, its r_max and the query decide its votes, gates and result."
  abbrev pub judged : Query S → Option Row → List S.Vote → Option MatchResult
  judged q none vs = none
  judged q (some r) [] = none
  judged q (some r) (v ∷ vs) = S.judge q.ask (hashes q) r (v ∷ vs)

  unfoldable pub candidate : Query S → Catalog → ℕ → Option MatchResult
  candidate q c j = judged q (asked q.set (c.live j)) (votes q (of_id j c.held))

-- "Best of those that pass ..: higher score, then higher prominence, then lower id": as the Rust's `track_best`, the one found first
-- stays unless the next is better
abbrev pub track_best : Option (ℕ × MatchResult) → ℕ → Option MatchResult → Option (ℕ × MatchResult)
track_best b j none = b
track_best none j (some r) = some (j, r)
track_best (some b) j (some r) = cond (better r b.1) (some (j, r)) (some b)

-- "Each candidate, ascending id": the best of ids 0 to n - 1
unfoldable pub best_below : ℕ → (ℕ → Option MatchResult) → Option (ℕ × MatchResult)
best_below zero f = none
best_below (suc n) f = track_best (best_below n f) n (f n)

abbrev pub best_of : (S : Scheme) → Query S → Catalog → Option (ℕ × MatchResult)
best_of S q c = best_below c.size (candidate S q c)
