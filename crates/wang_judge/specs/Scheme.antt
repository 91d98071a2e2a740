-- Wang's scheme: what the model asks of an index, for Wang. Definitions only. Assumes nothing.
use Rattle.std.specs.Prelude.{Bool, List, [], ◌∷◌, ℕ, pos, ◌-ℤ◌, length, ltb, Float}
use Rattle.std.proofs.Math.Option.{Option}
use Rattle.std.specs.Float.{binary32}
use Rattle.std.specs.Float.Ieee.{of_bits}
use Rattle.maps.specs.Lists.{count_if}
use Rattle.matching.specs.declared.MatchResult.{MatchResult}
use Rattle.model.specs.Fingerprints.{Hash}
use Rattle.model.specs.Rows.{Row, anchor, largest_anchor}
use Rattle.model.specs.Query.{Scheme, Query}
use Rattle.wang_judge.specs.Judge.{Vote, Counts, judge_by}
use Rattle.wang_judge.specs.declared.WangMatchConfig.{WangMatchConfig}
use Rattle.wang_judge.specs.declared.WangQuery.{WangQuery}

-- settings from words, the floats by their bits
abbrev pub config_of : ℕ → ℕ → ℕ → ℕ → WangMatchConfig
config_of tolerance votes score prominence =
    record { offset_tolerance_frames = tolerance; min_votes = votes; min_score = of_bits binary32 score; min_prominence = of_bits binary32 prominence }

-- a query's settings and rate
pub record Ask : Type 0 where
  pub cfg : WangMatchConfig
  pub rate : Float

-- "Tolerance at most 65,535"
abbrev pub most_tolerance : ℕ
most_tolerance = 65535

-- refusal 4: "query setting beyond its limit"
unfoldable pub beyond : WangMatchConfig → Bool
beyond cfg = ltb most_tolerance cfg.offset_tolerance_frames

-- "δ = t_anchor of the posting − t_anchor of the query hash, position of the query hash": h at position i, and a held hash g
abbrev pub vote_of : ℕ → Hash → Hash → Vote
vote_of i h g = record { delta = pos (anchor g) -ℤ pos (anchor h); position = i }

-- what every candidate is judged with
abbrev pub query_of : Ask → List Hash → WangQuery
query_of a hs = record { cfg = a.cfg; frames_per_sec = a.rate; q_max = largest_anchor hs; q_len = length hs }

abbrev pub counts_of : List Vote → Counts
counts_of vs p = count_if p vs

unfoldable pub judge : Ask → List Hash → Row → List Vote → Option MatchResult
judge a hs r vs = judge_by (query_of a hs) r.rate r.rmax (counts_of vs)

-- "Wang 3 words (key, id, t_anchor)"; "Scratch of i64: 6 words a vote (Wang)"
abbrev pub wang : Scheme
wang = record {
  width = 3;
  vote_words = 6;
  Ask = Ask;
  Vote = Vote;
  beyond = λ a. beyond a.cfg;
  vote = λ a i h g. vote_of i h g ∷ [];
  judge = judge;
}

-- settings, rate, the set, the words of the hashes, and how many words of scratch are lent
abbrev pub query_with : WangMatchConfig → Float → ℕ → List ℕ → ℕ → Query wang
query_with cfg rate set hs scratch = record { ask = record { cfg = cfg; rate = rate }; set = set; words = hs; scratch = scratch }
