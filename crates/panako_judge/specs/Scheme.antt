-- Panako's scheme: what the model asks of an index, for Panako. Definitions only. Assumes nothing.
use Rattle.std.specs.Prelude.{Bool, not, List, ℕ, length, get_or, Float}
use Rattle.std.proofs.Math.Option.{Option}
use Rattle.matching.specs.declared.MatchResult.{MatchResult}
use Rattle.model.specs.Fingerprints.{Hash}
use Rattle.model.specs.Rows.{Row, anchor}
use Rattle.model.specs.Query.{Scheme, Query}
use Rattle.panako_vote.specs.Settings.{normalised, within_limits}
use Rattle.panako_vote.specs.Votes.{pair_vote}
use Rattle.panako_vote.specs.declared.Vote.{Vote}
use Rattle.panako_vote.specs.Words.{as_list}
use Rattle.panako_vote.specs.declared.PanakoMatchConfig.{PanakoMatchConfig}
use Rattle.panako_judge.specs.Judge.{judge_by}
use Rattle.panako_judge.specs.declared.PanakoQuery.{PanakoQuery}

-- a query's settings, as they come, and its rate
pub record Ask : Type 0 where
  pub cfg : PanakoMatchConfig
  pub rate : Float

-- "`PanakoIndex::query` first calls `normalize_config`"
abbrev pub settings : Ask → PanakoMatchConfig
settings a = normalised a.cfg

-- refusal 4: "query setting beyond its limit, after `normalize_config`"
unfoldable pub beyond : Ask → Bool
beyond a = not (within_limits (settings a))

-- a hash's times are t_anchor, t_b, t_c
abbrev pub last : Hash → ℕ
last h = get_or h.times 2 0

-- the vote of a query hash h and a held hash g, if they have one
unfoldable pub votes_of : Ask → Hash → Hash → List Vote
votes_of a h g = as_list (pair_vote (settings a) (anchor h) (last h) (anchor g) (last g))

-- what every candidate is judged with
abbrev pub query_of : Ask → List Hash → PanakoQuery
query_of a hs = record { cfg = settings a; frames_per_sec = a.rate; q_len = length hs }

unfoldable pub judge : Ask → List Hash → Row → List Vote → Option MatchResult
judge a hs r vs = judge_by (query_of a hs) r.rate vs

-- "Panako 5 (key, id, t_anchor, t_b, t_c)"; "Scratch of i64: .. 12 (Panako)"
abbrev pub panako : Scheme
panako = record {
  width = 5;
  vote_words = 12;
  Ask = Ask;
  Vote = Vote;
  beyond = beyond;
  vote = λ a i h g. votes_of a h g;
  judge = judge;
}

-- settings as they come, rate, the set, the words of the hashes, and how many words of scratch are lent
abbrev pub query_with : PanakoMatchConfig → Float → ℕ → List ℕ → ℕ → Query panako
query_with cfg rate set hs scratch = record { ask = record { cfg = cfg; rate = rate }; set = set; words = hs; scratch = scratch }
