-- What a query's postings and hashes are asked has one proof at most. Assumes nothing.
use Rattle.std.specs.Prelude.{List, ℕ}
use denote.Struct.Props as logic
use Rattle.query_laws.specs.Props.{all_prop}
use Rattle.wang_judge.specs.declared.WangQuery.{WangQuery}
use Rattle.wang_query.specs.Candidates.{Posted}

pub posted_prop : (rs ps hs : List ℕ) (q : WangQuery) → IsProp (Posted rs ps hs q)
posted_prop rs ps hs q = Prim.hlevel (logic.props, all_prop)
