-- What a query's postings and hashes are asked has one proof at most. Assumes nothing.
use Rattle.std.specs.Prelude.{List, ℕ}
use denote.Struct.Props as logic
use Rattle.query_laws.specs.Props.{all_prop}
use Rattle.panako_judge.specs.declared.PanakoQuery.{PanakoQuery}
use Rattle.panako_query.specs.Candidates.{Posted}

pub posted_prop : (rs ps hs : List ℕ) (q : PanakoQuery) → IsProp (Posted rs ps hs q)
posted_prop rs ps hs q = Prim.hlevel (logic.props, all_prop)
