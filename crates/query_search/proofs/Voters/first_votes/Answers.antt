-- Assumes nothing.
use Rattle.std.proofs.Common.{Bool, sym, ap, arith}
use Rattle.maps.specs.Sums.{when}
use Rattle.query_search.proofs.Voting.{all-may}
use Rattle.query_search.proofs.Voters.first_votes.Goals as goal

pub returns-then-self-eq0 : goal.returns-then-self-eq0
returns-then-self-eq0 c =
    let a = c.args in
    (sym (ap (λ (b : Bool). when b a.n) (all-may a.self.set a.self.refs.now c.if-self-eq0.true _)), omega arith)
