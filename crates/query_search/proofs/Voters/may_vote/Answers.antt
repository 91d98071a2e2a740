-- Assumes nothing.
use Rattle.std.proofs.Common.{ℕ, eqb, sym, ap, ◌∙◌}
use Rattle.query_search.proofs.Voting.{all-may, some-may}
use Rattle.query_search.proofs.Voters.may_vote.Goals as goal

pub returns-then-self-eq0 : goal.returns-then-self-eq0
returns-then-self-eq0 c = let a = c.args in sym (all-may a.self.set a.self.refs.now c.if-self-eq0.true a.id)

pub returns : goal.returns
returns c =
    let a = c.args in
    ap (λ (x : ℕ). eqb x a.self.set) c.row_word.ensures ∙ sym (some-may a.self.set a.self.refs.now c.if-self-eq0.false a.id)
