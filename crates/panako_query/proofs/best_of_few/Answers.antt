-- The one candidate is the best.
use Rattle.std.proofs.Common.{◌≡◌, get_or, pos, to_z, of_z, w64, rules}
use Rattle.query_rank.specs.Answers.{best_so_far}
use Rattle.panako_query.proofs.Few.{few-best}
use Rattle.panako_query.proofs.best_of_few.Goals as goal

pub returns : goal.returns
returns c =
    let a = c.args in
    let word : to_z w64 (of_z w64 (get_or a.s.now 0 (pos 0))) ≡ get_or a.s.now 0 (pos 0) = search rules in
    few-best a.refs.now a.q a.s.now a.v a.n c.requires.1 c.requires.2 c.of-id.result c.row_word-rate.result c.judge_binned-verdict.result (best_so_far c.keep.result)
    (rw word at c.of-id.ensures) c.row_word-rate.ensures c.judge_binned-verdict.ensures c.keep.ensures
