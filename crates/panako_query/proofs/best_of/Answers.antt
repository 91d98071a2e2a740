-- `panako_query::best_of` meets its contract: at the loop's test the candidates with votes before word i have been judged. Assumes nothing.
use Rattle.std.proofs.Common.{◌≡◌, get_or, pos, to_z, of_z, w64, arith, rules}
use Rattle.query_rank.specs.Answers.{best_so_far}
use Rattle.query_laws.proofs.Turns.{judged-none, judged-all}
use Rattle.panako_query.specs.Candidates.{reading, Known}
use Rattle.panako_query.proofs.Turns.{candidate, walked_on}
use Rattle.panako_query.proofs.best_of.Goals as goal

pub loop-i-init : goal.loop-i-init
loop-i-init c = let a = c.args in judged-none (reading a.q) a.refs.now (Known a.refs.now) 6 a.s.now a.v c.requires.words

pub run_end-e-requires : goal.run_end-e-requires
run_end-e-requires c = omega (arith, c.loop-i.invariant.votes.room)

pub row_word-rate-requires : goal.row_word-rate-requires
row_word-rate-requires c =
    let word : to_z w64 (of_z w64 (get_or c.loop-i.s c.loop-i.i (pos 0))) ≡ get_or c.loop-i.s c.loop-i.i (pos 0) = search rules in
    let id = rw word at c.of-id.ensures in
    let l = c.loop-i in omega (arith, id, l.invariant.votes.each l.i (omega arith), c.requires.limits.rows)

pub overflow_cast-id : goal.overflow_cast-id
overflow_cast-id c =
    let word : to_z w64 (of_z w64 (get_or c.loop-i.s c.loop-i.i (pos 0))) ≡ get_or c.loop-i.s c.loop-i.i (pos 0) = search rules in
    let id = rw word at c.of-id.ensures in
    let l = c.loop-i in record { fits = omega (arith, id, l.invariant.votes.each l.i (omega arith), c.requires.limits.many) }

pub overflow_sub-e : goal.overflow_sub-e
overflow_sub-e c = omega (arith, c.run_end-e.ensures.since)

pub judge-verdict-requires : goal.judge-verdict-requires
judge-verdict-requires c =
    let s = c in
    let a = s.args in
    let l = c.loop-i in
    candidate a.refs.now a.q a.s.now l.s a.v (best_so_far l.best) l.i l.invariant c.loop-i-test.true c.run_end-e.result c.run_end-e.ensures s.requires.limits

pub loop-i-smaller : goal.loop-i-smaller
loop-i-smaller c = omega (arith, c.run_end-e.ensures.since)

pub loop-i-preserved : goal.loop-i-preserved
loop-i-preserved c =
    let word : to_z w64 (of_z w64 (get_or c.loop-i.s c.loop-i.i (pos 0))) ≡ get_or c.loop-i.s c.loop-i.i (pos 0) = search rules in
    let id = rw word at c.of-id.ensures in
    let a = c.args in
    let l = c.loop-i in
    walked_on a.refs.now a.q a.s.now l.s a.v (best_so_far l.best) l.i l.invariant c.loop-i-test.true c.run_end-e.result c.run_end-e.ensures
    c.judge-verdict.new.s _ c.judge-verdict.auto.s c.judge-verdict.ensures.1 c.of-id.result c.row_word-rate.result c.judge-verdict.result (best_so_far c.keep-best.result)
    id c.row_word-rate.ensures c.judge-verdict.ensures.0 c.keep-best.ensures

pub shape_of-s : goal.shape_of-s
shape_of-s c = c.loop-i.invariant.long

pub returns : goal.returns
returns c =
    let a = c.args in
    let l = c.loop-i in
    let e : l.i ≡ a.v = omega (arith, l.invariant.on) in
    judged-all (reading a.q) a.refs.now (Known a.refs.now) 6 a.s.now l.s a.v (best_so_far l.best) (rw e at l.invariant)
