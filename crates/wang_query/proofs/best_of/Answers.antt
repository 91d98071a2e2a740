-- `wang_query::best_of` meets its contract: at the loop's test the candidates with votes before word i have been judged. Assumes nothing.
use Rattle.std.proofs.Common.{◌≡◌, get_or, pos, to_z, of_z, w64, rules}
use native.Mathlib.Omega.{arith}
use Rattle.query_rank.specs.Answers.{best_so_far}
use Rattle.query_laws.proofs.Turns.{judged-none, judged-all}
use Rattle.wang_query.specs.Candidates.{reading, Spanned}
use Rattle.wang_query.proofs.Turns.{candidate, walked_on}
use Rattle.wang_query.proofs.best_of.Goals as goal

pub loop-i-init : goal.loop-i-init
loop-i-init c = let a = c.args in judged-none (reading a.q) a.refs.now (Spanned a.refs.now a.q.q_max) 4 a.s.now a.v c.requires.words

pub run_end-e-requires : goal.run_end-e-requires
run_end-e-requires c = let W = c.loop-i.invariant.votes in omega (arith, W.room)

pub row_word-rate-requires : goal.row_word-rate-requires
row_word-rate-requires c =
    let word : to_z w64 (of_z w64 (get_or c.loop-i.s c.loop-i.i (pos 0))) ≡ get_or c.loop-i.s c.loop-i.i (pos 0) = search rules in
    let id = rw word at c.of-id.ensures in
    let W = c.loop-i.invariant.votes in
    let L = c.requires.limits in
    omega (arith, id, (W.each c.loop-i.i (omega arith)).known, L.rows)

pub row_word-r_max-requires : goal.row_word-r_max-requires
row_word-r_max-requires c =
    let word : to_z w64 (of_z w64 (get_or c.loop-i.s c.loop-i.i (pos 0))) ≡ get_or c.loop-i.s c.loop-i.i (pos 0) = search rules in
    let id = rw word at c.of-id.ensures in
    let W = c.loop-i.invariant.votes in
    let L = c.requires.limits in
    omega (arith, id, (W.each c.loop-i.i (omega arith)).known, L.rows)

pub overflow_cast-id : goal.overflow_cast-id
overflow_cast-id c =
    let word : to_z w64 (of_z w64 (get_or c.loop-i.s c.loop-i.i (pos 0))) ≡ get_or c.loop-i.s c.loop-i.i (pos 0) = search rules in
    let id = rw word at c.of-id.ensures in
    let W = c.loop-i.invariant.votes in
    let L = c.requires.limits in
    record { fits = omega (arith, id, (W.each c.loop-i.i (omega arith)).known, L.many) }

pub overflow_sub-e : goal.overflow_sub-e
overflow_sub-e c = omega (arith, c.run_end-e.ensures.since)

pub overflow_mul-v : goal.overflow_mul-v
overflow_mul-v c = let W = c.loop-i.invariant.votes in record { fits = omega (arith, W.few) }

pub judge-verdict-requires : goal.judge-verdict-requires
judge-verdict-requires c =
    let word : to_z w64 (of_z w64 (get_or c.loop-i.s c.loop-i.i (pos 0))) ≡ get_or c.loop-i.s c.loop-i.i (pos 0) = search rules in
    let id = rw word at c.of-id.ensures in
    let s = c in
    let l = c.loop-i in
    rw (c.row_word-r_max.ensures, id)
    (candidate s.args.refs.now s.args.q s.args.s.now l.s s.args.v (best_so_far l.best) l.i l.invariant c.loop-i-test.true c.run_end-e.result c.run_end-e.ensures s.requires.limits)

pub loop-i-smaller : goal.loop-i-smaller
loop-i-smaller c = omega (arith, c.run_end-e.ensures.since)

pub loop-i-preserved : goal.loop-i-preserved
loop-i-preserved c =
    let word : to_z w64 (of_z w64 (get_or c.loop-i.s c.loop-i.i (pos 0))) ≡ get_or c.loop-i.s c.loop-i.i (pos 0) = search rules in
    let id = rw word at c.of-id.ensures in
    let s = c in
    let l = c.loop-i in
    walked_on s.args.refs.now s.args.q s.args.s.now l.s s.args.v (best_so_far l.best) l.i l.invariant c.loop-i-test.true c.run_end-e.result c.run_end-e.ensures
    c.judge-verdict.new.s _ c.judge-verdict.auto.s c.judge-verdict.ensures.1 c.of-id.result c.row_word-rate.result c.row_word-r_max.result c.judge-verdict.result (best_so_far c.keep-best.result)
    id c.row_word-rate.ensures c.row_word-r_max.ensures c.judge-verdict.ensures.0 c.keep-best.ensures

pub shape_of-s : goal.shape_of-s
shape_of-s c = c.loop-i.invariant.long

pub returns : goal.returns
returns c =
    let l = c.loop-i in
    let s = c in
    let e : l.i ≡ s.args.v = omega (arith, l.invariant.on) in
    judged-all (reading s.args.q) s.args.refs.now (Spanned s.args.refs.now s.args.q.q_max) 4 s.args.s.now l.s s.args.v (best_so_far l.best) (rw e at l.invariant)
