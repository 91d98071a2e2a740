-- Assumes nothing.
use Rattle.std.proofs.Common.{◌/◌, arith}
use Rattle.query_search.proofs.Steps.{step-fits, stepped}
use Rattle.query_search.proofs.Levels.{level-more}
use Rattle.query_search.proofs.Search.narrow.Goals as goal

pub moved-at-requires : goal.moved-at-requires
moved-at-requires g c =
    let window = c.loop-i.invariant.rest c.loop-i.i (omega arith) c.loop-i-test.true in
    step-fits _ _ _ _ _ _ c.args.self.sought _ c.args.len _ window _ c.tail-a.ensures

pub moved-to-requires : goal.moved-to-requires
moved-to-requires g c =
    let window = c.loop-i.invariant.rest c.loop-i.i (omega arith) c.loop-i-test.true in
    let once = stepped _ _ _ _ _ _ c.args.self.sought _ c.args.len _ window _ c.tail-a.ensures _ c.moved-at.ensures in
    step-fits _ _ _ _ _ _ c.args.self.sought _ (c.args.len / 2) _ once _ c.tail-b.ensures

pub moved-requires : goal.moved-requires
moved-requires g c =
    let window = c.loop-i.invariant.rest c.loop-i.i (omega arith) c.loop-i-test.true in
    let once = stepped _ _ _ _ _ _ c.args.self.sought _ c.args.len _ window _ c.tail-a.ensures _ c.moved-at.ensures in
    let twice = stepped _ _ _ _ _ _ c.args.self.sought _ (c.args.len / 2) _ once _ c.tail-b.ensures _ c.moved-to.ensures in
    step-fits _ _ _ _ _ _ c.args.self.sought _ (c.args.len / 2 / 2) _ twice _ c.tail-c.ensures

pub loop-i-preserved : goal.loop-i-preserved
loop-i-preserved g c =
    let window = c.loop-i.invariant.rest c.loop-i.i (omega arith) c.loop-i-test.true in
    let once = stepped _ _ _ _ _ _ c.args.self.sought _ c.args.len _ window _ c.tail-a.ensures _ c.moved-at.ensures in
    let twice = stepped _ _ _ _ _ _ c.args.self.sought _ (c.args.len / 2) _ once _ c.tail-b.ensures _ c.moved-to.ensures in
    let thrice = stepped _ _ _ _ _ _ c.args.self.sought _ (c.args.len / 2 / 2) _ twice _ c.tail-c.ensures _ c.moved.ensures in
    level-more _ _ _ _ _ _ _ _ _ _ _ c.loop-i.invariant c.loop-i-test.true thrice
