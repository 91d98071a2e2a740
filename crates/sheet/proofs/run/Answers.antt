-- A turn leaves fewer bytes until the limit, and no more records than bytes. Assumes nothing.
use Rattle.std.proofs.Common.{arith}
use Rattle.sheet.proofs.Reading.{taken_next}
use Rattle.sheet.proofs.run.Goals as goal

pub loop-next-smaller : goal.loop-next-smaller
loop-next-smaller c =
    let k = rw c.in-Some.is at c.loop-next.invariant.counted in
    rw c.in-Some.is (taken_next c.in-Some.p k.0 k.1 c.in_ok-next-2.was c.take_turn.ensures.turn_taken).less

pub loop-next-preserved : goal.loop-next-preserved
loop-next-preserved c =
    let k = rw c.in-Some.is at c.loop-next.invariant.counted in
    record {
      scratch = c.take_turn.ensures.scratch_after;
      bytes = omega arith;
      line = omega arith;
      counted = (taken_next c.in-Some.p k.0 k.1 c.in_ok-next-2.was c.take_turn.ensures.turn_taken).counted;
    }
