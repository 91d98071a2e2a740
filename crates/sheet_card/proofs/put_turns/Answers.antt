-- `sheet_card::put_turns` meets its contract. Assumes nothing.
use Rattle.std.proofs.Common.{arith, rules}
use Rattle.soundness.specs.Scan.{words}
use Rattle.sheet_card.proofs.Turns.{next-turn}
use Rattle.sheet_card.proofs.Held.{tail_all, printing-none, printing-turn, printing-end, turn-room}
use Rattle.sheet_card.proofs.put_turns.Goals as goal

pub loop-next-init : goal.loop-next-init
loop-next-init c =
    let a = c.args in
    record { printing = printing-none a.card.now a.out.now a.at (words a.refs.now a.postings.now a.stopped.now) a.start c.requires.0; scratch = c.requires.1 }

pub slice_bounds-turn-count : goal.slice_bounds-turn-count
slice_bounds-turn-count c = (c.loop-next.invariant.printing.going.on c.in-Some.p c.in-Some.is).inside

pub slice_bounds-turn-start : goal.slice_bounds-turn-start
slice_bounds-turn-start c = let h = (c.loop-next.invariant.printing.going.on c.in-Some.p c.in-Some.is).inside in search rules

pub turn-t-requires-clause-line_most_in_bounds : goal.turn-t-requires-clause-line_most_in_bounds
turn-t-requires-clause-line_most_in_bounds c =
    let i = c.loop-next.invariant.printing.going in
    let go = i.on c.in-Some.p c.in-Some.is in
    (turn-room c.args.card.now (words c.loop-next.refs c.loop-next.postings c.loop-next.stopped) c.in-Some.p c.loop-next.end go c.loop-next.out i.room, omega (arith, go.counts), go.below)

pub loop-next-smaller : goal.loop-next-smaller
loop-next-smaller c =
    let go = c.loop-next.invariant.printing.going.on c.in-Some.p c.in-Some.is in
    let n = next-turn (words c.loop-next.refs c.loop-next.postings c.loop-next.stopped) c.in-Some.p _ (omega (arith, go.counts)) go.below c.turn-t.result.next c.turn-t.ensures.next_value in
    rw c.in-Some.is n.less

pub loop-next-preserved : goal.loop-next-preserved
loop-next-preserved c =
    let e = c.turn-t.ensures in
    record {
      printing =
          printing-turn c.loop-next.invariant.printing c.in-Some.p c.in-Some.is _ _ _ _ _ (tail_all c.in-Some.p.offset c.args.card.now)
          e.put e.end_bound e.stopped_value e.next_value;
      scratch = e.scratch_after;
    }

pub returns : goal.returns
returns c = printing-end c.loop-next.invariant.printing c.in_default.is
