-- `soundness::UsedPostings::none_stopped` meets its contract. Assumes nothing.
use Rattle.std.proofs.Common.{◌≡◌, sym, ◌∙◌, arith, length}
use Rattle.soundness.proofs.Stopped.{since, inside, walked-hit, walked_more, walked-out}
use Rattle.soundness.proofs.UsedPostings.none_stopped.Goals as goal

pub first_from-i-requires : goal.first_from-i-requires
first_from-i-requires c = let l = c.loop-key in (
  omega arith,
  c.args.self.within,
  c.requires.0,
  rw c.from.ensures (since c.args.self.width c.args.stops.now (length c.args.stops.now) c.args.self.words.now c.args.self.count l.i l.key-index (omega arith) c.requires.0 c.requires.1 c.loop-key-test.true l.invariant.0 l.invariant.1),
)

pub returns-then-has_key : goal.returns-then-has_key
returns-then-has_key c = let l = c.loop-key in
    sym (walked-hit c.args.self.width c.args.stops.now (length c.args.stops.now) c.args.self.words.now c.args.self.count l.i l.key-index (omega arith) c.requires.0 c.requires.1 c.loop-key-test.true l.invariant.0 l.invariant.1 (c.first_from-i.ensures ∙ rw c.from.ensures) (sym c.has_key.ensures ∙ c.if-has_key.true))

pub loop-key-preserved : goal.loop-key-preserved
loop-key-preserved c = let l = c.loop-key in (
  inside c.args.self.width c.args.stops.now (length c.args.stops.now) c.args.self.words.now c.args.self.count l.i l.key-index (omega arith) c.requires.0 c.requires.1 c.loop-key-test.true l.invariant.0 l.invariant.1 (c.first_from-i.ensures ∙ rw c.from.ensures),
  walked_more c.args.self.width c.args.stops.now (length c.args.stops.now) c.args.self.words.now c.args.self.count l.i l.key-index (omega arith) c.requires.0 c.requires.1 c.loop-key-test.true l.invariant.0 l.invariant.1 (c.first_from-i.ensures ∙ rw c.from.ensures) (sym c.has_key.ensures ∙ c.if-has_key.false),
)

pub returns : goal.returns
returns c = let l = c.loop-key in
    let e : l.key-index ≡ length c.args.stops.now = omega arith in
    sym (walked-out c.args.self.width c.args.stops.now (length c.args.stops.now) c.args.self.words.now c.args.self.count l.i (rw e at l.invariant.1))
