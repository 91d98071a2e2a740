-- `build_stops::stop_runs` meets its contract. Assumes nothing.
use Rattle.std.proofs.Common.{◌≡◌, ℕ, ◌+◌, ◌*◌, ◌-◌, length, take, drop, arith, ap, ◌∙◌}
use native.Mathlib.Nat.{mul-le-mul_left}
use Rattle.lists.specs.Lists.{flat}
use Rattle.slices.proofs.Moved.{take-moved, drop-behind}
use Rattle.build_stops.proofs.Stopping.{Stopping, stopping-none, fewer, key-now, in_words, stops-room, stopping-stop, stopping-keep, kept-end, stops_end}
use Rattle.build_stops.proofs.stop_runs.Goals as goal

pub loop-i-init : goal.loop-i-init
loop-i-init c = stopping-none c.args.w c.args.n c.args.limit c.args.posts.now c.args.stops.now

pub bounds-stops-k : goal.bounds-stops-k
bounds-stops-k c =
    let a = c.args in
    let r = c.requires in
    let l = c.loop-i in
    stops-room a.w a.n a.limit a.posts.now r.0 r.1 r.2 a.stops.now l.posts l.stops l.i l.q l.k c.key_run_end-e.result l.invariant c.loop-i-test.true c.key_run_end-e.ensures c.if-limit-e.true r.3

pub overflow_mul-w : goal.overflow_mul-w
overflow_mul-w c =
    let a = c.args in
    let l = c.loop-i in
    let q = mul-le-mul_left a.w (fewer a.w a.n a.limit a.posts.now a.stops.now l.posts l.stops l.i l.q l.k l.invariant) in
    let i = in_words a.w a.n a.limit a.posts.now c.requires.0 c.requires.1 c.requires.2 a.stops.now l.posts l.stops l.i l.q l.k c.key_run_end-e.result l.invariant c.loop-i-test.true c.key_run_end-e.ensures in
    omega (arith, q, i)

pub move_down-requires : goal.move_down-requires
move_down-requires c =
    let a = c.args in
    let l = c.loop-i in (
      mul-le-mul_left a.w (fewer a.w a.n a.limit a.posts.now a.stops.now l.posts l.stops l.i l.q l.k l.invariant),
      in_words a.w a.n a.limit a.posts.now c.requires.0 c.requires.1 c.requires.2 a.stops.now l.posts l.stops l.i l.q l.k c.key_run_end-e.result l.invariant c.loop-i-test.true c.key_run_end-e.ensures,
    )

pub overflow_add-q : goal.overflow_add-q
overflow_add-q c =
    let a = c.args in
    let l = c.loop-i in
    omega (arith, c.key_run_end-e.ensures.within, fewer a.w a.n a.limit a.posts.now a.stops.now l.posts l.stops l.i l.q l.k l.invariant, c.key_run_end-e.ensures.some)

pub loop-i-preserved-then-limit-e : goal.loop-i-preserved-then-limit-e
loop-i-preserved-then-limit-e c =
    let a = c.args in
    let r = c.requires in
    let l = c.loop-i in
    let e = c.key_run_end-e in
    let room = stops-room a.w a.n a.limit a.posts.now r.0 r.1 r.2 a.stops.now l.posts l.stops l.i l.q l.k e.result l.invariant c.loop-i-test.true e.ensures c.if-limit-e.true r.3 in
    rw (c.key_at.ensures ∙ key-now a.w a.n a.limit a.posts.now r.0 r.1 r.2 a.stops.now l.posts l.stops l.i l.q l.k e.result l.invariant c.loop-i-test.true e.ensures l.i (omega arith))
    (stopping-stop a.w a.n a.limit a.posts.now r.0 r.1 r.2 a.stops.now l.posts l.stops l.i l.q l.k e.result l.invariant c.loop-i-test.true e.ensures c.if-limit-e.true room)

pub loop-i-preserved : goal.loop-i-preserved
loop-i-preserved c =
    let a = c.args in
    let r = c.requires in
    let l = c.loop-i in
    let e = c.key_run_end-e in
    let m = c.move_down in
    let n : ℕ = a.w * (e.result - l.i) in
    let low = mul-le-mul_left a.w (fewer a.w a.n a.limit a.posts.now a.stops.now l.posts l.stops l.i l.q l.k l.invariant) in
    let high = in_words a.w a.n a.limit a.posts.now r.0 r.1 r.2 a.stops.now l.posts l.stops l.i l.q l.k e.result l.invariant c.loop-i-test.true e.ensures in
    stopping-keep a.w a.n a.limit a.posts.now r.0 r.1 r.2 a.stops.now l.posts l.stops l.i l.q l.k e.result l.invariant c.loop-i-test.true e.ensures c.if-limit-e.false
    m.new.s m.auto.s
    (ap (take (a.w * l.q + n)) m.ensures ∙ take-moved l.posts (a.w * l.q) (a.w * l.i) n low high)
    (ap (drop (a.w * l.i + n)) m.ensures ∙ drop-behind l.posts (a.w * l.q) (a.w * l.i) n low high)

pub returns : goal.returns
returns c =
    let a = c.args in
    let l = c.loop-i in
    let q : l.i ≡ a.n = omega (arith, l.invariant.within) in
    let d : Stopping a.w a.n a.limit a.posts.now a.stops.now l.posts l.stops a.n l.q l.k = rw q at l.invariant in
    let kept = kept-end a.w a.n a.limit a.posts.now a.stops.now l.posts l.stops l.q l.k d in
    let over = stops_end a.w a.n a.limit a.posts.now a.stops.now l.posts l.stops l.q l.k d in (
      d.q-is ∙ ap length kept,
      fewer a.w a.n a.limit a.posts.now a.stops.now l.posts l.stops a.n l.q l.k d,
      d.words ∙ ap flat kept,
      d.k-is ∙ ap length over,
      d.keys ∙ over,
    )
