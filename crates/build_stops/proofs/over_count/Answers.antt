-- `build_stops::over_count` meets its contract. Assumes nothing.
use Rattle.std.proofs.Common.{◌≡◌, List, ◌++◌, map, ℕ, ◌+◌, ◌-◌, ◌≤◌, length, take, arith, refl, ap, ◌∙◌}
use mathlib.Core.List.{map-append}
use lib.Seq.{length-take-le}
use Rattle.lists.specs.Lists.{keep}
use Rattle.build_ranges.specs.Codes.{in_order, top, within, Fit}
use Rattle.build_ranges.proofs.Widths.{next-width-in}
use Rattle.build_stops.specs.Over.{key_in}
use Rattle.build_stops.proofs.Over.{counted_none}
use Rattle.build_stops.proofs.Walk.{sum-few, sum-hashes, batches-end, done, done_more, done-length, done-few, done_none, done_all, sorted-keys}
use Rattle.build_ranges.proofs.Props.{fitting}
use Rattle.build_stops.proofs.over_count.Goals as goal

module _ (words : List ℕ) (v : ℕ) (lengths : List ℕ) (lo hi n : ℕ) (up : lo ≤ hi) (many : n ≡ length (keep (within lo hi) (in_order words v lengths))) where
  -- with a batch's codes
  further : length (done words v lengths hi) ≡ length (done words v lengths lo) + n
  further = done-length words v lengths lo hi n up many

  keys : map key_in (done words v lengths hi) ≡ map key_in (done words v lengths lo) ++ map key_in (keep (within lo hi) (in_order words v lengths))
  keys = ap (map key_in) (done_more words v lengths lo hi up) ∙ map-append key_in (done words v lengths lo) (keep (within lo hi) (in_order words v lengths))

  few : Fit words v lengths → length (done words v lengths lo) + n ≤ 33554432
  few fit = omega (arith, further, done-few words v lengths hi, sum-few words v lengths fit)

pub loop-turn-init : goal.loop-turn-init
loop-turn-init c =
    let a = c.args in
    let w = next-width-in top c.min-m.result in (
      refl,
      omega arith,
      rw c.next_width-width.ensures w.0,
      rw c.next_width-width.ensures w.1,
      omega arith,
      omega arith,
      rw (done_none a.arrivals.hashes.now (a.arrivals.width - 1) a.arrivals.lengths.now) (counted_none a.limit 0x1_0000_0000),
      λ _. omega arith,
    )

pub count_runs-st-requires : goal.count_runs-st-requires
count_runs-st-requires c =
    let a = c.args in
    let b = c.batch-g in
    let n : length (take b.result.n b.new.buf) ≡ b.result.n = length-take-le b.result.n b.new.buf (omega (arith, b.auto.buf, b.ensures.2)) in
    let f = few a.arrivals.hashes.now (a.arrivals.width - 1) a.arrivals.lengths.now c.loop-turn.lo b.result.hi b.result.n (omega (arith, b.ensures.0)) b.ensures.4.many (fitting c.args.arrivals.fit) in
    (c.requires, omega (arith, f, n), omega (arith, f, n))

pub loop-turn-preserved : goal.loop-turn-preserved
loop-turn-preserved c =
    let a = c.args in
    let l = c.loop-turn in
    let b = c.batch-g in
    let r = c.count_runs-st in
    let w = next-width-in (b.result.hi - l.lo) b.result.n in
    let n : length (take b.result.n b.new.buf) ≡ b.result.n = length-take-le b.result.n b.new.buf (omega (arith, b.auto.buf, b.ensures.2)) in
    let f = further a.arrivals.hashes.now (a.arrivals.width - 1) a.arrivals.lengths.now l.lo b.result.hi b.result.n (omega (arith, b.ensures.0)) b.ensures.4.many in
    let k = keys a.arrivals.hashes.now (a.arrivals.width - 1) a.arrivals.lengths.now l.lo b.result.hi b.result.n (omega (arith, b.ensures.0)) b.ensures.4.many in (
      b.auto.buf ∙ l.invariant.0,
      b.ensures.1,
      rw c.next_width-width-in-loop-turn.ensures w.0,
      rw c.next_width-width-in-loop-turn.ensures w.1,
      omega (arith, f, n, r.ensures.0),
      omega (arith, f, n, r.ensures.1),
      rw k (r.ensures.2 (map key_in (done a.arrivals.hashes.now (a.arrivals.width - 1) a.arrivals.lengths.now l.lo)) (keep (within l.lo b.result.hi) (in_order a.arrivals.hashes.now (a.arrivals.width - 1) a.arrivals.lengths.now)) b.ensures.4.held
          (rw k at (sorted-keys a.arrivals.hashes.now (a.arrivals.width - 1) a.arrivals.lengths.now b.result.hi)) l.invariant.6),
      λ low. omega (arith, b.ensures.3 low, l.invariant.7 c.if-lo-ge-TOP.false, f),
    )

pub returns-after-loop-turn : goal.returns-after-loop-turn
returns-after-loop-turn c =
    let a = c.args in
    let l = c.loop-turn in
    let all = length (done a.arrivals.hashes.now (a.arrivals.width - 1) a.arrivals.lengths.now l.lo) in
    let end = batches-end c.min-m.result l.turn l.lo all (omega (arith, c.most_batches-turn-end.ensures)) l.invariant.7
    (omega (arith, c.min-m.ensures, done-few a.arrivals.hashes.now (a.arrivals.width - 1) a.arrivals.lengths.now l.lo, sum-hashes a.arrivals.hashes.now (a.arrivals.width - 1) a.arrivals.lengths.now (fitting c.args.arrivals.fit), sum-few a.arrivals.hashes.now (a.arrivals.width - 1) a.arrivals.lengths.now (fitting c.args.arrivals.fit))) in
    l.invariant.6.many_is ∙ rw (done_all a.arrivals.hashes.now (a.arrivals.width - 1) a.arrivals.lengths.now (fitting c.args.arrivals.fit) l.lo end)

pub returns-then-lo-ge-TOP : goal.returns-then-lo-ge-TOP
returns-then-lo-ge-TOP c =
    c.loop-turn.invariant.6.many_is ∙ rw (done_all c.args.arrivals.hashes.now (c.args.arrivals.width - 1) c.args.arrivals.lengths.now (fitting c.args.arrivals.fit) c.loop-turn.lo c.if-lo-ge-TOP.true)
