use Rattle.std.proofs.Common.{◌≡◌, ◌+◌, length, ◌-◌, ◌/◌, ◌∙◌}
use native.Mathlib.Omega.{arith}
use lib.ListN.{length-take, length-drop}
use Rattle.sorting.proofs.Halves.{steps-slice, already-sorted, part-sorted, halves-sorted, place-done, room-done}
use Rattle.sorting.proofs.+sort_in_place_sort_to_room.Goals as goal

pub sort_in_place-returns-then-is_sorted : goal.sort_in_place-returns-then-is_sorted
sort_in_place-returns-then-is_sorted t c =
    let o = c.args in
    already-sorted o.w.now o.n o.lo o.hi (steps-slice o.w.now o.lo o.hi (omega arith) c.if-is_sorted.ensures.cases)

pub sort_in_place-returns-then-hi-lo-lt-FEW_WORDS :
    goal.sort_in_place-returns-then-hi-lo-lt-FEW_WORDS
sort_in_place-returns-then-hi-lo-lt-FEW_WORDS t c =
    let o = c.args in
    let s = c.insertion_sort in
    let l : length s.new.a ≡ o.hi - o.lo = s.auto.a ∙ simp (length-take, length-drop) (omega arith) in
    part-sorted o.w.now s.new.a o.n o.lo o.hi (omega arith) (omega arith) l s.ensures

pub sort_in_place-merge-requires : goal.sort_in_place-merge-requires
sort_in_place-merge-requires t c =
    let o = c.args in
    let one = c.sort_to_room in
    let two = c.sort_to_room-2 in
    let m = o.lo + (o.hi - o.lo) / 2 in
    let s = halves-sorted o.w.now one.new.w two.new.w o.n o.lo m o.hi (o.n + o.lo) (o.n + m) (o.n + o.hi) one.auto.w two.auto.w
    (omega arith) (omega arith) (omega arith) (omega arith) one.ensures two.ensures (omega arith) (λ t a b. two.ensures.between t (omega arith) (omega arith)) in
    (omega arith, s.0, s.1)

pub sort_in_place-returns : goal.sort_in_place-returns
sort_in_place-returns t c =
    let o = c.args in
    let one = c.sort_to_room in
    let two = c.sort_to_room-2 in
    let m = o.lo + (o.hi - o.lo) / 2 in
    place-done o.w.now one.new.w two.new.w c.merge.new.w o.n o.lo m o.hi one.auto.w two.auto.w
    (omega arith) (omega arith) (omega arith) (omega arith) one.ensures two.ensures c.merge.ensures

pub sort_to_room-merge-requires : goal.sort_to_room-merge-requires
sort_to_room-merge-requires t c =
    let o = c.args in
    let one = c.sort_in_place in
    let two = c.sort_in_place-2 in
    let m = o.lo + (o.hi - o.lo) / 2 in
    let s = halves-sorted o.w.now one.new.w two.new.w o.n o.lo m o.hi o.lo m o.hi one.auto.w two.auto.w
    (omega arith) (omega arith) (omega arith) (omega arith) one.ensures two.ensures (omega arith) (λ t a b. two.ensures.before t b) in
    (omega arith, s.0, s.1)

pub sort_to_room-returns : goal.sort_to_room-returns
sort_to_room-returns t c =
    let o = c.args in
    let one = c.sort_in_place in
    let two = c.sort_in_place-2 in
    let m = o.lo + (o.hi - o.lo) / 2 in
    room-done o.w.now one.new.w two.new.w c.merge.new.w o.n o.lo m o.hi one.auto.w two.auto.w
    (omega arith) (omega arith) (omega arith) (omega arith) one.ensures two.ensures c.merge.ensures
