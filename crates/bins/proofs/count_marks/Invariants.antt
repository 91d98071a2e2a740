-- Those before `h` are counted.
use Rattle.std.proofs.Common.{◌≡◌, ◌≤◌, get_or}
use Rattle.maps.specs.Sums.{sum_to}
use Rattle.bins.proofs.count_marks.Given as goal

abbrev pub invariant-loop-h : goal.invariant-loop-h
invariant-loop-h l = (l.n ≡ sum_to (λ i. get_or l.seen i 0) l.h-index) × (l.n ≤ l.h-index)
