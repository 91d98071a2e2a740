-- `maps::first_from` meets its contract: the first entry at the key does not stand before `lo`. Assumes nothing.
use Prim.Native.Nat.{◌-◌, ◌≤◌}
use Rattle.maps.specs.Entries.{first_at}
use Rattle.maps.proofs.first_from.Given as goal

abbrev pub invariant-loop-reach : goal.invariant-loop-reach
invariant-loop-reach l = (l.lo ≤ first_at l.posts l.w l.p l.key) × (first_at l.posts l.w l.p l.key ≤ l.p)

abbrev pub decreases-loop-reach : goal.decreases-loop-reach
decreases-loop-reach l = l.p - l.lo
