-- `maps::end_from` meets its contract: the entries from a below e are under the key. Assumes nothing.
use Prim.Native.Nat.{◌+◌, ◌≤◌}
use Rattle.maps.specs.Entries.{first_at}
use Rattle.maps.proofs.end_from.Given as goal

abbrev pub invariant-loop-e : goal.invariant-loop-e
invariant-loop-e l = l.e ≤ first_at l.posts l.w l.p (l.key + 1)
