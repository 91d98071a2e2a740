use mathlib.Core.Path.{◌≡◌}
use Prim.Native.Nat.{◌+◌, ◌*◌, ◌≤◌}
use lib.IntN.{pos, nat_abs}
use lib.ListN.{get_or}
use Rattle.maps.specs.Sums.{sum_to}
use Rattle.consolidate.proofs.sum_ok.Given as goal

abbrev pub invariant-loop-i : goal.invariant-loop-i
invariant-loop-i l = (l.sum ≡ sum_to (λ k. nat_abs (get_or l.s (l.stride * k + l.field) (pos 0))) l.i) × (l.sum ≤ 1000000)
