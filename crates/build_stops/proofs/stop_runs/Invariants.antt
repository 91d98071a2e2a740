use Rattle.std.proofs.Common.{◌-◌}
use Rattle.build_stops.proofs.Stopping.{Stopping}
use Rattle.build_stops.proofs.stop_runs.Given as goal

abbrev pub invariant-loop-i : goal.invariant-loop-i
invariant-loop-i l = Stopping l.w l.n l.limit l.fn.posts l.fn.stops l.posts l.stops l.i l.q l.k

abbrev pub decreases-loop-i : goal.decreases-loop-i
decreases-loop-i l = l.n - l.i
