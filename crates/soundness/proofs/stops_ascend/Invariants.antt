-- `soundness::stops_ascend` meets its contract. Assumes nothing.
use Rattle.std.proofs.Common.{◌≡◌, ◌-◌, ◌≤◌, true, length}
use Rattle.lists.specs.Every.{every}
use Rattle.model.specs.Soundness.{stopped_step}
use Rattle.soundness.proofs.stops_ascend.Given as goal

abbrev pub invariant-loop-i : goal.invariant-loop-i
invariant-loop-i l = (every (l.i - 1) (stopped_step l.stops) ≡ true) × (l.i - 1 ≤ length l.stops - 1)
