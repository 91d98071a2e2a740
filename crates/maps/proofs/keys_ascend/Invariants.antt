-- `maps::keys_ascend` meets its contract: of the first `i` keys none is above the next. Assumes nothing.
use Rattle.std.proofs.Common.{◌≡◌, ◌-◌, ◌≤◌, true}
use Rattle.lists.specs.Every.{every}
use Rattle.maps.proofs.Entries.{key_step}
use Rattle.maps.proofs.keys_ascend.Given as goal

abbrev pub invariant-loop-i : goal.invariant-loop-i
invariant-loop-i l = (l.i - 1 ≤ l.p - 1) × (every (l.i - 1) (key_step l.posts l.w) ≡ true)
