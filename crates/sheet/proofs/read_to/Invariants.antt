-- The bytes before `start` are kept; the measure is what is still asked for. Assumes nothing.
use Rattle.std.proofs.Common.{◌≡◌, ◌-◌, ◌≤◌, take}
use Rattle.sheet.proofs.read_to.Given as goal

abbrev pub invariant-loop-at : goal.invariant-loop-at
invariant-loop-at l = record { from : l.start ≤ l.at; to : l.at ≤ l.end; kept : take l.start l.bytes ≡ take l.start l.fn.bytes }

abbrev pub decreases-loop-at : goal.decreases-loop-at
decreases-loop-at l = l.end - l.at
