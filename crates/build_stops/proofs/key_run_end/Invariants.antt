use Rattle.std.proofs.Common.{◌≡◌, ℕ, ◌≤◌, ◌<◌}
use Rattle.lists.specs.Entries.{key_at}
use Rattle.build_stops.proofs.key_run_end.Given as goal

abbrev pub invariant-loop-e : goal.invariant-loop-e
invariant-loop-e l = (t : ℕ) → l.i ≤ t → t < l.e → key_at l.posts l.w t ≡ key_at l.posts l.w l.i
