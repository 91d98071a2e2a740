-- `postings::retain` meets its contract. Assumes nothing.
use Rattle.std.proofs.Common.{◌≡◌, ◌-◌, ◌≤◌, ◌<◌, length}
use Rattle.postings.specs.Retain.{behind_listed}
use Rattle.postings.proofs.Compact.{Done}
use Rattle.postings.proofs.retain.Given as goal

abbrev pub invariant-loop-i : goal.invariant-loop-i
invariant-loop-i l = (l.i ≤ l.p) × Done l.w l.f l.xs l.initial.posts l.posts l.i l.q × (l.k ≤ l.i) × (l.k < length l.list → l.i ≡ behind_listed l.list l.k)

abbrev pub decreases-loop-i : goal.decreases-loop-i
decreases-loop-i l = l.p - l.i
