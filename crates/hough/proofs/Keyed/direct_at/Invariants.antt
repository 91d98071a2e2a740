use mathlib.Core.Path.{◌≡◌}
use Rattle.hough.specs.Keys.{count_at}
use Rattle.hough.proofs.Keyed.direct_at.Given as goal

abbrev pub invariant-loop-j : goal.invariant-loop-j
invariant-loop-j l = l.sum ≡ count_at l.self.s.now l.j l.k l.x
