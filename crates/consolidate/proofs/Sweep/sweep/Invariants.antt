use Prim.Native.Nat.{◌-◌}
use Rattle.maps.specs.Bins.{votes, place}
use Rattle.consolidate.specs.Sweeping.{Swept}
use Rattle.consolidate.proofs.Sweep.sweep.Given as goal

abbrev pub invariant-loop-st : goal.invariant-loop-st
invariant-loop-st l = Swept (place l.self.bins.s.now l.self.bins.low) (votes l.self.bins.s.now) l.self.bins.n l.self.tol l.self.width l.st

abbrev pub decreases-loop-st : goal.decreases-loop-st
decreases-loop-st l = l.self.width - l.st.at
