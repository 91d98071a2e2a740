use mathlib.Core.Path.{◌≡◌}
use native.Mathlib.Omega.{arith}
use Rattle.hough.proofs.Walking.{peak-found}
use Rattle.hough.proofs.Sums.peak.Goals as goal

pub returns-clause-value : goal.returns-clause-value
returns-clause-value c =
    let z : c.loop-i.i ≡ c.args.self.n = omega arith in
    (peak-found _ _ _ c.loop-i.best (rw z at c.loop-i.invariant) c.args.self.roomy.bins).0

pub returns-clause-at_lt_n : goal.returns-clause-at_lt_n
returns-clause-at_lt_n c =
    let z : c.loop-i.i ≡ c.args.self.n = omega arith in
    (peak-found _ _ _ c.loop-i.best (rw z at c.loop-i.invariant) c.args.self.roomy.bins).1
