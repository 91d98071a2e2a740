use mathlib.Core.Path.{◌≡◌}
use native.Mathlib.Omega.{arith}
use Rattle.hough.specs.Hough.{far_sum, far_count}
use Rattle.hough.proofs.Places.{keys_up}
use Rattle.hough.proofs.Walking.{behind-none, behind_more}
use Rattle.hough.proofs.Sums.background.Goals as goal

pub loop-i-init : goal.loop-i-init
loop-i-init c = behind-none _ _ _ _

pub invariant_of-bins : goal.invariant_of-bins
invariant_of-bins c = let b = c.args.self.roomy.bins in record { bins = b; up = keys_up _ _ b }

pub loop-i-preserved : goal.loop-i-preserved
loop-i-preserved c = behind_more _ _ _ _ c.loop-i.i c.loop-i.b c.with-b.result c.is_far.result c.at.result c.with-b.ensures c.is_far.ensures c.at.ensures.0 c.at.ensures.1 c.loop-i.invariant

pub returns : goal.returns
unfolding far_sum far_count
returns c =
    let z : c.loop-i.i ≡ c.args.self.n = omega arith in
    (rw z at c.loop-i.invariant.sum, rw z at c.loop-i.invariant.count)
