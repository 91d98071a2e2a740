use Prim.Native.Nat.{◌*◌}
use lib.ListN.{take}
use Rattle.hough.specs.Limits.{Bins}
use Rattle.hough.proofs.Places.{keys_up}
use Rattle.hough.proofs.slid_sums.Goals as goal

pub invariant_of-stepped : goal.invariant_of-stepped
invariant_of-stepped c =
    let b : Bins (take (3 * c.args.n) c.loop-i.s) c.args.n = rw c.loop-i.invariant.0.bins c.requires.0.bins in
    record { bins = b; up = keys_up _ _ b }
