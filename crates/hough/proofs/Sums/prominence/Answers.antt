use lib.Ieee.{of_bits}
use Rattle.hough.specs.Hough.{prominence}
use Rattle.hough.proofs.Sums.prominence.Goals as goal

pub returns : goal.returns
unfolding prominence of_bits
returns c = rw (c.mean.ensures, c.u64_to_f32.ensures, c.background-b.ensures.0, c.background-b.ensures.1)
