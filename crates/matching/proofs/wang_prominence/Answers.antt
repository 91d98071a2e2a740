use lib.Ieee.{of_bits}
use Rattle.matching.specs.Scores.{wang_prominence}
use Rattle.matching.proofs.wang_prominence.Goals as goal

pub returns : goal.returns
unfolding wang_prominence of_bits
returns c = rw (c.u64_to_f32-2.ensures, c.max_f32-others.ensures, c.u64_to_f32.ensures, c.u64_to_f32-rest.ensures)
