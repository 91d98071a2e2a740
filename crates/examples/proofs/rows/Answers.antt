-- `examples::rows`: every row of the table is right. Assumes nothing.
use Rattle.std.proofs.Common.{refl}
use Rattle.examples.proofs.Right.{all_right}
use Rattle.examples.proofs.rows.Goals as goal

pub returns : goal.returns
returns c = (refl, all_right)
