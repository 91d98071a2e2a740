-- `floats::nearest_whole` meets its contract: `proofs/Whole.antt` has the sum with 2^52. Assumes nothing.
use Rattle.floats.proofs.Whole.{sum_number, number_is, float_is}
use Rattle.floats.proofs.nearest_whole.Goals as goal

pub float_to_bits-result : goal.float_to_bits-result
float_to_bits-result c = sum_number c.args.x c.requires.fact_1 c.requires.fact_2

pub returns-clause-n_value : goal.returns-clause-n_value
returns-clause-n_value c = number_is c.args.x c.requires.fact_1 c.requires.fact_2

pub returns-clause-float_value : goal.returns-clause-float_value
returns-clause-float_value c = float_is c.args.x c.requires.fact_1 c.requires.fact_2
