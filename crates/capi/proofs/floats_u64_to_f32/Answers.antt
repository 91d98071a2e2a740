-- A rounded number is no NaN. Assumes nothing.
use Rattle.std.proofs.Common.{false, not, T, sym, subst}
use lib.Ieee.{Float, binary32, of_int, is_nan}
use Rattle.floats.proofs.Numbers.{round_number}
use Rattle.capi.proofs.floats_u64_to_f32.Goals as goal

pub float_to_bits-result : goal.float_to_bits-result
unfolding of_int
float_to_bits-result c = subst (λ (x : Float). T (not (is_nan x))) (sym c.u64_to_f32.ensures) (round_number binary32 false c.args.n 1)
