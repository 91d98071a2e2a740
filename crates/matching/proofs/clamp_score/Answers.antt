-- `matching::clamp_score` meets its contract. Assumes nothing.
use Rattle.std.proofs.Common.{◌≡◌, true, false, sym, ◌∙◌}
use lib.Ieee.{is_nan, le, of_bits}
use Rattle.matching.specs.Scores.{clamp_score}
use Rattle.matching.proofs.clamp_score.Goals as goal

pub returns-then-is_nan : goal.returns-then-is_nan
unfolding clamp_score of_bits
returns-then-is_nan c = let e : is_nan c.args.s ≡ true = sym c.is_nan.ensures.value ∙ c.if-is_nan.true in rw e

pub clamp-requires : goal.clamp-requires
unfolding of_bits le
clamp-requires c = tt

pub returns-else-is_nan : goal.returns-else-is_nan
unfolding clamp_score of_bits
returns-else-is_nan c = let e : is_nan c.args.s ≡ false = sym c.is_nan.ensures.value ∙ c.if-is_nan.false in rw e c.clamp.ensures.value
