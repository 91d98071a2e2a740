use Rattle.std.proofs.Common.{◌∙◌}
use Rattle.floats.proofs.Library.{rounded-narrow}
use Rattle.floats.proofs.f64_to_f32.Goals as goal

pub returns : goal.returns
returns c = c.nearest_f64_to_f32_with_nan.ensures ∙ rounded-narrow c.args.x
