-- `floats::max_f32` meets its contract. Assumes nothing.
use Rattle.std.proofs.Common.{sym, ◌∙◌}
use Rattle.floats.specs.Selection.{maximum}
use Rattle.floats.proofs.max_f32.Goals as goal

pub returns-then-is_nan : goal.returns-then-is_nan
unfolding maximum
returns-then-is_nan c = rw (sym c.is_nan.ensures.value ∙ c.if-is_nan.true)

pub returns-then-a-b : goal.returns-then-a-b
unfolding maximum
returns-then-a-b c = rw (sym c.is_nan.ensures.value ∙ c.if-is_nan.false, c.if-a-b.true)

pub returns-else-a-b : goal.returns-else-a-b
unfolding maximum
returns-else-a-b c = rw (sym c.is_nan.ensures.value ∙ c.if-is_nan.false, c.if-a-b.false)
