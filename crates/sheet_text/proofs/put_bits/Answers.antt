-- `sheet_text::put_bits` meets its contract. Assumes nothing.
use Rattle.std.proofs.Common.{arith}
use Rattle.sheet_text.proofs.Decimals.{length-hex}
use Rattle.sheet_text.proofs.put_bits.Goals as goal

pub returns-clause-upper_bound : goal.returns-clause-upper_bound
returns-clause-upper_bound c = omega (arith, length-hex 8 c.f32_to_bits-word.result)
