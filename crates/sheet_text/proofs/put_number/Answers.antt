-- `sheet_text::put_number` meets its contract: a number has at most 20 digits. Assumes nothing.
use Rattle.std.proofs.Common.{arith}
use Rattle.sheet_text.proofs.Decimals.{length-u64}
use Rattle.sheet_text.proofs.put_number.Goals as goal

pub put_digits-requires : goal.put_digits-requires
put_digits-requires c = let d = length-u64 c.args.n (omega arith) in omega (arith, d)

pub returns-clause-upper_bound : goal.returns-clause-upper_bound
returns-clause-upper_bound c = let d = length-u64 c.args.n (omega arith) in omega (arith, d)
