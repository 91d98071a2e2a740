-- `sheet_kinds::good_length` meets its contract. Assumes nothing.
use Rattle.std.proofs.Common.{sym, ap, ◌∙◌}
use Rattle.sheet_kinds.specs.Kinds.{fits, good_length}
use Rattle.sheet_kinds.specs.Bytes.{row_of}
use Rattle.sheet_kinds.proofs.Lengths.{good-by}
use Rattle.sheet_kinds.proofs.good_length.Goals as goal

pub returns-in-Ok : goal.returns-in-Ok
returns-in-Ok c = c.fits.ensures ∙ good-by c.args.len c.args.byte (row_of c.in-Ok.kind) c.in-Ok.ensures

pub returns-in-Err : goal.returns-in-Err
unfolding good_length
returns-in-Err c = sym (ap (fits c.args.len) c.in-Err.ensures.1)
