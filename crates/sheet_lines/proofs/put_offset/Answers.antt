-- `sheet_lines::put_offset` meets its contract. Assumes nothing.
use Rattle.std.proofs.Common.{rules}
use Rattle.sheet_text.proofs.Puts.{join, as-text}
use Rattle.sheet_lines.proofs.Offsets.{offset-is}
use Rattle.sheet_lines.proofs.put_offset.Goals as goal

pub returns-clause-put : goal.returns-clause-put
returns-clause-put c =
    as-text
    (join (join c.put_signed-a.ensures.put c.put_signed-b.ensures.put) c.put_letter.ensures.put)
    (offset-is c.args.t _ (search rules) (search rules) c.place_of.ensures)
