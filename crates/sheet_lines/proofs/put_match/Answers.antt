-- `sheet_lines::put_match` meets its contract. Assumes nothing.
use Rattle.sheet_text.proofs.Puts.{join}
use Rattle.sheet_lines.specs.Lines.{match_text}
use Rattle.sheet_lines.proofs.put_match.Goals as goal

pub returns-clause-put : goal.returns-clause-put
unfolding match_text
returns-clause-put c =
    let id = join c.put_byte-a.ensures (rw c.from.ensures at c.put_number-b.ensures.put) in
    let votes = join id (rw c.from-2.ensures at c.put_number-c.ensures.put) in
    let score = join votes c.put_bits-d.ensures.put in
    let prominence = join score c.put_bits-e.ensures.put in
    join prominence c.put_offset.ensures.put
