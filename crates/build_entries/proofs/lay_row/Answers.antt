-- `build_entries::lay_row` meets its contract. Assumes nothing.
use Rattle.std.proofs.Common.{ℕ, List, ◌+◌, ◌*◌, take, ap, ◌∙◌}
use Rattle.model.specs.Words.{head_width, row_width}
use Rattle.rows.specs.References.{entry_put}
use Rattle.build_entries.proofs.Rows.{row_laid}
use Rattle.build_entries.proofs.lay_row.Goals as goal

pub returns : goal.returns
returns c =
    let a = c.args in
    ap (take (head_width + row_width * (a.i + 1))) (c.put_entry.ensures ∙ ap (λ (l : List ℕ). entry_put l a.i 0) c.put_row.ensures)
    ∙ row_laid a.refs.now a.i a.row.rate a.row.rmax a.row.set c.requires
