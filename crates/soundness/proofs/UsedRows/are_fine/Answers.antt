-- `soundness::UsedRows::are_fine` meets its contract. Assumes nothing.
use Rattle.std.proofs.Common.{sym}
use Rattle.lists.proofs.Every.{every-fail}
use Rattle.soundness.proofs.Rows.{row_fine_lem}
use Rattle.soundness.proofs.UsedRows.are_fine.Goals as goal

pub returns-then-not-row_test : goal.returns-then-not-row_test
returns-then-not-row_test c =
    let e = row_fine_lem c.args.w c.args.self.refs.now c.loop-j.j in
    sym (every-fail _ _ c.loop-j.j c.loop-j-test.true cc)
