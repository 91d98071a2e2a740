-- `rows::row_max` meets its contract. Assumes nothing.
use Rattle.rows.proofs.RowWords.{wang-max}
use Rattle.rows.proofs.row_max.Goals as goal

pub returns-then-w-eq3 : goal.returns-then-w-eq3
returns-then-w-eq3 c = wang-max c.args.w c.args.hashes.now _ c.if-w-eq3.true c.largest_anchor.ensures
