-- `sheet_card::is_whole` meets its contract. Assumes nothing.
use Rattle.std.proofs.Common.{rules}
use Rattle.sheet_card.specs.Sheet.{whole}
use Rattle.sheet_card.proofs.is_whole.Goals as goal

pub returns-then-s-lt5 : goal.returns-then-s-lt5
unfolding whole
returns-then-s-lt5 c = search rules

pub returns-then-len-s : goal.returns-then-len-s
unfolding whole
returns-then-len-s c = search rules

pub returns-else-len-s : goal.returns-else-len-s
unfolding whole
returns-else-len-s c = search rules
