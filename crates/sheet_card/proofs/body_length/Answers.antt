-- `sheet_card::body_length` meets its contract. Assumes nothing.
use Rattle.std.proofs.Common.{rules}
use Rattle.sheet_card.specs.Turns.{body_length}
use Rattle.sheet_card.proofs.body_length.Goals as goal

pub returns-then-head-lt4-clause-value : goal.returns-then-head-lt4-clause-value
unfolding body_length
returns-then-head-lt4-clause-value c = search rules

pub returns-then-len-le8192-clause-value : goal.returns-then-len-le8192-clause-value
unfolding body_length
returns-then-len-le8192-clause-value c = search rules

pub returns-else-len-le8192-clause-value : goal.returns-else-len-le8192-clause-value
unfolding body_length
returns-else-len-le8192-clause-value c = search rules
