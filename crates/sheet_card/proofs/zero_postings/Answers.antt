-- `sheet_card::zero_postings` meets its contract. Assumes nothing.
use Rattle.std.proofs.Common.{refl}
use Rattle.sheet_card.specs.Sheet.{zeroed, empty_store}
use Rattle.sheet_card.proofs.zero_postings.Goals as goal

pub returns : goal.returns
unfolding zeroed empty_store
returns c = refl
