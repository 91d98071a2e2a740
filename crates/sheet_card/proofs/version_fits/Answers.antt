-- `sheet_card::version_fits` meets its contract. Assumes nothing.
use Rattle.std.proofs.Common.{rules}
use Rattle.sheet_card.specs.Turns.{version_fits}
use Rattle.sheet_card.proofs.version_fits.Goals as goal

pub returns-then-version-eq1 : goal.returns-then-version-eq1
unfolding version_fits
returns-then-version-eq1 c = search rules

pub returns-else-version-eq1 : goal.returns-else-version-eq1
unfolding version_fits
returns-else-version-eq1 c = search rules
