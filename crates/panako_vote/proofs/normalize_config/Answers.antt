-- The definition makes the same test.
use Rattle.std.proofs.Common.{sym, ◌∙◌}
use lib.Ieee.{of_bits}
use Rattle.panako_vote.specs.Settings.{normalised}
use Rattle.panako_vote.proofs.normalize_config.Goals as goal

pub returns-then-is_ascending : goal.returns-then-is_ascending
unfolding normalised
returns-then-is_ascending c = rw (sym c.is_ascending.ensures ∙ c.if-is_ascending.true, c.bins_or_default.ensures)

pub returns : goal.returns
unfolding normalised of_bits
returns c = rw (sym c.is_ascending.ensures ∙ c.if-is_ascending.false, c.bins_or_default.ensures)
