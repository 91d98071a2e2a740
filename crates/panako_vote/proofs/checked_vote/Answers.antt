-- The steps of the definition, each by a call.
use Rattle.std.proofs.Common.{sym, ap, ◌∙◌, subst}
use Rattle.panako_vote.specs.Settings.{within_limits, Accepted}
use Rattle.panako_vote.specs.Votes.{checked_vote}
use Rattle.panako_vote.proofs.Limits.{accepted}
use Rattle.panako_vote.proofs.checked_vote.Goals as goal

pub pair_vote-requires : goal.pair_vote-requires
pair_vote-requires c =
    c.scale_grid.ensures.limited
    (subst Accepted (sym c.normalize_config-c.ensures)
    (accepted c.args.cfg (sym (ap within_limits c.normalize_config-c.ensures) ∙ sym c.within_limits.ensures ∙ c.if-within_limits.true)))

pub returns-then-within_limits : goal.returns-then-within_limits
unfolding checked_vote
returns-then-within_limits c =
    rw (c.pair_vote.ensures.value, c.scale_grid.ensures.value, c.normalize_config-c.ensures, sym (ap within_limits c.normalize_config-c.ensures) ∙ sym c.within_limits.ensures ∙ c.if-within_limits.true)

pub returns-else-within_limits : goal.returns-else-within_limits
unfolding checked_vote
returns-else-within_limits c = rw (sym (ap within_limits c.normalize_config-c.ensures) ∙ sym c.within_limits.ensures ∙ c.if-within_limits.false)
