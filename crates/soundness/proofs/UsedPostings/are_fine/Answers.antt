-- `soundness::UsedPostings::are_fine` meets its contract. Assumes nothing.
use Rattle.std.proofs.Common.{sym, ◌∙◌}
use Rattle.lists.proofs.Every.{every-none, every_more}
use Rattle.soundness.proofs.Postings.{ascended-none, ascended-more, pass-descends, pass-fails}
use Rattle.soundness.proofs.UsedPostings.are_fine.Goals.{then-key-last-via-then-key-last, then-key-last-via-else-key-last+then-not-is_fine}
use Rattle.soundness.proofs.UsedPostings.are_fine.Goals as goal

pub loop-i-init : goal.loop-i-init
loop-i-init c = (ascended-none _ _, every-none _)

pub returns-then-key-last : goal.returns-then-key-last
returns-then-key-last c = elim c.then-key-last.branch [
  | then-key-last-via-then-key-last w ↦ sym (pass-descends _ _ _ _ _ _ _ c.loop-i.invariant.0 c.loop-i-test.true w.if-key-last.true)
  | then-key-last-via-else-key-last+then-not-is_fine w ↦ sym (pass-fails _ _ _ _ _ _ _ c.loop-i.invariant.0 c.loop-i-test.true (sym w.is_fine.ensures ∙ w.if-not-is_fine.true))
]

pub loop-i-preserved : goal.loop-i-preserved
loop-i-preserved c = (
  ascended-more _ _ _ _ c.loop-i.invariant.0 c.if-key-last.false,
  every_more _ _ c.loop-i.invariant.1 (sym c.is_fine.ensures ∙ c.if-not-is_fine.false),
)
