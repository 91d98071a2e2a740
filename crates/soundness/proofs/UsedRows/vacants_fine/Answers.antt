-- `soundness::UsedRows::vacants_fine` meets its contract. Assumes nothing.
use Rattle.std.proofs.Common.{sym, ◌∙◌, arith, false, true}
use Rattle.lists.proofs.Every.{every-none, every_more, every-fail}
use Rattle.soundness.proofs.Vacant.{marked-none, marked-free, marked-taken, marked_more, vacant-out, vacant-live, vacant-named}
use Rattle.soundness.proofs.UsedRows.vacants_fine.Goals.{then-self-x-via-then-self-x, then-self-x-via-else-self-x+then-word-ne0, then-self-x-via-else-self-x+else-word-ne0+then-marks-x}
use Rattle.soundness.proofs.UsedRows.vacants_fine.Goals as goal

pub loop-j-init : goal.loop-j-init
loop-j-init c = (every-none _, marked-none _)

pub returns-then-self-x : goal.returns-then-self-x
returns-then-self-x c = elim c.then-self-x.branch [
  | then-self-x-via-then-self-x w ↦
      sym (every-fail _ _ c.loop-j.j c.loop-j-test.true (vacant-out _ _ _ c.word-x.ensures w.if-self-x.true))
  | then-self-x-via-else-self-x+then-word-ne0 w ↦
      sym (every-fail _ _ c.loop-j.j c.loop-j-test.true (vacant-live _ _ _ c.word-x.ensures w.if-self-x.false (λ e. w.if-word-ne0.true (w.word.ensures ∙ e))))
  | then-self-x-via-else-self-x+else-word-ne0+then-marks-x w ↦
      sym (every-fail _ _ c.loop-j.j c.loop-j-test.true (vacant-named _ _ _ c.word-x.ensures false w.if-self-x.false (sym w.word.ensures ∙ w.if-word-ne0.false)
      (marked-taken _ c.loop-j.marks _ _ c.loop-j.invariant.1 (omega arith) w.if-marks-x.true)))
]

pub loop-j-preserved : goal.loop-j-preserved
loop-j-preserved c = (
  every_more _ _ c.loop-j.invariant.0 (vacant-named _ _ _ c.word-x.ensures true c.if-self-x.false (sym c.word.ensures ∙ c.if-word-ne0.false)
      (marked-free _ c.loop-j.marks _ _ c.loop-j.invariant.1 (omega arith) c.if-marks-x.false)),
  marked_more _ c.loop-j.marks _ _ c.loop-j.invariant.1 (omega arith) (sym c.word-x.ensures),
)
