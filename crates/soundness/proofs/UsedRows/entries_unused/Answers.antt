-- `soundness::UsedRows::entries_unused` meets its contract. Assumes nothing.
use Rattle.std.proofs.Common.{◌≡◌, ◌+◌, ◌-◌, sym, ◌∙◌, arith}
use Rattle.lists.proofs.Every.{every-none, every_more, every-fail}
use Rattle.soundness.proofs.Rows.{unused_yes, unused_no}
use Rattle.soundness.proofs.UsedRows.entries_unused.Goals as goal

pub loop-j-init : goal.loop-j-init
loop-j-init c =
    let e : c.args.v - c.args.v ≡ 0 = omega arith in
    rw e (every-none _)

pub returns-then-word-ne0 : goal.returns-then-word-ne0
returns-then-word-ne0 c =
    sym (every-fail _ _ (c.loop-j.j - c.args.v) (omega arith) (unused_no _ _ _ c.loop-j.auto.j (λ e. c.if-word-ne0.true (c.word.ensures ∙ e))))

pub loop-j-preserved : goal.loop-j-preserved
loop-j-preserved c =
    let e : c.loop-j.j + 1 - c.args.v ≡ c.loop-j.j - c.args.v + 1 = omega arith in
    rw e (every_more _ _ c.loop-j.invariant (unused_yes _ _ _ c.loop-j.auto.j (sym c.word.ensures ∙ c.if-word-ne0.false)))
