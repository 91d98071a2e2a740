use Rattle.consolidate.proofs.Peaks.{swept_none}
use Rattle.consolidate.proofs.Sweep.sweep.Goals as goal

pub loop-st-init : goal.loop-st-init
loop-st-init c = swept_none _ _ _ _ _
