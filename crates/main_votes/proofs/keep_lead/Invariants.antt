-- Of the first i words n are kept.
use Rattle.main_votes.specs.Main.{has_lead}
use Rattle.main_votes.proofs.Kept.{Kept}
use Rattle.main_votes.proofs.keep_lead.Given as goal

abbrev pub invariant-loop-i : goal.invariant-loop-i
invariant-loop-i l = Kept (has_lead l.lead.low l.lead.bits l.x) l.fn.s l.s l.n l.i
