-- `sheet_card::put_turns`: with the lines that are left, the lines so far are all; the measure is what is left until the limit. Assumes nothing.
use Rattle.std.proofs.Common.{◌≡◌}
use Rattle.soundness.specs.Scan.{words}
use Rattle.sheet_kinds.specs.Kinds.{zero_scratch}
use Rattle.sheet_card.proofs.Held.{Printing}
use Rattle.sheet_card.proofs.Turns.{left}
use Rattle.sheet_card.proofs.put_turns.Given as goal

abbrev pub invariant-loop-next : goal.invariant-loop-next
invariant-loop-next l = record {
  printing :
      Printing l.card l.fn.out l.at (words l.fn.refs l.fn.postings l.fn.stopped) l.fn.start l.out l.end (words l.refs l.postings l.stopped) l.next;
  scratch : l.scratch ≡ zero_scratch;
}

abbrev pub decreases-loop-next : goal.decreases-loop-next
decreases-loop-next l = left l.next
