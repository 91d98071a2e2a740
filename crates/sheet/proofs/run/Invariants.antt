-- The scratch is zeros. The next turn begins below the limit, with no more records than bytes. The measure is what is left until the limit. Assumes nothing.
use Rattle.std.proofs.Common.{◌≡◌, ◌≤◌, length}
use Rattle.sheet_text.specs.Put.{line_most}
use Rattle.sheet_kinds.specs.Kinds.{zero_scratch}
use Rattle.sheet_card.proofs.Turns.{left, Counted}
use Rattle.sheet.proofs.run.Given as goal

abbrev pub invariant-loop-next : goal.invariant-loop-next
invariant-loop-next l = record {
  scratch : l.scratch ≡ zero_scratch;
  bytes : 8196 ≤ length l.bytes;
  line : line_most ≤ length l.line;
  counted : Counted l.next;
}

abbrev pub decreases-loop-next : goal.decreases-loop-next
decreases-loop-next l = left l.next
