-- The words before `word` are counted.
use Rattle.std.proofs.Common.{◌≡◌, ◌≤◌, take}
use Rattle.maps.specs.Lists.{count_if}
use Rattle.main_votes.specs.Main.{has_lead}
use Rattle.main_votes.proofs.count_lead.Given as goal

abbrev pub invariant-loop-word : goal.invariant-loop-word
invariant-loop-word l = (l.n ≤ l.word-index) × (l.n ≡ count_if (has_lead l.lead.low l.lead.bits l.x) (take l.word-index l.s))
