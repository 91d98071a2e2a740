-- `soundness::Store::sound_within` meets its contract. Assumes nothing.
use Rattle.std.proofs.Common.{sym, ◌∙◌}
use Rattle.lists.proofs.Tests.{and_left}
use Rattle.soundness.specs.Scan.{postings_sound}
use Rattle.soundness.proofs.Store.sound_within.Goals.{then-are_sound, else-are_sound}
use Rattle.soundness.proofs.Store.sound_within.Goals as goal

pub stops_sound-requires : goal.stops_sound-requires
unfolding postings_sound
stops_sound-requires c = (
  c.requires.stopped,
  elim c.if-are_sound.branch [
    | then-are_sound w ↦ and_left _ _ (and_left _ _ (sym w.are_sound-then-are_sound.ensures ∙ (sym w.value-is ∙ c.if-are_sound-2.true)))
    | else-are_sound w ↦ cc
  ],
)
