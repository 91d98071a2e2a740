-- `replay_text::put` meets its contract. Assumes nothing.
use Rattle.std.proofs.Common.{refl, arith}
use Rattle.replay_text.specs.Words.{padded_to}
use Rattle.replay_text.proofs.Holding.{put-turn}
use Rattle.replay_text.proofs.put.Goals as goal

pub loop-i-init : goal.loop-i-init
unfolding padded_to
loop-i-init c = refl

pub loop-i-preserved : goal.loop-i-preserved
loop-i-preserved c = put-turn c.loop-i.slice c.args.words.now c.loop-i.i c.padded.result (omega arith) c.loop-i.invariant c.padded.ensures
