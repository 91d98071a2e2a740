-- `slices::copy_words` meets its contract. Assumes nothing.
use Rattle.std.proofs.Common.{◌≡◌, arith}
use Rattle.slices.proofs.Pasted.{pasted-none, pasted-more}
use Rattle.slices.proofs.copy_words.Goals as goal

pub loop-j-init : goal.loop-j-init
loop-j-init c = pasted-none _ _ _ _

pub loop-j-preserved : goal.loop-j-preserved
loop-j-preserved c = rw c.loop-j.invariant (pasted-more c.args.dst.now c.args.to c.args.src.now c.args.from c.args.n c.requires.0 c.requires.1 c.loop-j.j (omega arith))

pub returns : goal.returns
returns c = let e : c.loop-j.j ≡ c.args.n = omega arith in rw e at c.loop-j.invariant
