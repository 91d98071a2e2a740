-- `proofs/Pairs.antt` has the tests.
use Rattle.panako_vote.proofs.Pairs.{counts}
use Rattle.panako_vote.proofs.has_vote.Goals as goal

pub returns : goal.returns
returns c =
    let a = c.args in
    rw c.pair_scale-s.ensures (counts a.g a.q.anchor a.q.end a.r.anchor a.r.end)
