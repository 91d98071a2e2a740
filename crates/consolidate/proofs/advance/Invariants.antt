use Rattle.consolidate.proofs.Sliding.{Passing}
use Rattle.consolidate.proofs.advance.Given as goal

abbrev pub invariant-loop-i : goal.invariant-loop-i
invariant-loop-i g l = Passing (g.B.Ascending.keys l.b) (g.B.Ascending.counts l.b) (g.B.Ascending.number l.b) l.from l.below l.i l.sum
