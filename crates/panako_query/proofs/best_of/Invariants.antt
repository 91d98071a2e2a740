-- `panako_query::best_of` meets its contract: at the loop's test the candidates with votes before word i have been judged. Assumes nothing.
use Prim.Native.Nat.{◌-◌}
use Rattle.query_rank.specs.Answers.{best_so_far}
use Rattle.panako_query.proofs.Turns.{Walked}
use Rattle.panako_query.proofs.best_of.Given as goal

abbrev pub invariant-loop-i : goal.invariant-loop-i
invariant-loop-i l = Walked l.refs l.q l.initial.s l.s l.v (best_so_far l.best) l.i

abbrev pub decreases-loop-i : goal.decreases-loop-i
decreases-loop-i l = l.v - l.i
