-- `matching::is_better` meets its contract. Assumes nothing.
use Rattle.matching.proofs.Ranking.{less-is-better}
use Rattle.matching.proofs.is_better.Goals as goal

pub returns : goal.returns
returns c = let h = less-is-better c.args.a c.args.b in cc
