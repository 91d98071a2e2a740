-- The number of bins, and that they stand there.
use Rattle.panako_judge.proofs.Words.{few-number, few-counted}
use Rattle.panako_judge.proofs.count_few.Goals as goal

pub returns-clause-value : goal.returns-clause-value
returns-clause-value c = few-number c.args.s.now c.count_few.new.s c.args.g c.args.at c.count_few.result c.requires.0 c.requires.1 c.count_few.ensures.value c.count_few.ensures.s_after

pub returns-clause-binned : goal.returns-clause-binned
returns-clause-binned c = (few-counted c.args.s.now c.count_few.new.s c.args.g c.args.at c.count_few.result c.requires.0 c.requires.1 c.count_few.ensures.value c.count_few.ensures.s_after).0

pub returns-clause-s_unchanged : goal.returns-clause-s_unchanged
returns-clause-s_unchanged c = (few-counted c.args.s.now c.count_few.new.s c.args.g c.args.at c.count_few.result c.requires.0 c.requires.1 c.count_few.ensures.value c.count_few.ensures.s_after).1
