-- `build::has_faulty_set` meets its contract. Assumes nothing.
use Rattle.std.proofs.Common.{rules, ◌∙◌}
use borrow.Author.Tests.{tests}
use Rattle.std.proofs.lemmas.Iterator.{YieldsList-from_slice}
use Rattle.std.proofs.lemmas.Iterator.Search.{any_from_yields_List}
use Rattle.build.proofs.Tests.{faulty, some-any}
use Rattle.build.proofs.has_faulty_set.Goals as goal

pub returns : goal.returns
returns c =
    any_from_yields_List faulty _ _ _ c.any.ensures.ran (YieldsList-from_slice c.args.sets.now cc) (λ x b q k. search (rules, tests))
    ∙ some-any faulty c.args.sets.now
