use Rattle.std.proofs.Common.{◌≡◌, ◌≤◌, take, false}
use Rattle.lists.specs.Lists.{sum, some?}
use Rattle.build.proofs.Tests.{long}
use Rattle.build.proofs.lengths_fit.Given as goal

abbrev pub invariant-loop-n : goal.invariant-loop-n
invariant-loop-n l = (l.total ≡ sum (take l.n-index l.lengths)) × (l.total ≤ l.m) × (some? long (take l.n-index l.lengths) ≡ false)
