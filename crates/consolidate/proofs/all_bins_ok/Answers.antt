use mathlib.Core.Path.{◌≡◌, refl}
use mathlib.Core.Bool.{true, false}
use native.Mathlib.Omega.{arith}
use borrow.Author.Rules.{rules}
use borrow.Author.Tests.{tests}
use Rattle.std.proofs.lemmas.Iterator.{cases_from_all, YieldsList-from_range}
use Rattle.consolidate.specs.Limits.{bin_ok}
use Rattle.consolidate.proofs.Ranges.{every-all}
use Rattle.consolidate.proofs.all_bins_ok.Goals as goal

pub returns : goal.returns
returns c =
    every-all (bin_ok c.args.s.now) c.args.n c.all.result
    (cases_from_all _ _ _ (λ i. bin_ok c.args.s.now i ≡ true) (λ i. bin_ok c.args.s.now i ≡ false) c.all.ensures.ran
    (YieldsList-from_range 0 c.args.n c.args.n refl (omega arith)) (λ x q k. search (rules, tests)) (λ x q k. search (rules, tests)))
