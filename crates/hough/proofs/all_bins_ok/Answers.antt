use mathlib.Core.Path.{◌≡◌, refl}
use mathlib.Core.Bool.{true, false}
use native.Mathlib.Omega.{arith}
use borrow.Author.Rules.{rules}
use borrow.Author.Tests.{tests}
use Rattle.std.proofs.lemmas.Iterator.{cases_from_all, YieldsList-from_range}
use Rattle.consolidate.proofs.Ranges.{every-all}
use Rattle.hough.specs.Limits.{bin_ok}
use Rattle.hough.proofs.all_bins_ok.Goals as goal

pub returns : goal.returns
returns c =
    let a = c.args in
    every-all (bin_ok a.s.now a.n) a.n c.all.result
    (cases_from_all _ _ _ (λ i. bin_ok a.s.now a.n i ≡ true) (λ i. bin_ok a.s.now a.n i ≡ false) c.all.ensures.ran
    (YieldsList-from_range 0 a.n a.n refl (omega arith)) (λ x q k. search (rules, tests)) (λ x q k. search (rules, tests)))
