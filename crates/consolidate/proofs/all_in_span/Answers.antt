use mathlib.Core.Path.{◌≡◌, refl}
use mathlib.Core.Bool.{true, false}
use native.Mathlib.Omega.{arith}
use borrow.Author.Rules.{rules}
use borrow.Author.Tests.{tests}
use lib.IntN.{ℤ}
use mir.Syntax.{w64}
use mir.Val.{to_z, of_z}
use mir.ValLaws.{to_z-of_z}
use Rattle.std.proofs.lemmas.Iterator.{cases_from_all, YieldsList-from_range}
use Rattle.consolidate.specs.Limits.{in_span}
use Rattle.consolidate.proofs.Ranges.{every-all}
use Rattle.consolidate.proofs.all_in_span.Goals as goal

pub returns : goal.returns
returns c =
    let a = c.args in
    let low : ℤ = to_z w64 (of_z w64 a.low) in
    let high : ℤ = to_z w64 (of_z w64 a.high) in
    rw (to_z-of_z w64 a.low c.ranges.low, to_z-of_z w64 a.high c.ranges.high) at
    (every-all (in_span a.s.now a.n low high) a.n c.all.result
    (cases_from_all _ _ _ (λ i. in_span a.s.now a.n low high i ≡ true) (λ i. in_span a.s.now a.n low high i ≡ false) c.all.ensures.ran
    (YieldsList-from_range 0 a.n a.n refl (omega arith)) (λ x q k. search (rules, tests)) (λ x q k. search (rules, tests))))
