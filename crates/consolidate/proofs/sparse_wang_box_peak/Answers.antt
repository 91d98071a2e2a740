use mathlib.Core.Path.{refl, ◌∙◌}
use borrow.Author.Tests.{eq-eqb, ne_eqb}
use mir.Syntax.{w64}
use mir.ValLaws.{to_z-of_z}
use Rattle.consolidate.specs.Box.{box_peak}
use Rattle.consolidate.proofs.Spans.{span-placed, window-is}
use Rattle.consolidate.proofs.sparse_wang_box_peak.Goals as goal

pub returns-then-n-eq0 : goal.returns-then-n-eq0
unfolding box_peak
returns-then-n-eq0 c = rw (to_z-of_z w64 c.args.low c.ranges.low, eq-eqb _ _ c.if-n-eq0.true) refl

pub invariant_of-bins : goal.invariant_of-bins
invariant_of-bins c = rw (to_z-of_z w64 c.args.low c.ranges.low) (record { placed = span-placed _ _ _ _ _ c.requires })

pub returns : goal.returns
unfolding box_peak
returns c =
    let low = to_z-of_z w64 c.args.low c.ranges.low in
    let high = to_z-of_z w64 c.args.high c.ranges.high in
    rw (low, rw (low, high) at c.abs_diff-width.ensures) at c.peak.ensures
    ∙ rw (ne_eqb _ _ c.if-n-eq0.false, window-is c.args.s.now c.args.low c.args.n (span-placed _ _ _ _ _ c.requires) c.args.tol) refl
