use mathlib.Core.Path.{refl, sym, ◌∙◌}
use mir.Syntax.{w64}
use mir.ValLaws.{to_z-of_z}
use Rattle.consolidate.specs.Limits.{checked_peak}
use Rattle.consolidate.proofs.Checks.{span_of}
use Rattle.consolidate.proofs.checked_box_peak.Goals as goal

pub sparse_wang_box_peak-requires : goal.sparse_wang_box_peak-requires
sparse_wang_box_peak-requires c = span_of _ _ _ _ _ (sym c.span_ok.ensures ∙ c.if-span_ok.true)

pub returns-then-span_ok : goal.returns-then-span_ok
unfolding checked_peak
returns-then-span_ok c =
    let low = to_z-of_z w64 c.args.low c.ranges.low in
    let high = to_z-of_z w64 c.args.high c.ranges.high in
    rw (sym (rw (low, high) at c.span_ok.ensures) ∙ c.if-span_ok.true, c.sparse_wang_box_peak.ensures, low, high) refl

pub returns : goal.returns
unfolding checked_peak
returns c =
    let low = to_z-of_z w64 c.args.low c.ranges.low in
    let high = to_z-of_z w64 c.args.high c.ranges.high in
    rw (sym (rw (low, high) at c.span_ok.ensures) ∙ c.if-span_ok.false) refl
