use mathlib.Core.Path.{refl, sym, ap, ◌∙◌}
use mathlib.Core.Bool.{Bool}
use native.Mathlib.Omega.{arith}
use Rattle.maps.specs.Bins.{offset, votes}
use Rattle.maps.specs.Sums.{when}
use Rattle.consolidate.specs.Box.{between}
use Rattle.consolidate.specs.Limits.{checked_mode}
use Rattle.consolidate.proofs.Tallies.{mode-cong}
use Rattle.consolidate.proofs.Peaks.{on-between}
use Rattle.consolidate.proofs.Checks.{bins-of}
use Rattle.consolidate.proofs.checked_mode_offset.Goals as goal

pub mode_offset-requires : goal.mode_offset-requires
mode_offset-requires c = (bins-of _ _ (sym c.bins_ok.ensures ∙ c.if-bins_ok.true), omega arith, omega arith)

pub returns-then-bins_ok : goal.returns-then-bins_ok
unfolding checked_mode
returns-then-bins_ok c =
    let l = c.args.s.now in
    let n = c.args.n in
    rw (
      sym c.bins_ok.ensures ∙ c.if-bins_ok.true,
      c.mode_offset.ensures,
      mode-cong (λ i. when (between 0 n i) (votes l i)) (votes l) (offset l) n (λ i h. ap (λ (b : Bool). when b (votes l i)) (on-between 0 n i (omega arith) h)),
    )
    refl

pub returns : goal.returns
unfolding checked_mode
returns c = rw (sym c.bins_ok.ensures ∙ c.if-bins_ok.false) refl
