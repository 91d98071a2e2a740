use mathlib.Core.Path.{◌∙◌}
use native.Mathlib.Omega.{arith}
use mir.Syntax.{w64}
use mir.ValLaws.{to_z-of_z}
use Rattle.consolidate.proofs.Peaks.{between-none, between-more, between-mode, between_small, offset-fits, count-fits}
use Rattle.consolidate.proofs.mode_offset.Goals as goal

pub loop-i-init : goal.loop-i-init
loop-i-init c = rw c.none-t.ensures (between-none c.args.s.now c.args.from c.args.to)

pub with-t-requires : goal.with-t-requires
with-t-requires c =
    let s = between_small _ _ _ _ _ _ c.requires.0 (omega arith) c.loop-i.invariant in
    let near = c.requires.0.close c.loop-i.i (omega arith) in
    let f = offset-fits _ _ c.loop-i.i c.requires.0 (omega arith) in
    rw to_z-of_z (omega arith, omega arith, omega arith)

pub loop-i-preserved : goal.loop-i-preserved
loop-i-preserved c =
    let f = offset-fits _ _ c.loop-i.i c.requires.0 (omega arith) in
    let h = count-fits _ _ c.loop-i.i c.requires.0 (omega arith) in
    rw (c.with-t.ensures, to_z-of_z w64 _ f, to_z-of_z w64 _ h)
    (between-more _ _ _ _ _ (omega arith) c.loop-i-test.true c.loop-i.invariant)

pub mode-requires : goal.mode-requires
mode-requires c =
    let s = between_small _ _ _ _ _ _ c.requires.0 (omega arith) c.loop-i.invariant in
    (omega arith, omega arith, c.loop-i.invariant.some)

pub returns : goal.returns
returns c = c.mode.ensures ∙ between-mode _ _ _ _ _ _ c.loop-i-test.false (omega arith) c.loop-i.invariant
