use Prim.Native.Nat.{ℕ, ◌+◌, ◌*◌}
use mathlib.Core.Path.{refl, sym}
use native.Mathlib.Omega.{arith}
use lib.IntN.{pos, nat_abs}
use lib.ListN.{get_or}
use borrow.Author.Rules.{rules}
use mir.ValLaws.{to_z-of_z}
use mir.Syntax.{w64}
use mir.Val.{SFits}
use borrow.Author.Tests.{lt-leb}
use Rattle.maps.specs.Sums.{sum_to}
use Rattle.maps.proofs.Sums.{sum-next, sum_mono}
use Rattle.consolidate.proofs.sum_ok.Goals as goal

pub loop-i-init : goal.loop-i-init
unfolding sum_to
loop-i-init c = (refl, omega arith)

pub returns-then-sum-gt1000000 : goal.returns-then-sum-gt1000000
returns-then-sum-gt1000000 c =
    let f : ℕ → ℕ = λ k. nat_abs (get_or c.args.s.now (c.args.stride * k + c.args.field) (pos 0)) in
    let w : SFits w64 (get_or c.args.s.now (c.args.stride * c.loop-i.i + c.args.field) (pos 0)) = search rules in
    let e = rw to_z-of_z at c.unsigned_abs-sum.ensures.value in
    sym (lt-leb (sum_to f c.args.n) 1000000 (omega (arith, c.loop-i.invariant.0, e, sum-next f c.loop-i.i, sum_mono f (c.loop-i.i + 1) c.args.n (omega arith))))

pub loop-i-preserved : goal.loop-i-preserved
loop-i-preserved c =
    let f : ℕ → ℕ = λ k. nat_abs (get_or c.args.s.now (c.args.stride * k + c.args.field) (pos 0)) in
    let w : SFits w64 (get_or c.args.s.now (c.args.stride * c.loop-i.i + c.args.field) (pos 0)) = search rules in
    let e = rw to_z-of_z at c.unsigned_abs-sum.ensures.value in
    (omega (arith, c.loop-i.invariant.0, e, sum-next f c.loop-i.i), omega arith)
