-- `slices::is_zero_from` meets its contract. Assumes nothing.
use Rattle.std.proofs.Common.{◌≡◌, ◌+◌, ◌-◌, sym, ◌∙◌, length, get_or, take, drop, length-take, length-drop, add-one, arith}
use lib.Seq.{get_or-drop, get_or-take}
use Rattle.lists.proofs.Every.{every-none, every-suc}
use Rattle.lists.specs.Entries.{zero_word, zero_from}
use Rattle.slices.proofs.is_zero_from.Goals as goal

pub loop-x-init : goal.loop-x-init
loop-x-init c = sym (every-none (zero_word c.args.s.now c.args.a))

pub loop-x-preserved : goal.loop-x-preserved
unfolding zero_word
loop-x-preserved c =
    let i = c.loop-x.x-index in
    let l : length (take (length c.args.s.now - c.args.a) (drop c.args.a c.args.s.now)) ≡ length c.args.s.now - c.args.a = simp (length-take, length-drop) (omega arith) in
    let e : get_or (take (length c.args.s.now - c.args.a) (drop c.args.a c.args.s.now)) i 0 ≡ get_or c.args.s.now (c.args.a + i) 0 =
    get_or-take (length c.args.s.now - c.args.a) (drop c.args.a c.args.s.now) i 0 (omega arith) ∙ get_or-drop c.args.a c.args.s.now i 0 in
    rw (e, c.loop-x.invariant, add-one i, every-suc (zero_word c.args.s.now c.args.a) i)

pub returns : goal.returns
unfolding zero_from
returns c =
    let l : length (take (length c.args.s.now - c.args.a) (drop c.args.a c.args.s.now)) ≡ length c.args.s.now - c.args.a = simp (length-take, length-drop) (omega arith) in
    let e : c.loop-x.x-index ≡ length c.args.s.now - c.args.a = omega arith in
    rw e at c.loop-x.invariant
