-- `maps::end_from` meets its contract: the entries from a below e are under the key. Assumes nothing.
use Prim.Native.Nat.{◌+◌}
use native.Mathlib.Omega.{arith}
use Rattle.lists.proofs.Entries.{stride}
use Rattle.maps.proofs.Entries.{first-splits, first-le, first-after, first-upto}
use Rattle.maps.proofs.end_from.Goals as goal

pub loop-e-init : goal.loop-e-init
loop-e-init c = let o = c in omega (arith, o.requires.3, first-le o.args.posts.now o.args.w o.args.p o.args.key o.requires.2)

pub key_at-requires : goal.key_at-requires
key_at-requires c = let o = c in omega (arith, o.requires.0, stride o.args.w c.loop-e.e o.args.p _ c.loop-e-test.true o.requires.1)

pub returns-then-key_at-key : goal.returns-then-key_at-key
returns-then-key_at-key c =
    let o = c in
    let l = c.loop-e in
    let t = c.loop-e-test.true in
    let k = (first-splits o.args.posts.now o.args.w o.args.p o.args.key o.requires.2).above l.e (omega arith) t in
    omega (arith, l.invariant, first-upto o.args.posts.now o.args.w o.args.p (o.args.key + 1) l.e o.requires.2 t (omega (arith, k, c.key_at.ensures)))

pub loop-e-preserved : goal.loop-e-preserved
loop-e-preserved c =
    let o = c in
    let l = c.loop-e in
    omega (arith, first-after o.args.posts.now o.args.w o.args.p (o.args.key + 1) l.e o.requires.2 c.loop-e-test.true (omega (arith, c.key_at.ensures)))

pub returns : goal.returns
returns c =
    let o = c in
    omega (arith, c.loop-e.invariant, (first-splits o.args.posts.now o.args.w o.args.p (o.args.key + 1) o.requires.2).within)
