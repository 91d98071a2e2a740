-- `maps::first_from` meets its contract: the first entry at the key does not stand before `lo`. Assumes nothing.
use Prim.Native.Nat.{◌+◌}
use native.Mathlib.Omega.{arith}
use Rattle.lists.proofs.Entries.{stride}
use Rattle.maps.proofs.Entries.{scale-le, ascend-prefix, first-splits, first-among, first-after, first-upto}
use Rattle.maps.proofs.first_from.Goals as goal

pub loop-reach-init : goal.loop-reach-init
loop-reach-init c =
    let s = c in
    (s.requires.3, (first-splits s.args.posts.now s.args.w s.args.p s.args.key s.requires.2).within)

pub key_at-requires : goal.key_at-requires
key_at-requires c =
    let s = c in
    let l = c.loop-reach in
    omega (arith, stride s.args.w (l.lo + l.reach) s.args.p _ (omega arith) s.requires.1)

pub search-requires : goal.search-requires
search-requires c =
    let s = c in
    let at = c.loop-reach.lo + c.loop-reach.reach in (
      s.requires.0,
      omega arith,
      omega (arith, stride s.args.w at s.args.p _ (omega arith) s.requires.1),
      ascend-prefix s.args.posts.now s.args.w at s.args.p (omega arith) s.requires.2,
    )

pub returns-then-key-from : goal.returns-then-key-from
returns-then-key-from c =
    let s = c in
    let l = c.loop-reach in
    first-among s.args.posts.now s.args.w s.args.p s.args.key l.lo (l.lo + l.reach) _ s.requires.2 l.invariant.0
    (first-upto s.args.posts.now s.args.w s.args.p s.args.key (l.lo + l.reach) s.requires.2 (omega arith) (omega arith)) (omega arith) c.search.ensures

pub overflow_mul-reach : goal.overflow_mul-reach
overflow_mul-reach c =
    let s = c in
    omega (arith, scale-le s.args.w s.args.p s.requires.0)

pub loop-reach-preserved : goal.loop-reach-preserved
loop-reach-preserved c =
    let s = c in
    let l = c.loop-reach in
    (omega (arith, first-after s.args.posts.now s.args.w s.args.p s.args.key (l.lo + l.reach) s.requires.2 (omega arith) (omega arith)), l.invariant.1)

pub returns : goal.returns
returns c =
    let s = c in
    let l = c.loop-reach in
    first-among s.args.posts.now s.args.w s.args.p s.args.key l.lo s.args.p _ s.requires.2 l.invariant.0 l.invariant.1 (omega arith) c.search-2.ensures
