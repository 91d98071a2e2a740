-- `maps::search` meets its contract: the keys before `lo` are below the key, those from `hi` on are not. Assumes nothing.
use Prim.Native.Nat.{◌+◌, ◌-◌, ◌/◌}
use native.Mathlib.Omega.{arith}
use Rattle.lists.proofs.Entries.{stride, keys-le}
use Rattle.maps.proofs.search.Goals as goal

pub loop-lo-init : goal.loop-lo-init
loop-lo-init c = (omega arith, omega arith, omega arith, (λ i u h. absurd (omega arith)), (λ i h l. absurd (omega arith)))

pub key_at-requires : goal.key_at-requires
key_at-requires c =
    let s = c in
    let l = c.loop-lo in
    omega (arith, stride s.args.w (l.lo + (l.hi - l.lo) / 2) s.args.to _ (omega arith) s.requires.2)

pub loop-lo-preserved-then-from-key : goal.loop-lo-preserved-then-from-key
loop-lo-preserved-then-from-key c =
    let s = c in
    let l = c.loop-lo in
    let mid = l.lo + (l.hi - l.lo) / 2 in
    let up = keys-le s.args.w s.args.to s.args.posts.now s.requires.3 in
    (omega arith, omega arith, omega arith, (λ i u h. omega (arith, up i mid (omega arith) (omega arith))), l.invariant.4)

pub loop-lo-preserved : goal.loop-lo-preserved
loop-lo-preserved c =
    let s = c in
    let l = c.loop-lo in
    let mid = l.lo + (l.hi - l.lo) / 2 in
    let up = keys-le s.args.w s.args.to s.args.posts.now s.requires.3 in
    (omega arith, omega arith, omega arith, l.invariant.3, (λ i h k. omega (arith, up mid i (omega arith) k)))

pub returns : goal.returns
returns c =
    let l = c.loop-lo in
    record { since = l.invariant.0; within = omega arith; below = l.invariant.3; above = λ i h k. l.invariant.4 i (omega arith) k }
