-- `maps::keys_ascend` meets its contract: of the first `i` keys none is above the next. Assumes nothing.
use Rattle.std.proofs.Common.{◌≡◌, ◌+◌, ◌-◌, sym, arith}
use borrow.Author.Tests.{le-leb, lt-leb}
use Rattle.lists.specs.Entries.{key_at, keys_ascend}
use Rattle.lists.proofs.Every.{every-none, every_more, every-fail}
use Rattle.maps.proofs.Entries.{key_step}
use Rattle.maps.proofs.keys_ascend.Goals as goal

pub loop-i-init : goal.loop-i-init
loop-i-init c = (omega arith, every-none _)

pub returns-then-key_at : goal.returns-then-key_at
unfolding keys_ascend
returns-then-key_at c =
    let j = c.loop-i.i - 1 in
    let e : j + 1 ≡ c.loop-i.i = omega arith in
    let t = key_step c.args.posts.now c.args.w in
    sym (every-fail t (c.args.p - 1) j (omega arith) (lt-leb (key_at c.args.posts.now c.args.w j) (key_at c.args.posts.now c.args.w (j + 1)) (rw e (omega arith))))

pub loop-i-preserved : goal.loop-i-preserved
loop-i-preserved c =
    let j = c.loop-i.i - 1 in
    let e : j + 1 ≡ c.loop-i.i = omega arith in
    let f : c.loop-i.i + 1 - 1 ≡ j + 1 = omega arith in
    (omega arith, rw f (every_more (key_step c.args.posts.now c.args.w) j c.loop-i.invariant.1 (le-leb (key_at c.args.posts.now c.args.w j) (key_at c.args.posts.now c.args.w (j + 1)) (rw e (omega arith)))))

pub returns : goal.returns
unfolding keys_ascend
returns c =
    let e : c.loop-i.i - 1 ≡ c.args.p - 1 = omega arith in
    sym (rw e at c.loop-i.invariant.1)
