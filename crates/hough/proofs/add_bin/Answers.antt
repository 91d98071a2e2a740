use Prim.Native.Nat.{ℕ, ◌-◌, ◌*◌}
use mathlib.Core.Path.{ap, ap₂, ◌∙◌}
use native.Mathlib.Omega.{arith}
use Rattle.maps.specs.Sums.{when}
use Rattle.maps.proofs.Sums.{keep-le}
use Rattle.hough.specs.Keys.{near_by}
use Rattle.hough.proofs.Places.{keys_up, vote-small, hough-small}
use Rattle.hough.proofs.Summing.{kept-none, kept_put}
use Rattle.hough.proofs.Pairs.{turned_none, turned-small, turned_more, turned-all}
use Rattle.hough.proofs.add_bin.Goals as goal

pub invariant_of-own : goal.invariant_of-own
invariant_of-own c = let b = c.requires.0.bins in record { bins = b; up = keys_up _ _ b }

pub loop-j-init : goal.loop-j-init
loop-j-init c = (kept-none _ _, turned_none _ _ _ _ _ c.requires.3)

pub overflow_add-sum : goal.overflow_add-sum
overflow_add-sum c =
    let a = c.args in
    let b = c.requires.0.bins in
    let h = c.loop-j in
    let s = turned-small _ a.n b a.tol c.requires.1 a.i c.requires.2 h.s (3 * a.n) h.sum h.j c.loop-j-test.true h.invariant.1 in
    let v = rw h.invariant.0.bins at c.votes.ensures in
    omega (arith, s.0, c.kept-sum.ensures, keep-le c.is_near-near.result c.votes.result, v, vote-small _ a.n b h.j (omega arith))

pub add_to-requires : goal.add_to-requires
add_to-requires c =
    let a = c.args in
    let b = c.requires.0.bins in
    let h = c.loop-j in
    let s = turned-small _ a.n b a.tol c.requires.1 a.i c.requires.2 h.s (3 * a.n) h.sum h.j c.loop-j-test.true h.invariant.1 in
    (omega (arith, c.requires.0.room), s.1, omega (arith, s.2, c.kept.ensures, keep-le c.is_near-near.result c.votes-v.result, c.votes-v.ensures, vote-small _ a.n b a.i c.requires.2))

pub loop-j-preserved : goal.loop-j-preserved
loop-j-preserved c =
    let a = c.args in
    let h = c.loop-j in
    let K = h.invariant.0 in
    let near = c.is_near-near in
    let e = near.ensures ∙ ap₂ (λ (x y : ℕ). near_by a.tol (x - y)) c.key-x.ensures (rw K.bins at c.key.ensures) in (
      kept_put _ _ _ _ _ _ (omega arith) c.add_to.ensures K,
      turned_more _ a.n c.requires.0.bins a.tol c.requires.1 a.i c.requires.2 h.s (3 * a.n) h.sum c.add_to.new.s h.j near.result c.kept-sum.result c.kept.result
          c.add_to.ensures
          c.loop-j-test.true
          (omega (arith, c.requires.0.room))
          e
          (c.kept-sum.ensures ∙ ap (when near.result) (rw K.bins at c.votes.ensures))
          (c.kept.ensures ∙ ap (when near.result) c.votes-v.ensures)
          h.invariant.1,
    )

pub overflow_add-sum-2 : goal.overflow_add-sum-2
overflow_add-sum-2 c =
    let a = c.args in
    let b = c.requires.0.bins in
    omega (arith, c.loop-j.invariant.1.own, hough-small _ a.n b a.tol a.i c.loop-j.j (omega arith), c.votes-v.ensures, vote-small _ a.n b a.i c.requires.2)

pub put_word-requires : goal.put_word-requires
put_word-requires c =
    let a = c.args in
    let b = c.requires.0.bins in
    (omega (arith, c.requires.0.room), omega (arith, c.loop-j.invariant.1.own, hough-small _ a.n b a.tol a.i c.loop-j.j (omega arith), c.votes-v.ensures, vote-small _ a.n b a.i c.requires.2))

pub returns-clause-written : goal.returns-clause-written
returns-clause-written c =
    let a = c.args in
    let h = c.loop-j in
    turned-all _ a.n c.requires.0.bins a.tol c.requires.1 a.i c.requires.2 h.s (3 * a.n) h.sum c.put_word.new.s h.j c.votes-v.result
    c.put_word.ensures
    (omega arith)
    (omega (arith, c.requires.0.room))
    c.votes-v.ensures
    h.invariant.1
