-- `insert::stop_keys` meets its contract. Assumes nothing.
use Rattle.std.proofs.Common.{◌≡◌, ◌/◌, ◌∙◌, arith, length}
use native.Mathlib.Nat.{one-mul}
use Rattle.maps.proofs.Members.{ascend-words}
use Rattle.insert.proofs.Placed.{stops-merged}
use Rattle.insert.proofs.stop_keys.Goals as goal

pub merge_in-requires-clause-le_w : goal.merge_in-requires-clause-le_w
merge_in-requires-clause-le_w c =
    let e : length c.args.overs.now / 1 ≡ length c.args.overs.now = omega arith in
    (omega arith, rw (e, one-mul) c.requires.room)

pub merge_in-requires-clause-p_value : goal.merge_in-requires-clause-p_value
merge_in-requires-clause-p_value c =
    let P = c.requires in
    let e : length c.args.overs.now / 1 ≡ length c.args.overs.now = omega arith in
    (ascend-words c.args.stops.now c.args.k (omega (arith, P.room)) P.ascend, rw e (ascend-words c.args.overs.now (length c.args.overs.now) P.overs-room P.overs-ascend))

pub returns : goal.returns
returns c =
    let e : length c.args.overs.now / 1 ≡ length c.args.overs.now = omega arith in
    rw e at c.merge_in.ensures ∙ stops-merged c.args.stops.now c.args.k c.args.overs.now (length c.args.overs.now) c.requires
