use Rattle.std.proofs.Common.{refl, ◌∙◌, get_or, take, length, arith}
use lib.Seq.{length-take-le, get_or-take}
use Rattle.maps.proofs.Sums.{sum-cong}
use Rattle.bins.specs.Votes.{places, positions}
use Rattle.bins.specs.Distinct.{marked, distinct_near}
use Rattle.bins.proofs.Marking.{marked-le, zeros}
use Rattle.bins.proofs.distinct_positions.Goals as goal

pub mark-requires : goal.mark-requires
mark-requires c = (c.requires.0, c.requires.1, zeros 2048, refl)

pub count_marks-requires : goal.count_marks-requires
count_marks-requires c i h =
    let a = c.args in
    let n = length-take-le a.m c.mark.new.seen (omega (arith, c.mark.array_long)) in
    rw (get_or-take a.m c.mark.new.seen i 0 (omega arith))
    (omega (arith, c.mark.ensures i (omega arith), marked-le a.tol a.x (places a.votes.now 0) (positions a.votes.now 0) (length a.votes.now) i))

pub returns : goal.returns
unfolding distinct_near
returns c =
    let a = c.args in
    let n = length-take-le a.m c.mark.new.seen (omega (arith, c.mark.array_long)) in
    rw n at c.count_marks.ensures
    ∙ sum-cong (λ i. get_or (take a.m c.mark.new.seen) i 0) (marked a.tol a.x (places a.votes.now 0) (positions a.votes.now 0) (length a.votes.now)) a.m
    (λ i h. get_or-take a.m c.mark.new.seen i 0 h ∙ c.mark.ensures i (omega arith))
