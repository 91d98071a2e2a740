use Rattle.std.proofs.Common.{◌≡◌, ◌∙◌, Bool, sym, ap, pos, get_or, to_z, of_z, w64, rules, length-set}
use Rattle.maps.specs.Sums.{when}
use Rattle.bins.specs.Distinct.{near_place}
use Rattle.bins.specs.Votes.{places, positions, place_of, position_of}
use Rattle.bins.proofs.Flags.{flag-is}
use Rattle.bins.proofs.Marking.{marked-none, mark-more, place-first, position-first}
use Rattle.bins.proofs.mark.Goals as goal

pub loop-vote-init : goal.loop-vote-init
loop-vote-init c =
    let a = c.args in
    (c.requires.3, λ i h. c.requires.2 i ∙ sym (marked-none a.tol a.x (places a.votes.now 0) (positions a.votes.now 0) i))

pub loop-vote-preserved : goal.loop-vote-preserved
loop-vote-preserved c =
    let a = c.args in
    let l = c.loop-vote in
    let i = l.vote-index in
    let v : to_z w64 (of_z w64 (get_or a.votes.now i (pos 0))) ≡ get_or a.votes.now i (pos 0) = search rules in
    let q = c.position_of-q.ensures in
    let d = c.place_of.ensures.0 ∙ ap place_of v ∙ sym (place-first a.votes.now i) in
    let h = c.from-h.ensures ∙ flag-is c.is_near.result ∙ ap (λ (b : Bool). when b 1) (c.is_near.ensures ∙ ap (near_place a.tol a.x) d) in
    let e = mark-more a.tol a.x (places a.votes.now 0) (positions a.votes.now 0) i l.seen _ _ l.invariant.0 (q.0 ∙ ap position_of v ∙ sym (position-first a.votes.now i)) q.1 h l.invariant.1 in
    (simp length-set l.invariant.0, rw c.max.ensures e)
