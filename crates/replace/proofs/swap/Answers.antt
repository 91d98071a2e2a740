-- `replace::swap` meets its contract. Assumes nothing.
use Rattle.std.proofs.Common.{eqb, get_or, refl, sym, arith, length}
use Rattle.std.proofs.lemmas.List.{length-take-le}
use Rattle.std.proofs.lemmas.Result.{err_from_is_err_and}
use Rattle.postings.specs.Retain.{Listed}
use Rattle.postings.proofs.Listing.{listed-front}
use Rattle.remove.specs.Erasing.{vacated, others, others_left}
use Rattle.replace.proofs.Swapped.{may-plan, others-many, may-erase, head_in, row_in, order-fits, overs-fit, may_write, swap-refused, swap-stored}
use Rattle.replace.proofs.swap.Goals as goal

pub row_word-set-requires : goal.row_word-set-requires
row_word-set-requires c = let s = c.args in row_in s.w s.refs.now s.posts.now s.stops.now s.hashes.now s.id c.requires.replaceable

pub header-h-requires : goal.header-h-requires
header-h-requires c = let s = c.args in head_in s.w s.refs.now s.posts.now s.stops.now s.hashes.now s.id c.requires.replaceable

pub overflow_sub-h : goal.overflow_sub-h
overflow_sub-h c = omega (arith, c.header-h.ensures.postings, c.requires.noted.0.many)

pub plan_insertion-requires-clause-plannable : goal.plan_insertion-requires-clause-plannable
plan_insertion-requires-clause-plannable c = let s = c.args in may-plan s.w s.refs.now s.posts.now s.stops.now s.hashes.now s.id c.requires.replaceable c.header-h.result c.header-h.ensures

pub plan_insertion-requires-clause-others_value : goal.plan_insertion-requires-clause-others_value
plan_insertion-requires-clause-others_value c = let s = c.args in others-many s.w s.refs.now s.posts.now s.stops.now s.hashes.now s.id c.requires.replaceable c.header-h.result c.header-h.ensures c.requires.noted.0

pub returns-in_err-plan : goal.returns-in_err-plan
returns-in_err-plan c =
    let s = c.args in
    let p = err_from_is_err_and c.from_residual.result c.from_residual.ensures.1 in
    rw (p.1, p.2) (sym (swap-refused s.w s.refs.now s.posts.now s.stops.now s.hashes.now s.id c.requires.replaceable (vacated s.refs.now s.id (length (others s.w s.refs.now s.posts.now s.id))) (others_left s.w s.refs.now s.posts.now s.id) refl refl s.limit s.rate c.header-h.result c.header-h.ensures _ _ _ c.in_err-plan.ensures c.in_err-plan.field-0.0 refl))

pub erase-requires-clause-erasable : goal.erase-requires-clause-erasable
erase-requires-clause-erasable c = let s = c.args in may-erase s.w s.refs.now s.posts.now s.stops.now s.hashes.now s.id c.requires.replaceable

pub slice_bounds-write_recording-end : goal.slice_bounds-write_recording-end
slice_bounds-write_recording-end c =
    let s = c.args in
    sym (length-take-le c.in_ok-plan.plan.hashes c.plan_insertion.new.order (order-fits s.w s.refs.now s.posts.now s.stops.now s.hashes.now s.id c.requires.replaceable c.erase.new.refs c.erase.new.posts c.erase.ensures.refs_after c.erase.ensures.posts_after s.limit s.rate c.header-h.result c.header-h.ensures _ _ _ c.in_ok-plan.ensures c.in_ok-plan.plan refl))

pub slice_bounds-write_recording-end-2 : goal.slice_bounds-write_recording-end-2
slice_bounds-write_recording-end-2 c =
    let s = c.args in
    sym (length-take-le c.in_ok-plan.plan.keys c.plan_insertion.new.overs (overs-fit s.w s.refs.now s.posts.now s.stops.now s.hashes.now s.id c.requires.replaceable c.erase.new.refs c.erase.new.posts c.erase.ensures.refs_after c.erase.ensures.posts_after s.limit s.rate c.header-h.result c.header-h.ensures _ _ _ c.in_ok-plan.ensures c.in_ok-plan.plan refl))

pub write_recording-requires : goal.write_recording-requires
write_recording-requires c =
    let s = c.args in
    (may_write s.w s.refs.now s.posts.now s.stops.now s.hashes.now s.id c.requires.replaceable c.erase.new.refs c.erase.new.posts c.erase.ensures.refs_after c.erase.ensures.posts_after s.limit s.rate c.header-h.result c.header-h.ensures _ _ _ c.in_ok-plan.ensures c.in_ok-plan.plan refl, c.requires.noted.1)

pub returns : goal.returns
returns c =
    let s = c.args in
    let k = c.write_recording.ensures in
    swap-stored s.w s.refs.now s.posts.now s.stops.now s.hashes.now s.id c.requires.replaceable c.erase.new.refs c.erase.new.posts c.erase.ensures.refs_after c.erase.ensures.posts_after s.limit s.rate c.header-h.result c.header-h.ensures _ _ _ c.in_ok-plan.ensures c.in_ok-plan.plan refl
    c.row_word-set.result _ _ _ _ c.row_word-set.ensures k.value k.refs_after k.posts_after k.stops_after

pub erase-requires-clause-listed : goal.erase-requires-clause-listed
erase-requires-clause-listed c =
    let s = c.args in
    let d : Listed (eqb s.id) s.w (get_or s.refs.now 2 0) 1 s.posts.now s.list.now c.min-listed.result = rw c.min-listed.ensures c.requires.noted.0.listed in
    listed-front _ _ _ _ _ _ _ d
