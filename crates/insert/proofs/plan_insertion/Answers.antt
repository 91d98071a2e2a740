-- `insert::plan_insertion` meets its contract. Assumes nothing.
use Rattle.std.proofs.Common.{[], ◌∷◌, ℕ, ◌+◌, ◌/◌, ◌≤◌, sym, ap, ◌∙◌, arith, length, ltb}
use Rattle.std.proofs.lemmas.List.{length-take-le}
use Rattle.maps.proofs.Entries.{scale-le}
use Rattle.postings.proofs.Compact.{staying-few}
use Rattle.insert.proofs.Planning.{few-new, by_key-front, planned-full, planned-keys, planned-found}
use Rattle.insert.proofs.plan_insertion.Goals as goal

pub lacks_room-requires : goal.lacks_room-requires
lacks_room-requires c =
    let a = c.args in
    let A = c.requires.plannable in
    let few : c.collect-m.result ≤ 8192 = few-new A c.collect-m.ensures.value in (
      A.wide,
      omega (arith, c.requires.others_value, staying-few a.w a.c.postings 1 (a.id ∷ []) a.posts.now, scale-le a.w a.c.postings (omega (arith, A.wide)), A.held),
      omega arith,
    )

pub returns-then-lacks_room : goal.returns-then-lacks_room
returns-then-lacks_room c =
    let a = c.args in
    planned-full c.requires.plannable c.collect-m.ensures.value a.id
    (ap (λ (n : ℕ). ltb (length a.posts.now / a.w) (n + c.collect-m.result)) (sym c.requires.others_value) ∙ (sym c.lacks_room.ensures ∙ c.if-lacks_room.true))

pub sort_words-requires : goal.sort_words-requires
sort_words-requires c =
    let few : c.collect-m.result ≤ 8192 = few-new c.requires.plannable c.collect-m.ensures.value in
    omega (arith, c.collect-m.auto.order, c.requires.in_bounds.0)

pub over_keys-n-requires-clause-by_key : goal.over_keys-n-requires-clause-by_key
over_keys-n-requires-clause-by_key c =
    let A = c.requires.plannable in
    let few : c.collect-m.result ≤ 8192 = few-new A c.collect-m.ensures.value in
    (by_key-front A c.collect-m.ensures.value c.collect-m.new.order c.sort_words.new.w c.collect-m.ensures.order_after c.sort_words.ensures.0 (omega (arith, c.sort_words.auto.w, c.collect-m.auto.order, c.requires.in_bounds.0)) (λ t. (c.type_inv.hashes t).fits), omega (arith, length-take-le c.collect-m.result c.sort_words.new.w (omega (arith, c.sort_words.auto.w, c.collect-m.auto.order, c.requires.in_bounds.0)), c.requires.in_bounds.1))

pub overflow_add-k : goal.overflow_add-k
overflow_add-k c =
    let few : c.collect-m.result ≤ 8192 = few-new c.requires.plannable c.collect-m.ensures.value in
    omega (arith, c.over_keys-n.ensures.upper_bound, length-take-le c.collect-m.result c.sort_words.new.w (omega (arith, c.sort_words.auto.w, c.collect-m.auto.order, c.requires.in_bounds.0)), c.requires.plannable.stopped, c.well_formed)

pub returns-then-stops-k : goal.returns-then-stops-k
returns-then-stops-k c =
    let a = c.args in
    let A = c.requires.plannable in
    let few : c.collect-m.result ≤ 8192 = few-new A c.collect-m.ensures.value in
    planned-keys A c.collect-m.ensures.value c.collect-m.new.order c.sort_words.new.w c.collect-m.ensures.order_after c.sort_words.ensures.0 (omega (arith, c.sort_words.auto.w, c.collect-m.auto.order, c.requires.in_bounds.0))
    a.id c.over_keys-n.new.overs c.over_keys-n.ensures.upper_bound (omega (arith, c.over_keys-n.auto.overs, c.requires.in_bounds.1)) c.over_keys-n.ensures.over_keys
    (ap (λ (n : ℕ). ltb (length a.posts.now / a.w) (n + c.collect-m.result)) (sym c.requires.others_value) ∙ (sym c.lacks_room.ensures ∙ c.if-lacks_room.false))
    c.if-stops-k.true

pub returns : goal.returns
returns c =
    let a = c.args in
    let A = c.requires.plannable in
    let few : c.collect-m.result ≤ 8192 = few-new A c.collect-m.ensures.value in
    planned-found A c.collect-m.ensures.value c.collect-m.new.order c.sort_words.new.w c.collect-m.ensures.order_after c.sort_words.ensures.0 (omega (arith, c.sort_words.auto.w, c.collect-m.auto.order, c.requires.in_bounds.0))
    a.id c.over_keys-n.new.overs c.over_keys-n.ensures.upper_bound (omega (arith, c.over_keys-n.auto.overs, c.requires.in_bounds.1)) c.over_keys-n.ensures.over_keys
    (ap (λ (n : ℕ). ltb (length a.posts.now / a.w) (n + c.collect-m.result)) (sym c.requires.others_value) ∙ (sym c.lacks_room.ensures ∙ c.if-lacks_room.false))
    c.if-stops-k.false

pub slice_bounds-over_keys-end : goal.slice_bounds-over_keys-end
slice_bounds-over_keys-end c =
    let few : c.collect-m.result ≤ 8192 = few-new c.requires.plannable c.collect-m.ensures.value in
    omega (arith, c.sort_words.auto.w, c.collect-m.auto.order, c.requires.in_bounds.0)

pub slice_bounds-over_keys-end-2 : goal.slice_bounds-over_keys-end-2
slice_bounds-over_keys-end-2 c =
    let few : c.collect-m.result ≤ 8192 = few-new c.requires.plannable c.collect-m.ensures.value in
    sym (length-take-le c.collect-m.result c.sort_words.new.w (omega (arith, c.sort_words.auto.w, c.collect-m.auto.order, c.requires.in_bounds.0)))
