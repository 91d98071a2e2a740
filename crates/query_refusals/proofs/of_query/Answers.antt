-- `query_refusals::of_query` meets its contract: each refusal is the first that applies. Assumes nothing.
use Rattle.std.proofs.Common.{sym, ◌∙◌, lt-ltb, le-ltb}
use Rattle.std.proofs.lemmas.Result.{err_from_is_err_and}
use Rattle.soundness.specs.Scan.{words}
use Rattle.soundness.proofs.Refusal.{accepted, numbered}
use Rattle.query_refusals.proofs.Early.{early-scratch, early-store, early-malformed, early-beyond, early-set, early-none}
use Rattle.query_refusals.proofs.of_query.Goals as goal

pub returns-then-not-is_whole : goal.returns-then-not-is_whole
returns-then-not-is_whole c =
    let a = c.args in
    sym (early-scratch a.store.width a.per_vote (words a.store.refs.now a.store.posts.now a.store.stops.now) a.scratch a.hashes.now a.beyond a.set (sym c.is_whole.ensures ∙ c.if-not-is_whole.true))

pub returns-in_err-refusal : goal.returns-in_err-refusal
returns-in_err-refusal c =
    let a = c.args in
    let p = err_from_is_err_and c.from_residual.result c.from_residual.ensures.1 in
    let e = c.in_err-refusal.ensures in
    rw (p.1, p.2) (e ∙ sym (early-store a.store.width a.per_vote (words a.store.refs.now a.store.posts.now a.store.stops.now) a.scratch a.hashes.now a.beyond a.set
    (sym c.is_whole.ensures ∙ c.if-not-is_whole.false) (λ q. numbered c.in_err-refusal.field-0.0 (e ∙ q))))

pub returns-then-is_malformed : goal.returns-then-is_malformed
returns-then-is_malformed c =
    let a = c.args in
    let m = words a.store.refs.now a.store.posts.now a.store.stops.now in
    let s = accepted a.store.width m (sym c.in_ok-refusal.ensures) in
    sym (early-malformed a.store.width a.per_vote m a.scratch a.hashes.now a.beyond a.set (sym c.is_whole.ensures ∙ c.if-not-is_whole.false) s.0 s.1
    (sym c.is_malformed.ensures ∙ c.if-is_malformed.true))

pub returns-then-beyond : goal.returns-then-beyond
returns-then-beyond c =
    let a = c.args in
    let m = words a.store.refs.now a.store.posts.now a.store.stops.now in
    let s = accepted a.store.width m (sym c.in_ok-refusal.ensures) in
    sym (early-beyond a.store.width a.per_vote m a.scratch a.hashes.now a.beyond a.set (sym c.is_whole.ensures ∙ c.if-not-is_whole.false) s.0 s.1
    (sym c.is_malformed.ensures ∙ c.if-is_malformed.false) c.if-beyond.true)

pub returns-then-set-gt-SET_MOST : goal.returns-then-set-gt-SET_MOST
returns-then-set-gt-SET_MOST c =
    let a = c.args in
    let m = words a.store.refs.now a.store.posts.now a.store.stops.now in
    let s = accepted a.store.width m (sym c.in_ok-refusal.ensures) in
    sym (early-set a.store.width a.per_vote m a.scratch a.hashes.now a.beyond a.set (sym c.is_whole.ensures ∙ c.if-not-is_whole.false) s.0 s.1
    (sym c.is_malformed.ensures ∙ c.if-is_malformed.false) c.if-beyond.false (lt-ltb _ _ c.if-set-gt-SET_MOST.true))

pub returns : goal.returns
returns c =
    let a = c.args in
    let m = words a.store.refs.now a.store.posts.now a.store.stops.now in
    let s = accepted a.store.width m (sym c.in_ok-refusal.ensures) in
    sym (early-none a.store.width a.per_vote m a.scratch a.hashes.now a.beyond a.set (sym c.is_whole.ensures ∙ c.if-not-is_whole.false) s.0 s.1
    (sym c.is_malformed.ensures ∙ c.if-is_malformed.false) c.if-beyond.false (le-ltb _ _ c.if-set-gt-SET_MOST.false))
