-- `postings::retain` meets its contract. Assumes nothing.
use Rattle.std.proofs.Common.{◌≡◌, ◌+◌, ◌<◌, min, sym, ◌∙◌, arith, get_or, length}
use Rattle.lists.specs.Lists.{member}
use Rattle.postings.specs.Retain.{behind_listed}
use Rattle.postings.proofs.Compact.{Done, done_none, done_more, done_all}
use Rattle.postings.proofs.Listing.{behind-none, behind_more, until-carried}
use Rattle.postings.proofs.retain.Goals as goal

pub loop-i-init : goal.loop-i-init
loop-i-init c = (omega arith, done_none _ _ _ _, omega arith, λ h. sym (behind-none _))

pub next_named-e-requires-clause-named : goal.next_named-e-requires-clause-named
next_named-e-requires-clause-named c h =
    let a = c.args in
    let l = c.loop-i in
    until-carried (λ x. member x a.xs.now) a.w a.f a.xs.now a.posts.now l.posts a.p l.i l.q c.requires.within c.loop-i-test.true l.invariant.1 (get_or a.list.now l.k 0)
    (rw (l.invariant.3 h) (c.requires.listed.next l.k h))

pub loop-i-preserved : goal.loop-i-preserved
loop-i-preserved c =
    let a = c.args in
    let l = c.loop-i in
    let d = done_more a.w a.f a.xs.now a.posts.now l.posts a.p l.i l.q c.requires.within c.loop-i-test.true l.invariant.1 c.next_named-e.result c.next_named-e.ensures.until in
    let since = c.next_named-e.ensures.until.since in
    let within = c.next_named-e.ensures.until.within in
    let more : l.k + 1 < length a.list.now → min (c.next_named-e.result + 1) a.p ≡ behind_listed a.list.now (l.k + 1) = λ h.
    let e : c.next_named-e.result ≡ get_or a.list.now l.k 0 = c.next_named-e.ensures.value (omega arith) in
    omega (arith, e, behind_more a.list.now l.k, c.requires.listed.within l.k (omega arith)) in
    rw (c.min-i.ensures, c.move_down.ensures) (omega arith, d, omega (arith, since, within, l.invariant.2, c.loop-i-test.true), more)

pub returns-clause-posts_after : goal.returns-clause-posts_after
returns-clause-posts_after c =
    let a = c.args in
    let l = c.loop-i in
    let e : l.i ≡ a.p = omega arith in
    let d : Done a.w a.f a.xs.now a.posts.now l.posts a.p l.q = rw e at l.invariant.1 in
    c.clear.ensures ∙ done_all a.w a.f a.xs.now a.posts.now l.posts a.p l.q c.requires.within.room d
