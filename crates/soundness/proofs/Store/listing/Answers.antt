-- `soundness::Store::listing` meets its contract. Assumes nothing.
use Rattle.std.proofs.Common.{sym, ◌∙◌, refl}
use Rattle.soundness.specs.Scan.{words}
use Rattle.soundness.proofs.Sound.{header-there, counts-no, counts-yes, counts-room}
use Rattle.soundness.proofs.Refusal.{refusal-unlisted, refusal-unsound, refusal-number}
use Rattle.soundness.proofs.Store.listing.Goals as goal

pub returns-then-not-is_listed-clause-number_value : goal.returns-then-not-is_listed-clause-number_value
returns-then-not-is_listed-clause-number_value c = let s = c.args.self in
    sym (refusal-unlisted s.width (words s.refs.now s.posts.now s.stops.now) (sym c.is_listed.ensures ∙ c.if-not-is_listed.true))

pub header-c-requires : goal.header-c-requires
header-c-requires c = let s = c.args.self in header-there s.width s.refs.now s.posts.now s.stops.now s.wide (sym c.is_listed.ensures ∙ c.if-not-is_listed.false)

pub counts_fit-requires : goal.counts_fit-requires
counts_fit-requires c = let s = c.args.self in header-there s.width s.refs.now s.posts.now s.stops.now s.wide (sym c.is_listed.ensures ∙ c.if-not-is_listed.false)

pub listed_within-requires : goal.listed_within-requires
listed_within-requires c =
    let s = c.args.self in
    let h = c.header-c.ensures in
    counts-room s.width s.refs.now s.posts.now s.stops.now s.wide (sym c.is_listed.ensures ∙ c.if-not-is_listed.false) h.rows h.vacant h.postings h.stopped (sym c.counts_fit.ensures ∙ c.if-not-counts_fit.false)

pub returns-then-not-counts_fit-clause-number_value : goal.returns-then-not-counts_fit-clause-number_value
returns-then-not-counts_fit-clause-number_value c =
    let s = c.args.self in
    let h = c.header-c.ensures in
    let l = sym c.is_listed.ensures ∙ c.if-not-is_listed.false in
    let n = counts-no s.width s.refs.now s.posts.now s.stops.now s.wide l h.rows h.vacant h.postings h.stopped (sym c.counts_fit.ensures ∙ c.if-not-counts_fit.true) in
    sym (refusal-unsound s.width (words s.refs.now s.posts.now s.stops.now) l (sym n))

pub returns-clause-number_value : goal.returns-clause-number_value
returns-clause-number_value c =
    let s = c.args.self in
    let h = c.header-c.ensures in
    let l = sym c.is_listed.ensures ∙ c.if-not-is_listed.false in
    c.listed_within.ensures.number_value
    ∙ refusal-number s.width (words s.refs.now s.posts.now s.stops.now) l _ (counts-yes s.width s.refs.now s.posts.now s.stops.now s.wide l h.rows h.vacant h.postings h.stopped (sym c.counts_fit.ensures ∙ c.if-not-counts_fit.false) _ refl)

pub returns-clause-noted : goal.returns-clause-noted
returns-clause-noted c = rw c.header-c.ensures.postings at c.listed_within.ensures.noted
