-- An early refusal, or the answer of the search.
use Rattle.std.proofs.Common.{arith, refl}
use Rattle.std.proofs.lemmas.Result.{err_from_is_err_and}
use Rattle.soundness.specs.Scan.{words}
use Rattle.soundness.proofs.Refusal.{numbered}
use Rattle.query_rank.specs.Answers.{finding_answer}
use Rattle.query_laws.proofs.Queries.{refused-is}
use Rattle.panako_judge.specs.Scheme.{beyond, panako}
use Rattle.panako_query.proofs.Queries.{searchable, few-votes, found-is}
use Rattle.panako_query.proofs.query.Goals as goal

pub returns-in_err-of_query-clause-stops_value : goal.returns-in_err-of_query-clause-stops_value
unfolding beyond
returns-in_err-of_query-clause-stops_value c =
    let a = c.args in
    let p = err_from_is_err_and c.from_residual.result c.from_residual.ensures.1 in
    rw (p.1, p.2)
    (refused-is panako (omega arith) (words a.refs.now a.posts.now a.stops.now) (record { cfg = a.cfg; rate = a.frames_per_sec }) a.set a.hashes.now a.s.now _ (rw (c.within_limits-beyond.ensures, c.query_of-q.ensures) at c.in_err-of_query.ensures)
    (numbered c.in_err-of_query.field-0.0))

pub header-requires : goal.header-requires
unfolding beyond
header-requires c =
    let a = c.args in
    let P = searchable (words a.refs.now a.posts.now a.stops.now) (record { cfg = a.cfg; rate = a.frames_per_sec }) a.set a.hashes.now a.s.now 0 (rw (c.within_limits-beyond.ensures, c.query_of-q.ensures) at c.in_ok-of_query.ensures) refl in
    omega (arith, P.limits.rows)

pub invariant_of-search : goal.invariant_of-search
unfolding beyond
invariant_of-search c =
    let a = c.args in
    let P = searchable (words a.refs.now a.posts.now a.stops.now) (record { cfg = a.cfg; rate = a.frames_per_sec }) a.set a.hashes.now a.s.now 0 (rw (c.within_limits-beyond.ensures, c.query_of-q.ensures) at c.in_ok-of_query.ensures) refl in
    record { sought = rw (c.header.ensures.postings, c.query_of-q.ensures) P.packable.walk }

pub invariant_of-search-2 : goal.invariant_of-search-2
unfolding beyond
invariant_of-search-2 c =
    let a = c.args in
    let P = searchable (words a.refs.now a.posts.now a.stops.now) (record { cfg = a.cfg; rate = a.frames_per_sec }) a.set a.hashes.now a.s.now 0 (rw (c.within_limits-beyond.ensures, c.query_of-q.ensures) at c.in_ok-of_query.ensures) refl in
    record { posted = rw c.query_of-q.ensures P; all_postings = c.header.ensures.postings; posting_words = λ i. (c.type_inv.posts i).fits; all_hashes = refl; hash_words = λ i. (c.type_inv.hashes i).fits; own_grid = c.scale_grid-grid.ensures.value }

pub search-requires : goal.search-requires
unfolding beyond
search-requires c =
    let a = c.args in
    few-votes (words a.refs.now a.posts.now a.stops.now) (record { cfg = a.cfg; rate = a.frames_per_sec }) a.set a.hashes.now a.s.now 0 (rw (c.within_limits-beyond.ensures, c.query_of-q.ensures) at c.in_ok-of_query.ensures) refl

pub returns-clause-stops_value : goal.returns-clause-stops_value
unfolding beyond
returns-clause-stops_value c =
    let a = c.args in
    found-is (words a.refs.now a.posts.now a.stops.now) (record { cfg = a.cfg; rate = a.frames_per_sec }) a.set a.hashes.now a.s.now 0 (rw (c.within_limits-beyond.ensures, c.query_of-q.ensures) at c.in_ok-of_query.ensures) refl
    (λ i. (c.type_inv.hashes i).fits) (λ i. (c.type_inv.posts i).fits)
    (finding_answer c.search.result) (rw c.query_of-q.ensures at c.search.ensures.result_value)
