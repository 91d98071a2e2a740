-- Sorting changes the order of the votes alone.
use Rattle.std.proofs.Common.{◌≡◌, List, ℕ, ℤ, length, get_or, arith, ap, ◌∙◌}
use Rattle.lists.specs.Entries.{entries}
use Rattle.query_search.specs.Starts.{met}
use Rattle.query_search.specs.Voting.{voting}
use Rattle.wang_votes.specs.Gathered.{words}
use Rattle.wang_judge.specs.declared.WangQuery.{WangQuery}
use Rattle.sorting.specs.Sort.{sort_z}
use Rattle.query_laws.proofs.Sorted.{sorted-best}
use Rattle.wang_query.specs.Candidates.{reading, words_in}
use Rattle.wang_query.proofs.Sorted.{gathered-many, sorted-votes}
use Rattle.wang_query.proofs.Turns.{fair}
use Rattle.wang_query.proofs.asked.Asked.best_candidate.Goals as goal

-- what the gathering promised, of all postings and all hashes
many : (p m v : ℕ) (set : ℕ) (q : WangQuery) (rs ps hs : List ℕ) → p ≡ get_or rs 2 0 → m ≡ q.q_len
    → v ≡ met (voting set rs (entries 3 p ps)) (entries 2 m hs) → v ≡ length (words_in set q rs ps hs)
many p m v set q rs ps hs pe me e = rw (pe, me) at e ∙ gathered-many set q rs ps hs

gathered : (p m top : ℕ) (zs : List ℤ) (set : ℕ) (q : WangQuery) (rs ps hs : List ℕ) → p ≡ get_or rs 2 0 → m ≡ q.q_len → top ≡ q.q_max
    → zs ≡ words top (voting set rs (entries 3 p ps)) (entries 2 m hs) → zs ≡ words_in set q rs ps hs
gathered p m top zs set q rs ps hs pe me te e = rw (pe, me, te) at e

pub gather-v-requires : goal.gather-v-requires
gather-v-requires c =
    let a = c.args.self in
    let n = gathered-many a.voters.set a.q a.voters.refs.now a.search.posts.now a.search.hashes.now in
    let starts = rw a.all_postings at c.requires.2 in
    let ends = rw a.all_postings at c.requires.3 in
    rw (c.from.ensures, a.all_postings) (rw a.all_hashes a.posted.packable, starts, ends, c.requires.4, c.requires.5, rw a.all_hashes (omega (arith, c.requires.1, n)))

pub sort_words-requires : goal.sort_words-requires
sort_words-requires c =
    let a = c.args.self in
    let n = many a.search.count a.search.hash_count c.gather-v.result a.voters.set a.q a.voters.refs.now a.search.posts.now a.search.hashes.now a.all_postings a.all_hashes c.gather-v.ensures.0 in
    omega (arith, c.requires.1)

pub best_of-requires : goal.best_of-requires
best_of-requires c =
    let a = c.args.self in
    let g = c.gather-v in
    let n = many a.search.count a.search.hash_count g.result a.voters.set a.q a.voters.refs.now a.search.posts.now a.search.hashes.now a.all_postings a.all_hashes g.ensures.0 in
    let zs = gathered a.search.count a.search.hash_count c.from.result _ a.voters.set a.q a.voters.refs.now a.search.posts.now a.search.hashes.now a.all_postings a.all_hashes c.from.ensures g.ensures.1 in
    sorted-votes a.voters.set a.voters.refs.now a.search.posts.now a.search.hashes.now a.q a.posted a.words c.sort_words.new.w g.result n (c.sort_words.ensures.0 ∙ ap sort_z zs)
    (omega (arith, c.requires.0)) (omega (arith, c.requires.1, c.sort_words.auto.w, g.auto.s))

pub returns : goal.returns
returns c =
    let a = c.args.self in
    let g = c.gather-v in
    let n = many a.search.count a.search.hash_count g.result a.voters.set a.q a.voters.refs.now a.search.posts.now a.search.hashes.now a.all_postings a.all_hashes g.ensures.0 in
    let zs = gathered a.search.count a.search.hash_count c.from.result _ a.voters.set a.q a.voters.refs.now a.search.posts.now a.search.hashes.now a.all_postings a.all_hashes c.from.ensures g.ensures.1 in
    c.best_of.ensures
    ∙ sorted-best (words_in a.voters.set a.q a.voters.refs.now a.search.posts.now a.search.hashes.now) c.sort_words.new.w g.result n (c.sort_words.ensures.0 ∙ ap sort_z zs) (reading a.q) (fair a.q) a.voters.refs.now
