-- Where the votes fit, the best is answered.
use Rattle.std.proofs.Common.{◌≡◌, Bool, List, ℕ, ◌+◌, ◌/◌, ◌≤◌, ◌<◌, min, length, get_or, arith, rules, refl, sym, ◌∙◌}
use Rattle.std.specs.Prelude.{leb}
use borrow.Author.Tests.{leb-true, leb-false}
use Rattle.lists.specs.Entries.{entries}
use Rattle.panako_vote.specs.declared.ScaleGrid.{ScaleGrid}
use Rattle.panako_vote.specs.Grids.{grid_of}
use Rattle.query_search.specs.Voting.{voting}
use Rattle.query_rank.specs.Answers.{best_so_far}
use Rattle.query_rank.proofs.Answers as rank
use Rattle.query_laws.proofs.Answers.{too_many, answered}
use Rattle.panako_judge.specs.declared.PanakoQuery.{PanakoQuery}
use Rattle.panako_votes.specs.Gathered.{vote_count}
use Rattle.panako_query.specs.Candidates.{reading, words_in}
use Rattle.panako_query.proofs.asked.Asked.search_in.Goals as goal

fitting : (b : Bool) (room set : ℕ) (q : PanakoQuery) (rs ps hs : List ℕ) (p n : ℕ) (g : ScaleGrid) → p ≡ get_or rs 2 0 → n ≡ q.q_len → g ≡ grid_of q.cfg
    → b ≡ leb (vote_count g (voting set rs (entries 5 p ps)) (entries 4 n hs)) room → leb (length (words_in set q rs ps hs)) room ≡ b
fitting b room set q rs ps hs p n g pe ne ge e = sym (rw (pe, ne, ge) at e)

pub returns-then-not-fits-clause-result_value : goal.returns-then-not-fits-clause-result_value
returns-then-not-fits-clause-result_value c =
    let a = c.args.self in
    let room = length c.args.s.now / 12 in
    let zs = words_in a.voters.set a.q a.voters.refs.now a.search.posts.now a.search.hashes.now in
    let f = fitting c.fits.result room a.voters.set a.q a.voters.refs.now a.search.posts.now a.search.hashes.now a.search.count a.search.hash_count a.grid a.all_postings a.all_hashes a.own_grid c.fits.ensures.value in
    let over : room < length zs = leb-false (length zs) room (f ∙ c.if-not-fits.true) in
    (too_many (reading a.q) room a.voters.refs.now zs (min (room + 1) (length zs)) refl c.args.s.now (omega arith)).0

pub returns-then-not-fits-clause-s_after : goal.returns-then-not-fits-clause-s_after
returns-then-not-fits-clause-s_after c =
    let a = c.args.self in
    let room = length c.args.s.now / 12 in
    let zs = words_in a.voters.set a.q a.voters.refs.now a.search.posts.now a.search.hashes.now in
    let f = fitting c.fits.result room a.voters.set a.q a.voters.refs.now a.search.posts.now a.search.hashes.now a.search.count a.search.hash_count a.grid a.all_postings a.all_hashes a.own_grid c.fits.ensures.value in
    let over : room < length zs = leb-false (length zs) room (f ∙ c.if-not-fits.true) in
    (too_many (reading a.q) room a.voters.refs.now zs (min (room + 1) (length zs)) refl c.args.s.now (omega arith)).1

pub best_candidate-best-requires : goal.best_candidate-best-requires
best_candidate-best-requires c =
    let a = c.args.self in
    let room = length c.args.s.now / 12 in
    let zs = words_in a.voters.set a.q a.voters.refs.now a.search.posts.now a.search.hashes.now in
    let f = fitting c.fits.result room a.voters.set a.q a.voters.refs.now a.search.posts.now a.search.hashes.now a.search.count a.search.hash_count a.grid a.all_postings a.all_hashes a.own_grid c.fits.ensures.value in
    let fit : length zs ≤ room = leb-true (length zs) room (f ∙ c.if-not-fits.false) in
    (omega (arith, c.requires.0), omega arith, c.seek.ensures, c.fits.ensures.ends c.if-not-fits.false, omega (arith, c.requires.1.long, c.seek.auto.starts), omega (arith, c.requires.2, c.fits.auto.ends), c.requires.3)

pub returns-clause-result_value : goal.returns-clause-result_value
returns-clause-result_value c =
    let a = c.args.self in
    let room = length c.args.s.now / 12 in
    let zs = words_in a.voters.set a.q a.voters.refs.now a.search.posts.now a.search.hashes.now in
    let best = c.best_candidate-best in
    let f = fitting c.fits.result room a.voters.set a.q a.voters.refs.now a.search.posts.now a.search.hashes.now a.search.count a.search.hash_count a.grid a.all_postings a.all_hashes a.own_grid c.fits.ensures.value in
    let fit : length zs ≤ room = leb-true (length zs) room (f ∙ c.if-not-fits.false) in
    (answered (reading a.q) room a.voters.refs.now zs (min (room + 1) (length zs)) refl (omega arith) (best_so_far best.result) _ c.args.s.now c.fill.new.self _ best.ensures (rank.answered best.result)
    best.auto.s (search rules)).0

pub returns-clause-s_after : goal.returns-clause-s_after
returns-clause-s_after c =
    let a = c.args.self in
    let room = length c.args.s.now / 12 in
    let zs = words_in a.voters.set a.q a.voters.refs.now a.search.posts.now a.search.hashes.now in
    let best = c.best_candidate-best in
    let f = fitting c.fits.result room a.voters.set a.q a.voters.refs.now a.search.posts.now a.search.hashes.now a.search.count a.search.hash_count a.grid a.all_postings a.all_hashes a.own_grid c.fits.ensures.value in
    let fit : length zs ≤ room = leb-true (length zs) room (f ∙ c.if-not-fits.false) in
    (answered (reading a.q) room a.voters.refs.now zs (min (room + 1) (length zs)) refl (omega arith) (best_so_far best.result) _ c.args.s.now c.fill.new.self _ best.ensures (rank.answered best.result)
    best.auto.s (search rules)).1
