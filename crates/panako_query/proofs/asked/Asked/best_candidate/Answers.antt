-- Votes that decide nothing are left out; votes of one recording with few bins are judged as they stand; sorting changes the order of the votes alone.
use Rattle.std.proofs.Common.{◌≡◌, List, ℕ, ℤ, ◌*◌, ◌^◌, ◌≤◌, ◌<◌, refl, length, get_or, take, arith, sym, ap, ◌∙◌}
use lib.Seq.{length-take-le}
use Rattle.lists.specs.Lists.{All}
use Rattle.lists.specs.Entries.{entries}
use Rattle.sorting.specs.Sort.{sort_z}
use Rattle.panako_vote.specs.declared.ScaleGrid.{ScaleGrid}
use Rattle.panako_vote.specs.Grids.{grid_of}
use Rattle.panako_vote.specs.Words.{lowest}
use Rattle.main_votes.proofs.Mains.{main-all}
use Rattle.query_search.specs.Voting.{voting}
use Rattle.query_laws.proofs.Sorted.{sorted-best}
use Rattle.panako_judge.specs.declared.PanakoQuery.{PanakoQuery}
use Rattle.panako_votes.specs.Gathered.{words, vote_count}
use Rattle.panako_query.specs.Candidates.{reading, best_in, words_in, main_in, Known, Posted}
use Rattle.panako_query.proofs.Main.{main-best}
use Rattle.panako_query.proofs.Sorted.{all_known, sorted-votes, first-known}
use Rattle.panako_query.proofs.Turns.{fair}
use Rattle.panako_query.proofs.asked.Asked.best_candidate.Goals as goal

-- the words that were gathered, v of them, and the m of them that decide
module _ (set : ℕ) (q : PanakoQuery) (rs ps hs : List ℕ) (p n : ℕ) (g : ScaleGrid) (pe : p ≡ get_or rs 2 0) (ne : n ≡ q.q_len) (ge : g ≡ grid_of q.cfg) where
  abbrev all : List ℤ
  all = words_in set q rs ps hs

  named : words g (voting set rs (entries 5 p ps)) (entries 4 n hs) ≡ words_in set q rs ps hs
  named = rw (pe, ne, ge) refl

  module _ (v : ℕ) (l : List ℤ) (ve : v ≡ vote_count g (voting set rs (entries 5 p ps)) (entries 4 n hs)) (le : take v l ≡ words g (voting set rs (entries 5 p ps)) (entries 4 n hs)) where
    many : v ≡ length (words_in set q rs ps hs)
    many = ve ∙ ap length named

    module _ (m : ℕ) (k : List ℤ) (ke : take m k ≡ main_in q (take v l)) (few : m ≤ v) where
      chosen : take m k ≡ main_in q (words_in set q rs ps hs)
      chosen = ke ∙ ap (main_in q) (le ∙ named)

      most : m ≤ length k → m ≡ length (main_in q (words_in set q rs ps hs))
      most h = sym (length-take-le m k h) ∙ ap length chosen

known : (set : ℕ) (q : PanakoQuery) (rs ps hs : List ℕ) → Posted rs ps hs q → ((i : ℕ) → get_or ps i 0 < 2 ^ 32) → ((i : ℕ) → get_or hs i 0 < 2 ^ 32)
    → All (Known rs) (main_in q (words_in set q rs ps hs))
known set q rs ps hs P post-bits hash-bits = main-all lowest 52 q.cfg.min_votes (words_in set q rs ps hs) (Known rs) (all_known set rs ps hs q P post-bits hash-bits)

pub best_of_few-requires : goal.best_of_few-requires
best_of_few-requires c =
    let a = c.args.self in
    let rs = a.voters.refs.now in
    let zs : List ℤ = words_in a.voters.set a.q a.voters.refs.now a.search.posts.now a.search.hashes.now in
    let g = c.gather-v in
    let m = c.main_votes-m in
    let all_many = many a.voters.set a.q a.voters.refs.now a.search.posts.now a.search.hashes.now a.search.count a.search.hash_count a.grid a.all_postings a.all_hashes a.own_grid g.result g.new.s g.ensures.0 g.ensures.1 in
    let room : 6 * m.result ≤ length m.new.s = omega (arith, m.ensures.1, m.auto.s, g.auto.s, c.requires.1) in
    let kept : take m.result c.few_bins.new.s ≡ main_in a.q zs =
    c.few_bins.ensures.s_unchanged ∙ chosen a.voters.set a.q a.voters.refs.now a.search.posts.now a.search.hashes.now a.search.count a.search.hash_count a.grid a.all_postings a.all_hashes a.own_grid g.result g.new.s g.ensures.0 g.ensures.1 m.result m.new.s m.ensures.0 m.ensures.1 in
    let mains = most a.voters.set a.q a.voters.refs.now a.search.posts.now a.search.hashes.now a.search.count a.search.hash_count a.grid a.all_postings a.all_hashes a.own_grid g.result g.new.s g.ensures.0 g.ensures.1 m.result m.new.s m.ensures.0 m.ensures.1 (omega arith) in
    let K = known a.voters.set a.q a.voters.refs.now a.search.posts.now a.search.hashes.now a.posted a.posting_words a.hash_words in
    let A = c.in-Some.ensures.alike in
    (a.posted.limits, A, first-known rs a.q (main_in a.q zs) K c.few_bins.new.s m.result mains kept A.votes.some, omega (arith, c.requires.0, m.ensures.1))

pub returns-in-Some : goal.returns-in-Some
returns-in-Some c =
    let a = c.args.self in
    let rs = a.voters.refs.now in
    let zs : List ℤ = words_in a.voters.set a.q a.voters.refs.now a.search.posts.now a.search.hashes.now in
    let g = c.gather-v in
    let m = c.main_votes-m in
    let all_many = many a.voters.set a.q a.voters.refs.now a.search.posts.now a.search.hashes.now a.search.count a.search.hash_count a.grid a.all_postings a.all_hashes a.own_grid g.result g.new.s g.ensures.0 g.ensures.1 in
    let room : 6 * m.result ≤ length m.new.s = omega (arith, m.ensures.1, m.auto.s, g.auto.s, c.requires.1) in
    let kept : take m.result c.few_bins.new.s ≡ main_in a.q zs =
    c.few_bins.ensures.s_unchanged ∙ chosen a.voters.set a.q a.voters.refs.now a.search.posts.now a.search.hashes.now a.search.count a.search.hash_count a.grid a.all_postings a.all_hashes a.own_grid g.result g.new.s g.ensures.0 g.ensures.1 m.result m.new.s m.ensures.0 m.ensures.1 in
    let mains = most a.voters.set a.q a.voters.refs.now a.search.posts.now a.search.hashes.now a.search.count a.search.hash_count a.grid a.all_postings a.all_hashes a.own_grid g.result g.new.s g.ensures.0 g.ensures.1 m.result m.new.s m.ensures.0 m.ensures.1 (omega arith) in
    let K = known a.voters.set a.q a.voters.refs.now a.search.posts.now a.search.hashes.now a.posted a.posting_words a.hash_words in
    c.best_of_few.ensures ∙ ap (best_in a.q rs) kept ∙ main-best a.q rs zs

pub best_of-requires : goal.best_of-requires
best_of-requires c =
    let a = c.args.self in
    let rs = a.voters.refs.now in
    let zs : List ℤ = words_in a.voters.set a.q a.voters.refs.now a.search.posts.now a.search.hashes.now in
    let g = c.gather-v in
    let m = c.main_votes-m in
    let all_many = many a.voters.set a.q a.voters.refs.now a.search.posts.now a.search.hashes.now a.search.count a.search.hash_count a.grid a.all_postings a.all_hashes a.own_grid g.result g.new.s g.ensures.0 g.ensures.1 in
    let room : 6 * m.result ≤ length m.new.s = omega (arith, m.ensures.1, m.auto.s, g.auto.s, c.requires.1) in
    let kept : take m.result c.few_bins.new.s ≡ main_in a.q zs =
    c.few_bins.ensures.s_unchanged ∙ chosen a.voters.set a.q a.voters.refs.now a.search.posts.now a.search.hashes.now a.search.count a.search.hash_count a.grid a.all_postings a.all_hashes a.own_grid g.result g.new.s g.ensures.0 g.ensures.1 m.result m.new.s m.ensures.0 m.ensures.1 in
    let mains = most a.voters.set a.q a.voters.refs.now a.search.posts.now a.search.hashes.now a.search.count a.search.hash_count a.grid a.all_postings a.all_hashes a.own_grid g.result g.new.s g.ensures.0 g.ensures.1 m.result m.new.s m.ensures.0 m.ensures.1 (omega arith) in
    let K = known a.voters.set a.q a.voters.refs.now a.search.posts.now a.search.hashes.now a.posted a.posting_words a.hash_words in
    sorted-votes rs a.q (main_in a.q zs) K c.sort_words.new.w m.result mains a.posted.limits (c.sort_words.ensures.0 ∙ ap sort_z kept) (omega (arith, c.requires.0, m.ensures.1))
    (omega (arith, c.sort_words.auto.w, c.few_bins.auto.s))

pub returns : goal.returns
returns c =
    let a = c.args.self in
    let rs = a.voters.refs.now in
    let zs : List ℤ = words_in a.voters.set a.q a.voters.refs.now a.search.posts.now a.search.hashes.now in
    let g = c.gather-v in
    let m = c.main_votes-m in
    let all_many = many a.voters.set a.q a.voters.refs.now a.search.posts.now a.search.hashes.now a.search.count a.search.hash_count a.grid a.all_postings a.all_hashes a.own_grid g.result g.new.s g.ensures.0 g.ensures.1 in
    let room : 6 * m.result ≤ length m.new.s = omega (arith, m.ensures.1, m.auto.s, g.auto.s, c.requires.1) in
    let kept : take m.result c.few_bins.new.s ≡ main_in a.q zs =
    c.few_bins.ensures.s_unchanged ∙ chosen a.voters.set a.q a.voters.refs.now a.search.posts.now a.search.hashes.now a.search.count a.search.hash_count a.grid a.all_postings a.all_hashes a.own_grid g.result g.new.s g.ensures.0 g.ensures.1 m.result m.new.s m.ensures.0 m.ensures.1 in
    let mains = most a.voters.set a.q a.voters.refs.now a.search.posts.now a.search.hashes.now a.search.count a.search.hash_count a.grid a.all_postings a.all_hashes a.own_grid g.result g.new.s g.ensures.0 g.ensures.1 m.result m.new.s m.ensures.0 m.ensures.1 (omega arith) in
    let K = known a.voters.set a.q a.voters.refs.now a.search.posts.now a.search.hashes.now a.posted a.posting_words a.hash_words in
    c.best_of.ensures
    ∙ sorted-best (main_in a.q zs) c.sort_words.new.w m.result mains (c.sort_words.ensures.0 ∙ ap sort_z kept) (reading a.q) (fair a.q) rs
    ∙ main-best a.q rs zs
