-- Assumes nothing.
use Rattle.std.proofs.Common.{ℕ, ◌+◌, Bool, get_or, sym, ap, arith, le-ltb}
use Rattle.maps.specs.Sums.{when}
use Rattle.maps.specs.Entries.{first_at}
use Rattle.maps.proofs.Entries.{first-splits}
use Rattle.query_search.proofs.Meeting.{entry-below, entry-behind, first-test}
use Rattle.query_search.proofs.Search.first_under.Goals as goal

pub returns-then-a-self : goal.returns-then-a-self
returns-then-a-self g c =
    let s = c.args.self in
    let w = g.row.W in
    let below = entry-below w (first_at s.posts.now w s.count c.args.key) s.count (omega (arith, c.requires, c.if-a-self.true)) in
    rw c.step.ensures (first-test s.posts.now w s.count c.args.key s.sought.ascend (get_or s.posts.now c.args.a 0) below (ap (λ (k : ℕ). get_or s.posts.now k 0) c.requires))

pub returns : goal.returns
returns g c =
    let s = c.args.self in
    let w = g.row.W in
    let first = first_at s.posts.now w s.count c.args.key in
    let behind = entry-behind w first s.count s.sought.posting (omega (arith, c.requires, c.if-a-self.false)) in
    sym (ap (λ (b : Bool). when b 1) (le-ltb first (first_at s.posts.now w s.count (c.args.key + 1)) (omega (arith, behind, (first-splits s.posts.now w s.count (c.args.key + 1) s.sought.ascend).within))))
