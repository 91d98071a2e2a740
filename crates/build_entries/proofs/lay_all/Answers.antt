-- `build_entries::lay_all` meets its contract. Assumes nothing.
use Rattle.std.proofs.Common.{ℕ, ◌*◌, ◌-◌, take, drop, arith, refl, sym, ap, ◌∙◌}
use Rattle.lists.specs.Lists.{sum, flat}
use Rattle.maps.proofs.Entries.{scale-le}
use Rattle.build_ranges.proofs.Props.{fitting}
use Rattle.build_stops.proofs.Walk.{sum-few}
use Rattle.build_entries.proofs.Prefix.{words_of}
use Rattle.build_entries.proofs.Placing.{ranks-held, keyed-held, sorted-readable, sorted-laid}
use Rattle.build_entries.proofs.lay_all.Goals as goal

pub fill_starts-requires : goal.fill_starts-requires
fill_starts-requires c = ((fitting c.args.arrivals.fit).recordings, sum-few c.args.arrivals.hashes.now (c.args.arrivals.width - 1) c.args.arrivals.lengths.now (fitting c.args.arrivals.fit), refl)

pub fill_ranks-m-requires : goal.fill_ranks-m-requires
fill_ranks-m-requires c =
    let a = c.args in
    let fit = fitting a.arrivals.fit in
    (omega (arith, scale-le a.arrivals.width (sum a.arrivals.lengths.now) (omega (arith, c.requires.0)), c.requires.1), fit.recordings, fit.short)

pub sort_ranks-requires : goal.sort_ranks-requires
sort_ranks-requires c =
    let a = c.args in
    let fit = (fitting c.args.arrivals.fit) in
    let starts = c.fill_starts.new.starts in
    let g = c.fill_ranks-m in
    let few = scale-le a.arrivals.width (sum a.arrivals.lengths.now) (omega (arith, c.requires.0)) in
    let room = ap (λ (k : ℕ). a.arrivals.width * k) g.ensures.0 in (
      ranks-held a.arrivals.hashes.now a.arrivals.width a.arrivals.lengths.now starts fit c.fill_starts.ensures g.result g.new.posts g.ensures.0 g.ensures.1 (omega (arith, few, c.requires.1, g.ensures.0, g.auto.posts)),
      keyed-held a.arrivals.hashes.now a.arrivals.width a.arrivals.lengths.now starts fit c.fill_starts.ensures g.result g.new.posts g.ensures.0 g.ensures.1,
      omega (arith, c.requires.0),
      omega (arith, words_of a.arrivals.width g.result (omega (arith, c.requires.0)), room, c.requires.1, g.auto.posts),
      fit.keys,
    )

pub lay_ranks-requires : goal.lay_ranks-requires
lay_ranks-requires c =
    let a = c.args in
    let g = c.fill_ranks-m in
    let room = ap (λ (k : ℕ). a.arrivals.width * k) g.ensures.0 in (
      omega (arith, c.requires.0),
      omega (arith, room, c.requires.1, g.auto.posts, c.sort_ranks.auto.posts),
      sorted-readable a.arrivals.hashes.now a.arrivals.width a.arrivals.lengths.now c.fill_starts.new.starts (fitting c.args.arrivals.fit) c.fill_starts.ensures g.result g.new.posts g.ensures.0 g.ensures.1
          (take g.result (drop ((a.arrivals.width - 1) * g.result) c.sort_ranks.new.posts)) c.sort_ranks.ensures,
    )

pub returns : goal.returns
returns c =
    let a = c.args in
    let g = c.fill_ranks-m in
    ap (λ (k : ℕ). take (a.arrivals.width * k) c.lay_ranks.new.posts) (sym g.ensures.0)
    ∙ c.lay_ranks.ensures
    ∙ ap flat (sorted-laid a.arrivals.hashes.now a.arrivals.width a.arrivals.lengths.now c.fill_starts.new.starts (fitting c.args.arrivals.fit) c.fill_starts.ensures g.result g.new.posts g.ensures.0 g.ensures.1
    (take g.result (drop ((a.arrivals.width - 1) * g.result) c.sort_ranks.new.posts)) c.sort_ranks.ensures)
