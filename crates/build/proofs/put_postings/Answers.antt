-- `build::put_postings` meets its contract. Assumes nothing.
use Rattle.std.proofs.Common.{◌≡◌, List, ℕ, ◌*◌, length, arith, ap, ◌∙◌}
use native.Mathlib.Nat.{mul-le-mul_left}
use Rattle.lists.specs.Lists.{flat}
use Rattle.build_ranges.proofs.Props.{fitting}
use Rattle.build_stops.specs.Over.{over_keys, keys_of, kept}
use Rattle.build_entries.specs.Laid.{laid_entries}
use Rattle.build.proofs.Accepted.{entries-laid, ascend-laid, padded-is}
use Rattle.build.proofs.put_postings.Goals as goal

pub stop_runs-left-requires : goal.stop_runs-left-requires
stop_runs-left-requires c =
    let a = c.args in
    let r = c.requires in
    let g = c.lay_all in (
      omega (arith, r.0),
      omega (arith, g.auto.posts, r.2),
      ascend-laid a.arrivals.hashes.now a.arrivals.width a.arrivals.lengths.now r.0 (fitting a.arrivals.fit) a.m g.new.posts r.1 g.ensures,
      rw (entries-laid a.arrivals.hashes.now a.arrivals.width a.arrivals.lengths.now r.0 (fitting a.arrivals.fit) a.m g.new.posts r.1 g.ensures) r.3,
    )

pub returns : goal.returns
returns c =
    let a = c.args in
    let g = c.stop_runs-left in
    let laid : List (List ℕ) = laid_entries a.arrivals.hashes.now a.arrivals.width a.arrivals.lengths.now in
    let es = entries-laid a.arrivals.hashes.now a.arrivals.width a.arrivals.lengths.now c.requires.0 (fitting a.arrivals.fit) a.m c.lay_all.new.posts c.requires.1 c.lay_all.ensures in
    let long : length g.new.posts ≡ length a.posts.now = g.auto.posts ∙ c.lay_all.auto.posts in
    let many : g.result.stopped ≡ length (over_keys a.limit (keys_of laid)) = g.ensures.3 ∙ ap (λ (l : List (List ℕ)). length (over_keys a.limit (keys_of l))) es in (
      g.ensures.0 ∙ ap (λ (l : List (List ℕ)). length (kept a.limit l)) es,
      g.ensures.1,
      many,
      c.clear_from.ensures ∙ padded-is (length a.posts.now) (a.arrivals.width * g.result.postings) g.new.posts (flat (kept a.limit laid)) long
          (omega (arith, mul-le-mul_left a.arrivals.width g.ensures.1, c.requires.2)) (g.ensures.2 ∙ ap (λ (l : List (List ℕ)). flat (kept a.limit l)) es),
      c.clear_from-2.ensures ∙ padded-is (length a.stops.now) g.result.stopped g.new.stops (over_keys a.limit (keys_of laid)) g.auto.stops
          (omega (arith, many, c.requires.3)) (g.ensures.4 ∙ ap (λ (l : List (List ℕ)). over_keys a.limit (keys_of l)) es),
    )
