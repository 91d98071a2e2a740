use Rattle.std.proofs.Common.{◌≡◌, map, ◌+◌, ◌*◌, ◌-◌, take, drop}
use Rattle.lists.specs.Lists.{flat}
use Rattle.build_entries.specs.Laid.{entry_by, SameFrom}
use Rattle.build_entries.proofs.lay_ranks.Given as goal

abbrev pub invariant-loop-t : goal.invariant-loop-t
invariant-loop-t l = SameFrom ((l.w - 1) * l.m + l.t) l.fn.posts l.posts
    × (take (l.w * l.t) l.posts ≡ flat (map (entry_by l.hashes l.w l.starts) (take l.t (take l.m (drop ((l.w - 1) * l.m) l.fn.posts)))))
