use Rattle.std.proofs.Common.{◌≡◌, ◌++◌, ◌+◌, take}
use Rattle.build_ranges.specs.Codes.{tabulate}
use Rattle.build_entries.proofs.fill_part.Given as goal

abbrev pub invariant-loop-j : goal.invariant-loop-j
invariant-loop-j l = take (l.to + l.j) l.posts ≡ take l.to l.fn.posts ++ tabulate (λ j. l.base + j) l.j
