use Rattle.std.proofs.Common.{◌≡◌, ◌++◌, ◌+◌, ◌*◌, take, get_or}
use Rattle.lists.specs.Lists.{sum, flat}
use Rattle.model.specs.Words.{head_width, row_width}
use Rattle.build_ranges.specs.Codes.{tabulate}
use Rattle.build_entries.specs.Laid.{row_for}
use Rattle.build_entries.proofs.Recordings.put_rows.Given as goal

abbrev pub invariant-loop-i : goal.invariant-loop-i
invariant-loop-i l = (l.start ≡ sum (take l.i l.self.arrivals.lengths.now)) × (take (head_width + row_width * l.i) l.refs
    ≡ take head_width l.fn.refs ++ flat (tabulate (λ i. row_for l.self.arrivals.hashes.now l.self.arrivals.width (sum (take i l.self.arrivals.lengths.now)) (get_or l.self.arrivals.lengths.now i 0) (get_or l.self.rates.now i 0) (get_or l.self.sets.now i 0)) l.i))
