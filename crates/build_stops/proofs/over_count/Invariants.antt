use Rattle.std.proofs.Common.{◌≡◌, map, ◌*◌, ◌-◌, ◌≤◌, ◌<◌, length}
use Rattle.build_ranges.specs.Codes.{top}
use Rattle.build_ranges.specs.Batches.{least}
use Rattle.build_stops.specs.Over.{key_in, Counted}
use Rattle.build_stops.proofs.Walk.{done}
use Rattle.build_stops.proofs.over_count.Given as goal

abbrev pub invariant-loop-turn : goal.invariant-loop-turn
invariant-loop-turn l = (length l.buf ≡ 40960) × (l.lo ≤ top) × (1 ≤ l.width) × (l.width ≤ top) × (l.st.run ≤ length (done l.arrivals.hashes.now (l.arrivals.width - 1) l.arrivals.lengths.now l.lo)) × (l.st.over ≤ length (done l.arrivals.hashes.now (l.arrivals.width - 1) l.arrivals.lengths.now l.lo))
    × Counted l.limit (map key_in (done l.arrivals.hashes.now (l.arrivals.width - 1) l.arrivals.lengths.now l.lo)) l.st.key l.st.run l.st.over
    × (l.lo < top → least * l.turn ≤ length (done l.arrivals.hashes.now (l.arrivals.width - 1) l.arrivals.lengths.now l.lo))
