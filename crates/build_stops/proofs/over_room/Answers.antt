-- `build_stops::over_room` meets its contract. Assumes nothing.
use Rattle.std.proofs.Common.{◌≤◌, ◌+◌, ◌-◌, ◌/◌, length, sym, ◌∙◌}
use borrow.Author.Tests.{le-ltb}
use Rattle.build_stops.proofs.Few.{over-room}
use Rattle.build_ranges.proofs.Props.{fitting}
use Rattle.build_stops.proofs.over_room.Goals as goal

pub returns-else-room-most : goal.returns-else-room-most
returns-else-room-most c =
    let few : length c.args.arrivals.hashes.now / (c.args.arrivals.width - 1) / (c.args.limit + 1) ≤ c.args.room = c.if-room-most.false in
    le-ltb c.args.room (length c.args.arrivals.hashes.now / (c.args.arrivals.width - 1) / (c.args.limit + 1)) few
    ∙ sym (over-room c.args.arrivals.hashes.now (c.args.arrivals.width - 1) c.args.arrivals.lengths.now c.args.limit c.args.room (fitting c.args.arrivals.fit) few)
