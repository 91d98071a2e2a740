-- `sheet_card::has_room` meets its contract. Assumes nothing.
use Rattle.sheet_card.proofs.Held.{room-is}
use Rattle.sheet_card.proofs.has_room.Goals as goal

pub returns : goal.returns
returns c = room-is c.args.card.now c.args.out.now
