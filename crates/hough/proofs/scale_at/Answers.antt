use Rattle.hough.proofs.Places.{keys_up}
use Rattle.hough.proofs.scale_at.Goals as goal

pub invariant_of-scale : goal.invariant_of-scale
invariant_of-scale c = record { bins = c.requires.0; up = keys_up _ _ c.requires.0 }
