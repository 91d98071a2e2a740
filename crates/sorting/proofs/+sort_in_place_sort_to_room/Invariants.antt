use Rattle.std.proofs.Common.{◌-◌}
use Rattle.sorting.proofs.+sort_in_place_sort_to_room.Given as goal

-- the measure of each: how many words there are to sort
abbrev pub decreases-sort_in_place : goal.decreases-sort_in_place
decreases-sort_in_place l = l.hi - l.lo

abbrev pub decreases-sort_to_room : goal.decreases-sort_to_room
decreases-sort_to_room l = l.hi - l.lo
