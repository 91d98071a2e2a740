-- Votes of the recordings 1, 2 and 1, with eight bits behind the recording. Assumes nothing.
use Rattle.std.specs.Prelude.{◌≡◌, refl, List, [], ◌∷◌, ℤ, pos}
use Rattle.lists.specs.Lists.{keep}
use Rattle.maps.specs.Lists.{count_if}
use Rattle.main_votes.specs.Main.{main_of}

abbrev votes : List ℤ
votes = pos 263 ∷ pos 513 ∷ pos 259 ∷ []

-- where a candidate needs two votes, recording 2 is none
left_out : main_of 0 8 2 votes ≡ pos 263 ∷ pos 259 ∷ []
unfolding main_of keep count_if
left_out = refl

-- where one is enough, all stay
all_stay : main_of 0 8 1 votes ≡ votes
unfolding main_of keep count_if
all_stay = refl

-- where recording 2 comes first, it is the one that stays
first-stays : main_of 0 8 3 (pos 513 ∷ votes) ≡ pos 513 ∷ pos 513 ∷ []
unfolding main_of keep count_if
first-stays = refl
