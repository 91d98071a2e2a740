-- Votes of recording 3 at places 8, 9 and 12, the first two of query position 5. Assumes nothing.
use Rattle.std.specs.Prelude.{◌≡◌, refl, List, [], ◌∷◌, ℤ, pos}
use Rattle.maps.specs.Sums.{sum_to}
use Rattle.bins.specs.Votes.{packed, places, positions}
use Rattle.bins.specs.Distinct.{marked, distinct_near}

abbrev scratch : List ℤ
scratch = pos (packed 3 8 5) ∷ pos (packed 3 9 5) ∷ pos (packed 3 12 6) ∷ []

place : places scratch 0 2 ≡ 12
unfolding places
place = refl

-- two votes of one position within 1 of place 9 count once; within 3 the third counts too
one : distinct_near 1 9 (places scratch 0) (positions scratch 0) 3 8 ≡ 1
unfolding distinct_near marked places positions sum_to
one = refl

two : distinct_near 3 9 (places scratch 0) (positions scratch 0) 3 8 ≡ 2
unfolding distinct_near marked places positions sum_to
two = refl
