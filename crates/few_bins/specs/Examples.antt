-- Votes of codes 7, 3 and 7: a vote of code 5 goes between the two, and 3 has one vote. Assumes nothing.
use Rattle.std.specs.Prelude.{◌≡◌, refl, false, List, [], ◌∷◌, ℕ}
use Rattle.std.proofs.Common.{arith}
use Rattle.lists.specs.Lists.{flat, insert_key}
use Rattle.maps.specs.Lists.{count_if}
use Rattle.bins.specs.Codes.{occupied, bins_of}
use Rattle.bins.specs.declared.Form.{Form}
use Rattle.few_bins.specs.Tally.{put_at, Tallied, first_bins}

abbrev votes : List ℕ
votes = 7 ∷ 3 ∷ 7 ∷ []

-- what stands behind the first d doesn't count
tally : Tallied (3 ∷ 7 ∷ 0 ∷ []) (1 ∷ 2 ∷ 9 ∷ []) 2 votes
unfolding occupied insert_key count_if
tally = record { held = refl; met = refl; fit = omega arith; room = omega arith }

between : occupied (5 ∷ votes) ≡ put_at 1 5 (occupied votes)
unfolding occupied insert_key
between = refl

abbrev form : Form
form = record { low = 0; bits = 0; size = 8; scaled = false }

words : first_bins form 4 (3 ∷ 7 ∷ 0 ∷ []) (1 ∷ 2 ∷ 9 ∷ []) 2 ≡ bins_of form 4 votes
unfolding occupied insert_key count_if flat first_bins bins_of
words = refl
