-- The search and the part under a key at postings of width 3: keys 5, 7, 7, 9. Assumes nothing.
use Rattle.std.specs.Prelude.{◌≡◌, refl, true, List, [], ◌∷◌, ℕ}
use Rattle.maps.specs.Sums.{sum_to}
use Rattle.lists.specs.Lists.{keep, flat}
use Rattle.lists.specs.Every.{every}
use Rattle.lists.specs.Entries.{entries, key_of, keys_ascend}
use Rattle.lists.specs.Keys.{under}
use Rattle.maps.specs.Entries.{first_at}

abbrev postings : List ℕ
postings = 5 ∷ 0 ∷ 2 ∷ 7 ∷ 0 ∷ 4 ∷ 7 ∷ 1 ∷ 6 ∷ 9 ∷ 0 ∷ 8 ∷ []

ascend : keys_ascend postings 3 4 ≡ true
unfolding keys_ascend every
ascend = refl

-- the entries of key 7 begin at 1 and end at 3; those of key 6, of which there are none, begin at 1 too
begins : first_at postings 3 4 7 ≡ 1
unfolding first_at sum_to
begins = refl

ends : first_at postings 3 4 8 ≡ 3
unfolding first_at sum_to
ends = refl

missing : first_at postings 3 4 6 ≡ 1
unfolding first_at sum_to
missing = refl

part : flat (under key_of 7 (entries 3 4 postings)) ≡ 7 ∷ 0 ∷ 4 ∷ 7 ∷ 1 ∷ 6 ∷ []
unfolding flat keep entries
part = refl
