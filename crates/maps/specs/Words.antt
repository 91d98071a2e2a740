-- Words of scratch: signed 64-bit numbers, of which natural numbers are read and stored. Assumes nothing: these are definitions.
use Rattle.std.specs.Prelude.{ℕ, ◌≤◌, ◌<◌, ◌≡◌, List, ℤ, pos, negsuc, get_or}

-- the natural number in a word, 0 where the word is negative
abbrev pub nat_of : ℤ → ℕ
nat_of (pos n) = n
nat_of (negsuc n) = 0

-- the words before d and those from e on are as they were
pub record SameOutside (w w' : List ℤ) (d e : ℕ) : Type 0 where
  pub before : (t : ℕ) → t < d → get_or w' t (pos 0) ≡ get_or w t (pos 0)
  pub after : (t : ℕ) → e ≤ t → get_or w' t (pos 0) ≡ get_or w t (pos 0)
