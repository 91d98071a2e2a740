-- A recording's row. w is the width of a posting: 3 for Wang, and anything else for an index whose rows have no r_max.
-- Definitions only. Assumes nothing.
use Rattle.std.specs.Prelude.{Bool, cond, not, ◌&&◌, ◌||◌, List, [], ◌∷◌, ℕ, max, get_or, eqb, leb, ltb}
use Rattle.std.specs.Float.{binary32}
use Rattle.std.specs.Float.Ieee.{nan_bits}
use Rattle.floats.specs.Words.{nan_word}
use Rattle.model.specs.Fingerprints.{Hash, Fingerprint}

-- what a live row says: the word of its rate's bits, r_max, and its set
pub record Row : Type 0 where
  pub rate : ℕ
  pub rmax : ℕ
  pub set : ℕ

abbrev pub has_rmax : ℕ → Bool
has_rmax w = eqb w 3

abbrev pub anchor : Hash → ℕ
anchor h = get_or h.times 0 0

-- the largest t_anchor, "0 if there are none"
unfoldable pub largest_anchor : List Hash → ℕ
largest_anchor [] = 0
largest_anchor (h ∷ hs) = max (anchor h) (largest_anchor hs)

-- the rate of a dead row, and of a live one that is a NaN
abbrev pub no_rate : ℕ
no_rate = nan_word

-- "a live NaN rate is stored as that word"
unfoldable pub canonical : ℕ → ℕ
canonical rate = cond (nan_bits binary32 rate) no_rate rate

unfoldable pub is_canonical : ℕ → Bool
is_canonical rate = not (nan_bits binary32 rate) || eqb rate no_rate

-- "its set, 1 to 255"
abbrev pub set_most : ℕ
set_most = 255

unfoldable pub is_set : ℕ → Bool
is_set s = ltb 0 s && leb s set_most

-- "A query names a set, or 0 for all": does a query for `set` ask for the recordings of set s?
unfoldable pub in_set : ℕ → ℕ → Bool
in_set set s = eqb set 0 || eqb s set

-- the row of a fingerprint. "A Wang row's r_max is the largest t_anchor of all hashes, skipped ones included"; "Panako r_max is 0"
unfoldable pub row_of : ℕ → Fingerprint → Row
row_of w f = record { rate = canonical f.rate; rmax = cond (has_rmax w) (largest_anchor f.hashes) 0; set = f.set }

-- what a sound store asks of a live row: "a live NaN rate is stored as that word", "Panako r_max is 0", "its live rows 1 to 255"
unfoldable pub row_sound : ℕ → Row → Bool
row_sound w r = is_canonical r.rate && ((has_rmax w || eqb r.rmax 0) && is_set r.set)

-- and of a hash that the recording holds: "a Wang posting's anchor is at most its row's r_max"
unfoldable pub hash_sound : ℕ → Row → Hash → Bool
hash_sound w r h = not (has_rmax w) || leb (anchor h) r.rmax
