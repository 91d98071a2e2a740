-- Bins in words, two a bin: an offset and its count. Assumes nothing: these are definitions.
use Rattle.std.specs.Prelude.{ℕ, ◌+◌, ◌*◌, List, ℤ, pos, nat_abs, ◌-ℤ◌, get_or}

abbrev pub offset : List ℤ → ℕ → ℤ
offset l j = get_or l (2 * j) (pos 0)

abbrev pub votes : List ℤ → ℕ → ℕ
votes l j = nat_abs (get_or l (2 * j + 1) (pos 0))

-- how far bin j lies above the low end of the span
abbrev pub place : List ℤ → ℤ → ℕ → ℕ
place l low j = nat_abs (offset l j -ℤ low)
