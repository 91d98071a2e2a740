-- Numbers as bytes: big-endian words, decimal and hexadecimal digits, fields of a line. Definitions only. Assumes nothing.
use Rattle.std.specs.Prelude.{◌≡◌, Bool, false, cond, List, [], ◌∷◌, ◌++◌, map, ℕ, zero, suc, ◌+◌, ◌*◌, ◌/◌, ◌%◌, ℤ, nat_abs, length, get_or, drop, ltb, eqb, Float}
use Rattle.std.specs.Int.Signed.{non_neg}
use Rattle.std.specs.Float.{binary32}
use Rattle.std.specs.Float.Ieee.{to_bits}
use Rattle.lists.specs.Lists.{keep, All}
use Rattle.lists.specs.Entries.{entries}

-- "big-endian u32": four bytes as a number
abbrev pub big_endian : List ℕ → ℕ
big_endian e = get_or e 0 0 * 16777216 + get_or e 1 0 * 65536 + get_or e 2 0 * 256 + get_or e 3 0

-- the whole words of a list of bytes
unfoldable pub words_of : List ℕ → List ℕ
words_of s = map big_endian (entries 4 (length s / 4) s)

-- "kind byte, big-endian u32 fields": the words behind the kind byte
abbrev pub fields_of : List ℕ → List ℕ
fields_of r = words_of (drop 1 r)

-- "all else in decimal": the digits of n, the first not 0 unless it is the only one. n / 10 has a digit less, so n steps are enough.
unfoldable pub decimal_in : ℕ → ℕ → List ℕ
decimal_in zero n = (48 + n % 10) ∷ []
decimal_in (suc steps) n = cond (ltb n 10) ((48 + n) ∷ []) (decimal_in steps (n / 10) ++ (48 + n % 10) ∷ [])

unfoldable pub decimal : ℕ → List ℕ
decimal n = decimal_in n n

-- a number below zero has its sign in front
abbrev pub sign : ℤ → List ℕ
sign z = cond (non_neg z) [] (45 ∷ [])

abbrev pub signed : ℤ → List ℕ
signed z = sign z ++ decimal (nat_abs z)

-- "eight uppercase hexadecimal digits"
abbrev pub hex_digit : ℕ → ℕ
hex_digit d = cond (ltb d 10) (48 + d) (55 + d)

-- the last k digits of n
unfoldable pub hex_digits : ℕ → ℕ → List ℕ
hex_digits zero n = []
hex_digits (suc k) n = hex_digits k (n / 16) ++ hex_digit (n % 16) ∷ []

abbrev pub bits : ℕ → List ℕ
bits word = hex_digits 8 word

-- "Bits print as eight uppercase hexadecimal digits"
abbrev pub float_bits : Float → List ℕ
float_bits x = bits (to_bits binary32 x)

-- a field behind a blank
abbrev pub field : List ℕ → List ℕ
field text = 32 ∷ text

abbrev pub newline : List ℕ
newline = 10 ∷ []

abbrev pub is_newline : ℕ → Bool
is_newline b = eqb b 10

-- how many lines end in a text
abbrev pub newlines : List ℕ → ℕ
newlines s = length (keep is_newline s)

-- a text in which no line ends
abbrev pub Plain : List ℕ → Type 0
Plain s = All (λ (b : ℕ). is_newline b ≡ false) s
