-- Words as text: a blank and eight hexadecimal digits. Definitions only. Assumes nothing.
use Rattle.std.specs.Prelude.{Bool, cond, ◌&&◌, List, [], ◌∷◌, ◌++◌, ℕ, zero, suc, ◌+◌, ◌-◌, ◌*◌, ◌%◌, ◌^◌, eqb, leb, ltb, get_or}

-- the value of a digit, 16 for another byte
abbrev pub digit_of : ℕ → ℕ
digit_of b = cond (leb 48 b && leb b 57) (b - 48) (cond (leb 65 b && leb b 70) (b - 55) 16)

abbrev pub digit_at : List ℕ → ℕ → ℕ
digit_at s at = digit_of (get_or s at 0)

-- two digits as a number
unfoldable pub pair_at : List ℕ → ℕ → ℕ
pair_at s at = digit_at s at * 16 + digit_at s (at + 1)

unfoldable pub are_pair : List ℕ → ℕ → Bool
are_pair s at = ltb (digit_at s at) 16 && ltb (digit_at s (at + 1)) 16

-- eight digits as a number
unfoldable pub word_at : List ℕ → ℕ → ℕ
word_at s at = (pair_at s at * 256 + pair_at s (at + 2)) * 65536 + (pair_at s (at + 4) * 256 + pair_at s (at + 6))

-- a blank, and eight digits behind it
unfoldable pub is_word : List ℕ → ℕ → Bool
is_word s at =
    eqb (get_or s at 0) 32 && (are_pair s (at + 1) && are_pair s (at + 3)) && (are_pair s (at + 5) && are_pair s (at + 7))

-- the i-th word of a line, with its blank
abbrev pub word_stands : List ℕ → ℕ → Bool
word_stands s i = is_word s (9 * i)

-- the first n words of a line
unfoldable pub first_words : ℕ → List ℕ → List ℕ
first_words zero s = []
first_words (suc n) s = first_words n s ++ word_at s (9 * n + 1) % 2 ^ 32 ∷ []
