-- A vote as one word. Definitions only. Assumes nothing.
use Rattle.std.specs.Prelude.{Option, Some, None, ℕ, ◌+◌, ◌*◌, ◌/◌, ◌%◌, ◌^◌, List, [], ◌∷◌, ℤ, pos, ◌+ℤ◌, ◌-ℤ◌, neg_ℤ, unsigned_abs}
use Rattle.panako_vote.specs.declared.Vote.{Vote}

-- "Panako vote": its scale bin and its offset in frames. The id is the candidate's. What a pair gives: none or one
abbrev pub as_list : Option Vote → List Vote
as_list None = []
as_list (Some v) = v ∷ []

-- scale bin and offset as one number, which ascends in "(scale, offset) order": an offset lies in −2^39 .. 2^32 (proofs/Bounds.antt), so 2^39
-- more is a number of 40 bits
abbrev pub middle : ℕ
middle = 2 ^ 39

abbrev pub code_of : Vote → ℕ
code_of v = v.bin * 2 ^ 40 + unsigned_abs (v.offset +ℤ pos middle)

-- the vote with a code
abbrev pub vote_of_code : ℕ → Vote
vote_of_code k = record { bin = k / 2 ^ 40; offset = neg_ℤ (pos middle) +ℤ pos (k % 2 ^ 40) }

-- 12 bits of id and 52 of code, 12 of them the scale bin: 64 bits, which are a word once 2^63 is taken off
abbrev pub lowest : ℕ
lowest = 2 ^ 63

abbrev pub word_of : ℕ → Vote → ℤ
word_of id v = pos (id * 2 ^ 52 + code_of v) -ℤ pos lowest
