-- The sheet's first line and its last. Definitions only. Assumes nothing.
use Rattle.std.specs.Prelude.{List, [], ◌∷◌, ◌++◌, ℕ}
use Rattle.sheet_text.specs.Bytes.{decimal, field, newline}

-- "The header `sheet 1` is always the first line."
abbrev pub header : List ℕ
header = 115 ∷ 104 ∷ 101 ∷ 101 ∷ 116 ∷ 32 ∷ 49 ∷ 10 ∷ []

-- "end: records."
abbrev pub end_line : ℕ → List ℕ
end_line n = 101 ∷ 110 ∷ 100 ∷ [] ++ field (decimal n) ++ newline

-- "prints `X` and the decimal offset"
abbrev pub fault_line : ℕ → List ℕ
fault_line offset = 88 ∷ [] ++ field (decimal offset) ++ newline
