-- Floats as words. Definitions only. Assumes nothing.
use Rattle.std.specs.Prelude.{ℕ}

-- the word that is written for a NaN: "7FC00000 (hexadecimal)"
abbrev pub nan_word : ℕ
nan_word = 0x7FC0_0000
