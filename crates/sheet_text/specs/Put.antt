-- What the functions that write a text into a lent buffer promise. Definitions only. Assumes nothing.
use Rattle.std.specs.Prelude.{◌≡◌, List, ◌++◌, ℕ, ◌+◌, length, take}

-- the most bytes of a line
abbrev pub line_most : ℕ
line_most = 128

-- the text stands behind the first `at` bytes of the buffer, which were kept, and ends at `end`
pub record Put (before after : List ℕ) (at end : ℕ) (text : List ℕ) : Type 0 where
  pub ends : end ≡ at + length text
  pub put : take end after ≡ take at before ++ text
  pub kept : length after ≡ length before
