-- The step on one record: its line, and the store that it leaves. Definitions only. Assumes nothing.
use Rattle.std.specs.Prelude.{◌≡◌, List, [], ℕ, ◌+◌, ◌≤◌, get_or}
use Rattle.std.proofs.Math.Option.{Option, none, some}
use Rattle.model.specs.Calls.{Answer}
use Rattle.model.specs.Words.{Words}
use Rattle.model.specs.Run.{run}
use Rattle.wang_judge.specs.Scheme.{wang}
use Rattle.sheet_text.specs.Bytes.{fields_of}
use Rattle.sheet_text.specs.Put.{line_most, Put}
use Rattle.sheet_lines.specs.Lines.{answer_line}
use Rattle.sheet_kinds.specs.Kinds.{Kind, kind_of}

-- the line of an answer, and the store after it
abbrev pub line_and_store : List ℕ → Answer × Words → List ℕ × Words
line_and_store ws o = (answer_line (get_or ws 0 0) o.0, o.1)

abbrev pub step_by : Words → List ℕ → Option Kind → List ℕ × Words
step_by m ws none = ([], m)
step_by m ws (some k) = line_and_store ws (run wang m (k.call ws))

-- the line that a record prints, and the store that it leaves
unfoldable pub step_of : Words → List ℕ → List ℕ × Words
step_of m r = step_by m (fields_of r) (kind_of (get_or r 0 0))

-- the line of such a step stands behind the first `at` bytes of the buffer and ends at `end`, at most `line_most` bytes later; its store is m
pub record Stepped (before after : List ℕ) (at end : ℕ) (m : Words) (o : List ℕ × Words) : Type 0 where
  pub line : Put before after at end o.0
  pub short : end ≤ at + line_most
  pub store : m ≡ o.1
