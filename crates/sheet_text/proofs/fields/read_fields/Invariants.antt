-- `sheet_text::fields::read_fields`: the first i words are read. Assumes nothing.
use Rattle.std.proofs.Common.{◌≡◌, map, take, drop}
use Rattle.lists.specs.Entries.{entries}
use Rattle.sheet_text.specs.Bytes.{big_endian}
use Rattle.sheet_text.proofs.fields.read_fields.Given as goal

abbrev pub invariant-loop-i : goal.invariant-loop-i
invariant-loop-i l = take l.i l.words ≡ map big_endian (entries 4 l.i (drop 1 l.bytes))
