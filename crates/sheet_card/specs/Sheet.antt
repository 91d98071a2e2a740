-- The sheet: from a card's bytes to what is printed. Definitions only. Assumes nothing.
use Rattle.std.specs.Prelude.{Bool, cond, ◌&&◌, List, [], ◌∷◌, ◌++◌, ℕ, zero, suc, ◌+◌, ◌*◌, length, get_or, take, drop, replicate, eqb, leb}
use Rattle.std.proofs.Math.Option.{Option, none, some}
use Rattle.lists.specs.Lists.{none?}
use Rattle.model.specs.Words.{Words, head_width, row_width}
use Rattle.sheet_text.specs.Bytes.{big_endian}
use Rattle.sheet_records.specs.Step.{step_of}
use Rattle.sheet_kinds.specs.Kinds.{good_length}
use Rattle.sheet_card.specs.Ends.{header, end_line, fault_line}

-- ── the records of a card ──

-- the whole records of a card in order, and the offset of the first fault, if there is one
pub record Card : Type 0 where
  pub records : List (List ℕ)
  pub fault : Option ℕ

abbrev pub faulty : ℕ → Card
faulty at = record { records = []; fault = some at }

abbrev pub ended : Card
ended = record { records = []; fault = none }

abbrev pub preceded : List ℕ → Card → Card
preceded r c = record { records = r ∷ c.records; fault = c.fault }

-- "length (u32, big-endian, bytes after it, 1 to 8,192)"
abbrev pub length_at : List ℕ → ℕ
length_at s = big_endian (take 4 s)

-- the record behind the length field
abbrev pub record_at : List ℕ → List ℕ
record_at s = take (length_at s) (drop 4 s)

-- does a whole record stand here? Not with an "unknown kind, bad or cut length, or a record cut short"
unfoldable pub whole : List ℕ → Bool
whole s = leb 5 (length s) && leb (4 + length_at s) (length s) && good_length (length_at s) (get_or s 4 0)

-- the records from offset `at` on, s being the bytes from there on. A record takes 5 bytes or more, so as many steps as bytes are enough.
unfoldable pub records_from : ℕ → ℕ → List ℕ → Card
records_from zero at s = cond (none? s) ended (faulty at)
records_from (suc steps) at s =
    cond (none? s) ended
    (cond (whole s) (preceded (record_at s) (records_from steps (at + 4 + length_at s) (drop (4 + length_at s) s))) (faulty at))

-- "version byte 01, then records"; "empty input prints `X 0`"
abbrev pub card_of : List ℕ → Card
card_of [] = faulty 0
card_of (v ∷ s) = cond (eqb v 1) (records_from (length s) 1 s) (faulty 0)

-- ── what is printed ──

-- the lines of records, each on the store that the ones before it left
unfoldable pub lines_of : Words → List (List ℕ) → List ℕ
lines_of m [] = []
lines_of m (r ∷ rs) = (step_of m r).0 ++ lines_of (step_of m r).1 rs

-- a fault's line, or the end's
abbrev pub last_line : ℕ → Option ℕ → List ℕ
last_line n none = end_line n
last_line n (some at) = fault_line at

-- on a store m at the beginning
abbrev pub sheet_on : Words → List ℕ → List ℕ
sheet_on m s =
    let c = card_of s in
    header ++ (lines_of m c.records ++ last_line (length c.records) c.fault)

-- a zeroed store for R rows, P postings and K stopped keys
unfoldable pub zeroed : ℕ → ℕ → ℕ → Words
zeroed R P K = record { references = replicate (head_width + row_width * R) 0; postings = replicate (3 * P) 0; stopped = replicate K 0 }

-- "Its buffers begin zeroed: R 32, P 1,024, K 256"
unfoldable pub empty_store : Words
empty_store = zeroed 32 1024 256

unfoldable pub sheet_of : List ℕ → List ℕ
sheet_of s = sheet_on empty_store s
