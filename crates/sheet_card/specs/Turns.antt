-- How the program goes through a card, turn by turn: what it reads, what it prints and when it ends. Definitions only. Assumes nothing.
use Rattle.std.specs.Prelude.{Option, Some, None, Bool, cond, ◌&&◌, List, [], ◌++◌, ℕ, zero, suc, ◌+◌, ◌^◌, length, get_or, take, drop, eqb, leb, ltb}
use Rattle.lists.specs.Lists.{none?}
use Rattle.model.specs.Words.{Words}
use Rattle.sheet_records.specs.Step.{step_of}
use Rattle.sheet_card.specs.declared.Progress.{Progress}
use Rattle.sheet_card.specs.Ends.{header, end_line, fault_line}
use Rattle.sheet_card.specs.Sheet.{length_at, record_at, whole}

-- cards of fewer bytes are read to their end
abbrev pub limit : ℕ
limit = 2 ^ 63

-- the card goes on below the limit
abbrev pub going : Progress → Option Progress
going p = cond (ltb p.offset limit) (Some p) None

-- ── one turn ──

-- what a turn prints, the store that it leaves, and how far the card has then been read, where it goes on: the records so far, and the offset of
-- the next length field
pub record Outcome : Type 0 where
  pub line : List ℕ
  pub store : Words
  pub next : Option Progress

-- a record of so many bytes behind its length field
abbrev pub advanced : Progress → ℕ → Progress
advanced p len = record { records = p.records + 1; offset = p.offset + 4 + len }

-- the last line
abbrev pub last : Words → List ℕ → Outcome
last m line = record { line = line; store = m; next = None }

abbrev pub taken : Words → Progress → List ℕ → Outcome
taken m p s = record { line = (step_of m (record_at s)).0; store = (step_of m (record_at s)).1; next = going (advanced p (length_at s)) }

-- the end's line where nothing was read, else a fault's
abbrev pub last_of : Progress → Bool → List ℕ
last_of p nothing = cond nothing (end_line p.records) (fault_line p.offset)

-- a turn on the bytes s that were read for it: a whole record, or the last line
unfoldable pub turn_of : Words → Progress → List ℕ → Outcome
turn_of m p s = cond (whole s) (taken m p s) (last m (last_of p (none? s)))

-- ── reading ──

-- how many bytes are read behind a length field, by what was read of it: "1 to 8,192"
unfoldable pub body_length : List ℕ → ℕ
body_length head = cond (leb 4 (length head) && leb (length_at head) 8192) (length_at head) 0

-- what is read for a turn where the bytes s are left: the length field, then what stands behind it
abbrev pub read_of : List ℕ → List ℕ
read_of s = take 4 s ++ take (body_length (take 4 s)) (drop 4 s)

-- "version byte 01"
unfoldable pub version_fits : List ℕ → Bool
version_fits v = eqb (length v) 1 && eqb (get_or v 0 0) 1

-- ── the whole card ──

-- by what was read of the version byte: a fault's line where the version is wrong
abbrev pub start_line : Bool → List ℕ
start_line fits = cond fits [] (fault_line 0)

abbrev pub started : Bool → Option Progress
started fits = cond fits (Some (record { records = 0; offset = 1 })) None

-- the lines of at most so many turns, s being the bytes that are left
unfoldable pub turn_lines : ℕ → Words → Option Progress → List ℕ → List ℕ
turn_lines zero m q s = []
turn_lines (suc turns) m None s = []
turn_lines (suc turns) m (Some p) s =
    let t = turn_of m p (read_of s) in
    cond (ltb p.offset limit) (t.line ++ turn_lines turns t.store t.next (drop (length (read_of s)) s)) []

-- the sheet as the program prints it on a store m: each read yields what stands next in the card s. As many turns as bytes are enough.
abbrev pub printed : Words → List ℕ → List ℕ
printed m s =
    let fits = version_fits (take 1 s) in
    header ++ (start_line fits ++ turn_lines (length s) m (started fits) (drop 1 s))
