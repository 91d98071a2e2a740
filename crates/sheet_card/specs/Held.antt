-- A card that is held in memory, and its sheet in a lent buffer. Definitions only. Assumes nothing.
use Rattle.std.specs.Prelude.{Option, Some, None, ◌≡◌, Bool, cond, List, [], ℕ, ◌+◌, ◌-◌, ◌*◌, ◌/◌, ◌≤◌, ◌<◌, length, drop, leb}
use Rattle.model.specs.Words.{Words}
use Rattle.sheet_text.specs.Put.{line_most}
use Rattle.sheet_card.specs.declared.Progress.{Progress}
use Rattle.sheet_card.specs.Sheet.{sheet_of}
use Rattle.sheet_card.specs.Turns.{limit, turn_lines}

-- room for the sheet of any card of n bytes: the header, a line for each record, which has 5 bytes or more, and the last line
abbrev pub sheet_room : ℕ → ℕ
sheet_room n = line_most * (n / 5 + 2)

-- is there that room in a buffer?
unfoldable pub has_room : List ℕ → List ℕ → Bool
has_room card out = leb (sheet_room (length card)) (length out)

-- what is put into the buffer: the card's sheet, or nothing where a card of that length might have a longer one
abbrev pub held_sheet : List ℕ → List ℕ → List ℕ
held_sheet card out = cond (has_room card out) (sheet_of card) []

-- the lines that are still to be printed of a card
abbrev pub remains : List ℕ → Words → Option Progress → List ℕ
remains card m None = []
remains card m (Some p) = turn_lines (length card - p.records) m (Some p) (drop p.offset card)

-- a card that goes on does so within its bytes and below the limit, and its lines so far leave room for the others
pub record GoesOn (card : List ℕ) (p : Progress) (at : ℕ) : Type 0 where
  pub counts : 5 * p.records + 1 ≤ p.offset
  pub inside : p.offset ≤ length card
  pub below : p.offset < limit
  pub lines : at ≤ line_most * (p.records + 1)

pub record Going (card out : List ℕ) (q : Option Progress) (at : ℕ) : Type 0 where
  pub on : (p : Progress) → q ≡ Some p → GoesOn card p at
  pub room : sheet_room (length card) ≤ length out
