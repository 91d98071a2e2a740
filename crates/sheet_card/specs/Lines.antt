-- The sheet line by line, for the theorems on any card. Definitions only. Assumes nothing.
use Rattle.std.specs.Prelude.{◌≡◌, true, List, [], ◌∷◌, ◌++◌, ℕ, ◌+◌, length, get_or}
use Rattle.std.proofs.Math.Option.{some}
use Rattle.model.specs.Words.{Words}
use Rattle.sheet_text.specs.Bytes.{newline, Plain}
use Rattle.sheet_kinds.specs.Kinds.{Kind, kind_of, fits_kind}
use Rattle.sheet_records.specs.Step.{step_of}
use Rattle.sheet_card.specs.Ends.{header}
use Rattle.sheet_card.specs.Sheet.{last_line, card_of}

-- a record of a known kind, whose length is good for it
pub record Good (r : List ℕ) : Type 0 where
  pub kind : Kind
  pub known : kind_of (get_or r 0 0) ≡ some kind
  pub fits : fits_kind (length r) kind ≡ true

-- the bytes that records take up, each with its length field
abbrev pub span : List (List ℕ) → ℕ
span [] = 0
span (r ∷ rs) = 4 + length r + span rs

-- a text that ends a line at its last byte and nowhere before
pub record Line (l : List ℕ) : Type 0 where
  pub text : List ℕ
  pub ends : l ≡ text ++ newline
  pub plain : Plain text

-- the lines of records, one for each
unfoldable pub each_line : Words → List (List ℕ) → List (List ℕ)
each_line m [] = []
each_line m (r ∷ rs) = (step_of m r).0 ∷ each_line (step_of m r).1 rs

-- the sheet's lines: the header, one for each record, and the last
abbrev pub sheet_lines : Words → List ℕ → List (List ℕ)
sheet_lines m s =
    let c = card_of s in
    header ∷ (each_line m c.records ++ last_line (length c.records) c.fault ∷ [])
