-- Theorems on any card: its records are good, its sheet has one line for each between the header and the last line, and that line says how the card
-- ended. Assumes nothing.
use mathlib.Core.Path.{◌≡◌, refl, sym, ap, ◌∙◌}
use mathlib.Core.Bool.{true, false}
use mathlib.Core.List.{List, [], ◌∷◌, ◌++◌}
use mathlib.Core.Option.{Option, none, some}
use Prim.Native.Nat.{ℕ, zero, suc, ◌+◌}
use native.Mathlib.Omega.{arith}
use lib.Dec.{eqb}
use lib.ListN.{length, get_or, take, drop, length-append}
use Rattle.lists.specs.Lists.{keep, none?, All, flat}
use Rattle.lists.proofs.Tests.{test, maybe, not-both}
use Rattle.lists.proofs.Keep.{all_append, flat_append, flat-one}
use Rattle.model.specs.Words.{Words}
use Rattle.model.specs.Run.{run}
use Rattle.wang_judge.specs.Scheme.{wang}
use Rattle.sheet_text.specs.Bytes.{decimal, fields_of, field, newline, newlines}
use Rattle.sheet_text.proofs.Newlines.{decimal-plain, newlines-append, newlines-line}
use Rattle.sheet_kinds.specs.Kinds.{Kind, kind_of, fits, good_length}
use Rattle.sheet_lines.specs.Lines.{answer_text}
use Rattle.sheet_records.specs.Step.{step_by, step_of}
use Rattle.sheet_lines.proofs.Answers.{answer-plain}
use Rattle.sheet_card.specs.Ends.{header, end_line, fault_line}
use Rattle.sheet_card.specs.Sheet.{Card, faulty, ended, preceded, length_at, record_at, whole, records_from, card_of, lines_of, last_line, sheet_on}
use Rattle.sheet_card.specs.Turns.{version_fits}
use Rattle.sheet_card.specs.Lines.{Good, span, Line, each_line, sheet_lines}
use Rattle.sheet_card.proofs.Reading.{whole_is, record-good, record-length}

-- ---- the records

good-record : (r : List ℕ) → good_length (length r) (get_or r 0 0) ≡ true → Good r
unfolding good_length
good-record r h =
    maybe (kind_of (get_or r 0 0))
    (λ e. absurd (not-both h (ap (λ (o : Option Kind). fits (length r) o) e)))
    (λ k e. record { kind = k; known = e; fits = sym (ap (λ (o : Option Kind). fits (length r) o) e) ∙ h })

records-from-good : (k at : ℕ) (s : List ℕ) → All Good (records_from k at s).records
unfolding records_from
records-from-good zero at s = test (none? s) (λ a. rw a tt) (λ a. rw a tt)
records-from-good (suc k) at s =
    let ih = records-from-good k (at + 4 + length_at s) (drop (4 + length_at s) s) in
    test (none? s) (λ a. rw a tt) (λ a.
    test (whole s) (λ h. rw (a, h) (good-record (record_at s) (record-good s (whole_is s h)), ih)) (λ h. rw (a, h) tt))

-- "A wrong version, unknown kind, bad or cut length, or a record cut short": none of these is among a card's records
pub records-good : (s : List ℕ) → All Good (card_of s).records
records-good [] = tt
records-good (v ∷ s) = test (eqb v 1) (λ h. rw h (records-from-good (length s) 1 s)) (λ h. rw h tt)

-- a fault stands behind the records before it
abbrev Behind : ℕ → Card → Type 0
Behind at c = (f : ℕ) → c.fault ≡ some f → f ≡ at + span c.records

no-fault : (at : ℕ) → Behind at ended
no-fault at f e = let z : ◌≡◌ {A = ℕ} 0 1 = cc in absurd (omega arith)

fault-here : (at : ℕ) → Behind at (faulty at)
fault-here at f e = let x : at ≡ f = cc in omega arith

fault-later : (at n : ℕ) (r : List ℕ) (c : Card) → length r ≡ n → Behind (at + 4 + n) c → Behind at (preceded r c)
fault-later at n r c h b f e = let x = b f e in omega arith

fault-from : (k at : ℕ) (s : List ℕ) → Behind at (records_from k at s)
unfolding records_from
fault-from zero at s = test (none? s) (λ a. rw a (no-fault at)) (λ a. rw a (fault-here at))
fault-from (suc k) at s =
    let ih = fault-from k (at + 4 + length_at s) (drop (4 + length_at s) s) in
    test (none? s) (λ a. rw a (no-fault at)) (λ a.
    test (whole s)
    (λ h. rw (a, h) (fault-later at (length_at s) (record_at s) (records_from k (at + 4 + length_at s) (drop (4 + length_at s) s)) (record-length s (whole_is s h)) ih))
    (λ h. rw (a, h) (fault-here at)))

-- "the decimal offset of the version byte": a wrong version, or none, is a fault at 0
pub version-fault : (s : List ℕ) → version_fits (take 1 s) ≡ false → card_of s ≡ faulty 0
unfolding version_fits
version-fault [] h = refl
version-fault (v ∷ s) h = let e : eqb v 1 ≡ false = h in rw e

-- "or length field": any other fault stands behind the version byte and the records before it
pub fault-offset : (s : List ℕ) (f : ℕ) → version_fits (take 1 s) ≡ true → (card_of s).fault ≡ some f → f ≡ 1 + span (card_of s).records
unfolding version_fits
fault-offset [] f h e = absurd (not-both h refl)
fault-offset (v ∷ s) f h e = behind f e
  where
    behind : Behind 1 (card_of (v ∷ s))
    behind = let g : eqb v 1 ≡ true = h in rw g (fault-from (length s) 1 s)

-- ---- one line a record

line-ends : (m : Words) (r : List ℕ) (k : Kind) → kind_of (get_or r 0 0) ≡ some k
    → (step_of m r).0 ≡ answer_text (get_or (fields_of r) 0 0) (run wang m (k.call (fields_of r))).0 ++ newline
unfolding step_of
line-ends m r k e = ap (λ (o : Option Kind). (step_by m (fields_of r) o).0) e

record-line : (m : Words) (r : List ℕ) → Good r → Line (step_of m r).0
record-line m r g = record {
  text = answer_text (get_or (fields_of r) 0 0) (run wang m (g.kind.call (fields_of r))).0;
  ends = line-ends m r g.kind g.known;
  plain = answer-plain (get_or (fields_of r) 0 0) (run wang m (g.kind.call (fields_of r))).0;
}

record-lines : (m : Words) (rs : List (List ℕ)) → All Good rs → All Line (each_line m rs)
unfolding each_line
record-lines m [] g = tt
record-lines m (r ∷ rs) g = (record-line m r g.0, record-lines (step_of m r).1 rs g.1)

last_line_lem : (n : ℕ) (o : Option ℕ) → Line (last_line n o)
last_line_lem n none = record { text = 101 ∷ 110 ∷ 100 ∷ [] ++ field (decimal n); ends = refl; plain = (refl, (refl, (refl, (refl, decimal-plain n)))) }
last_line_lem n (some at) = record { text = 88 ∷ [] ++ field (decimal at); ends = refl; plain = (refl, (refl, decimal-plain at)) }

header-line : Line header
header-line = record { text = take 7 header; ends = refl; plain = (refl, (refl, (refl, (refl, (refl, (refl, (refl, tt))))))) }

-- each line of the sheet ends at its last byte and nowhere before
pub each-is-line : (m : Words) (s : List ℕ) → All Line (sheet_lines m s)
each-is-line m s =
    let c = card_of s in
    (header-line, all_append Line (each_line m c.records) (last_line (length c.records) c.fault ∷ []) (record-lines m c.records (records-good s)) (last_line_lem (length c.records) c.fault, tt))

lines-flat : (m : Words) (rs : List (List ℕ)) → lines_of m rs ≡ flat (each_line m rs)
unfolding lines_of each_line flat
lines-flat m [] = refl
lines-flat m (r ∷ rs) = let ih = lines-flat (step_of m r).1 rs in ap (λ (l : List ℕ). (step_of m r).0 ++ l) ih

-- the sheet is these lines
pub sheet-lines : (m : Words) (s : List ℕ) → sheet_on m s ≡ flat (sheet_lines m s)
unfolding flat
sheet-lines m s =
    let c = card_of s in
    let l = last_line (length c.records) c.fault in
    ap (λ (x : List ℕ). header ++ x)
    (ap (λ (x : List ℕ). x ++ l) (lines-flat m c.records) ∙ sym (flat_append (each_line m c.records) (l ∷ []) ∙ ap (λ (x : List ℕ). flat (each_line m c.records) ++ x) (flat-one l)))

record-count : (m : Words) (rs : List (List ℕ)) → length (each_line m rs) ≡ length rs
unfolding each_line
record-count m [] = refl
record-count m (r ∷ rs) = let ih = record-count (step_of m r).1 rs in ap suc ih

-- the header, one line a record, and the last line
pub line-count : (m : Words) (s : List ℕ) → length (sheet_lines m s) ≡ 2 + length (card_of s).records
line-count m s = omega (arith, length-append (each_line m (card_of s).records) (last_line (length (card_of s).records) (card_of s).fault ∷ []), record-count m (card_of s).records)

newlines-one : (l : List ℕ) → Line l → newlines l ≡ 1
newlines-one l h = ap (λ (x : List ℕ). newlines x) h.ends ∙ newlines-line h.text h.plain

newlines-flat : (ls : List (List ℕ)) → All Line ls → newlines (flat ls) ≡ length ls
unfolding flat keep
newlines-flat [] h = refl
newlines-flat (l ∷ ls) h =
    let ih = newlines-flat ls h.1 in omega (arith, newlines-append l (flat ls), newlines-one l h.0)

-- so many newlines are printed, whatever the card
pub newline-count : (m : Words) (s : List ℕ) → newlines (sheet_on m s) ≡ 2 + length (card_of s).records
newline-count m s = ap (λ (x : List ℕ). newlines x) (sheet-lines m s) ∙ newlines-flat (sheet_lines m s) (each-is-line m s) ∙ line-count m s

-- ---- the first line and the last

-- "The header `sheet 1` is always the first line."
pub header-first : (m : Words) (s : List ℕ) → take 8 (sheet_on m s) ≡ header
header-first m s = refl

-- "end: records.": a card that reaches its end has the lines of its records, as many as the last line says
pub end-counts : (m : Words) (s : List ℕ) → (card_of s).fault ≡ none
    → sheet_on m s ≡ header ++ (flat (each_line m (card_of s).records) ++ end_line (length (each_line m (card_of s).records)))
end-counts m s e =
    ap (λ (o : Option ℕ). header ++ (lines_of m (card_of s).records ++ last_line (length (card_of s).records) o)) e
    ∙ ap (λ (l : List ℕ). header ++ (l ++ end_line (length (card_of s).records))) (lines-flat m (card_of s).records)
    ∙ ap (λ (n : ℕ). header ++ (flat (each_line m (card_of s).records) ++ end_line n)) (sym (record-count m (card_of s).records))

-- "prints `X` and the decimal offset .., and nothing after it": behind the lines of the records before the fault
pub fault-last : (m : Words) (s : List ℕ) (at : ℕ) → (card_of s).fault ≡ some at
    → sheet_on m s ≡ header ++ (flat (each_line m (card_of s).records) ++ fault_line at)
fault-last m s at e =
    ap (λ (o : Option ℕ). header ++ (lines_of m (card_of s).records ++ last_line (length (card_of s).records) o)) e
    ∙ ap (λ (l : List ℕ). header ++ (l ++ fault_line at)) (lines-flat m (card_of s).records)
