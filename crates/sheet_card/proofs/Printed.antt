-- The program's turns print the sheet: for every card of fewer than 2^63 bytes, where each read yields what stands next in the card.
-- Assumes nothing.
use mathlib.Core.Path.{◌≡◌, refl, sym, ap, ◌∙◌}
use mathlib.Core.Bool.{Bool, true, false, cond}
use mathlib.Core.List.{List, [], ◌∷◌, ◌++◌, append_assoc, append-nil}
use Rattle.std.proofs.Common.{Option, Some, None}
use Prim.Native.Nat.{ℕ, zero, suc, ◌+◌, ◌≤◌, ◌<◌, min}
use native.Mathlib.Omega.{arith}
use lib.Dec.{eqb}
use lib.ListN.{length, get_or, take, drop, length-take, length-drop}
use lib.Seq.{take-take, take-add, get_or-take, length-take-le}
use borrow.Author.Tests.{lt-ltb, le-ltb, eqb-true, eqb-false}
use Rattle.lists.proofs.Entries.{drop-take}
use Rattle.lists.proofs.Tests.{test, not-both}
use Rattle.model.specs.Words.{Words}
use Rattle.sheet_text.specs.Bytes.{big_endian}
use Rattle.sheet_kinds.specs.Kinds.{good_length}
use Rattle.sheet_records.specs.Step.{step_of}
use Rattle.sheet_card.specs.declared.Progress.{Progress}
use Rattle.sheet_card.specs.Ends.{header, end_line, fault_line}
use Rattle.sheet_card.specs.Sheet.{Card, faulty, ended, preceded, length_at, record_at, whole, records_from, lines_of, last_line, sheet_on, empty_store, sheet_of}
use Rattle.sheet_card.specs.Turns.{Outcome, last, taken, going, advanced, turn_of, body_length, read_of, version_fits, limit, start_line, started, turn_lines, printed}
use Rattle.sheet_card.proofs.Reading.{Whole, whole-none, whole_is, is_whole, body-fits, record-some, record-short}
use Rattle.sheet_card.proofs.Turns.{turn_end, turn-fault, turn-record, going-on}

-- ---- a turn depends only on what is read for it

read_is : (s : List ℕ) → read_of s ≡ take (4 + body_length (take 4 s)) s
read_is s = sym (take-add 4 (body_length (take 4 s)) s)

length-at-take : (j : ℕ) (s : List ℕ) → 4 ≤ j → length_at (take j s) ≡ length_at s
length-at-take j s h = ap (λ (l : List ℕ). big_endian l) (take-take 4 j s h)

kind-take : (j : ℕ) (s : List ℕ) → 4 < j → good_length (length_at (take j s)) (get_or (take j s) 4 0) ≡ good_length (length_at s) (get_or s 4 0)
kind-take j s h = ap (λ (n : ℕ). good_length n (get_or (take j s) 4 0)) (length-at-take j s (omega arith)) ∙ ap (λ (b : ℕ). good_length (length_at s) b) (get_or-take j s 4 0 h)

whole-more : (j : ℕ) (s : List ℕ) → 4 ≤ j → Whole (take j s) → Whole s
whole-more j s h w =
    let n = length-take j s in
    let a = length-at-take j s h in
    let b = w.begins in
    let r = w.reaches in
    record { begins = omega arith; reaches = omega arith; good = sym (kind-take j s (omega arith)) ∙ w.good }

whole-less : (s : List ℕ) → Whole s → Whole (take (4 + length_at s) s)
whole-less s w =
    let j = 4 + length_at s in
    let n = length-take-le j s w.reaches in
    let a = length-at-take j s (omega arith) in
    let o = record-some s w in
    record { begins = omega arith; reaches = omega arith; good = kind-take j s (omega arith) ∙ w.good }

-- a whole record is read whole
pub read_whole : (s : List ℕ) → Whole s → read_of s ≡ take (4 + length_at s) s
read_whole s w =
    let l : 4 ≤ length (take 4 s) = omega (arith, length-take 4 s, w.begins) in
    let b = body-fits (take 4 s) (length_at s) (sym (length-at-take 4 s (omega arith))) l (record-short s w) in
    read_is s ∙ ap (λ (k : ℕ). take (4 + k) s) (sym b)

same-record : (s : List ℕ) (L : ℕ) → L ≡ length_at s → record_at (take (4 + L) s) ≡ record_at s
same-record s L e =
    ap (λ (n : ℕ). take n (drop 4 (take (4 + L) s))) (length-at-take (4 + L) s (omega arith) ∙ sym e)
    ∙ ap (λ (l : List ℕ). take L l) (drop-take 4 L s)
    ∙ take-take L L (drop 4 s) (omega arith)
    ∙ ap (λ (n : ℕ). take n (drop 4 s)) e

same_taken : (m : Words) (p : Progress) (s t : List ℕ) → record_at s ≡ record_at t → length_at s ≡ length_at t → taken m p s ≡ taken m p t
same_taken m p s t e f = λ i. record { line = (step_of m (e i)).0; store = (step_of m (e i)).1; next = going (advanced p (f i)) }

turn-read : (m : Words) (p : Progress) (s : List ℕ) → turn_of m p (read_of s) ≡ turn_of m p s
turn-read m p s = test (whole s) (λ h. same (whole_is s h)) (λ h. test (eqb (length s) 0) (λ z. empty (eqb-true (length s) 0 z)) (λ z. fault h (eqb-false (length s) 0 z)))
  where
    n : length (read_of s) ≡ min (4 + body_length (take 4 s)) (length s)
    n = ap (λ (l : List ℕ). length l) (read_is s) ∙ length-take (4 + body_length (take 4 s)) s

    same : Whole s → turn_of m p (read_of s) ≡ turn_of m p s
    same w =
        let r = take (4 + length_at s) s in
        ap (λ (l : List ℕ). turn_of m p l) (read_whole s w)
        ∙ turn-record m p r (is_whole r (whole-less s w))
        ∙ same_taken m p r s (same-record s (length_at s) refl) (length-at-take (4 + length_at s) s (omega arith))
        ∙ sym (turn-record m p s (is_whole s w))

    empty : length s ≡ 0 → turn_of m p (read_of s) ≡ turn_of m p s
    empty z = turn_end m p (read_of s) (omega (arith, n)) ∙ sym (turn_end m p s z)

    not-whole : whole s ≡ false → whole (read_of s) ≡ false
    not-whole h =
        test (whole (read_of s))
        (λ y. absurd (not-both (is_whole s (whole-more (4 + body_length (take 4 s)) s (omega arith) (whole_is (take (4 + body_length (take 4 s)) s) (sym (ap whole (read_is s)) ∙ y)))) h))
        (λ y. y)

    fault : whole s ≡ false → (length s ≡ 0 → ⊥) → turn_of m p (read_of s) ≡ turn_of m p s
    fault h z = turn-fault m p (read_of s) (λ e. z (omega (arith, n))) (not-whole h) ∙ sym (turn-fault m p s z h)

-- ---- turn after turn

pub no-lines : (k : ℕ) (m : Words) (s : List ℕ) → turn_lines k m None s ≡ []
unfolding turn_lines
no-lines zero m s = refl
no-lines (suc k) m s = refl

-- at the limit or above it no turn is taken
pub over-lines : (k : ℕ) (m : Words) (p : Progress) (s : List ℕ) → limit ≤ p.offset → turn_lines k m (Some p) s ≡ []
unfolding turn_lines
over-lines zero m p s h = refl
over-lines (suc k) m p s h = rw (le-ltb p.offset limit h)

pub one-turn : (k : ℕ) (m : Words) (p : Progress) (s : List ℕ) (o : Outcome) → p.offset < limit → turn_of m p s ≡ o
    → turn_lines (suc k) m (Some p) s ≡ o.line ++ turn_lines k o.store o.next (drop (length (read_of s)) s)
unfolding turn_lines
one-turn k m p s o l e =
    rw (lt-ltb p.offset limit l) (ap (λ (x : Outcome). x.line ++ turn_lines k x.store x.next (drop (length (read_of s)) s)) (turn-read m p s ∙ e))

last_turn : (k : ℕ) (m : Words) (p : Progress) (s l : List ℕ) → p.offset < limit → turn_of m p s ≡ last m l → turn_lines (suc k) m (Some p) s ≡ l
last_turn k m p s l h e =
    one-turn k m p s (last m l) h e ∙ ap (λ (x : List ℕ). l ++ x) (no-lines k m (drop (length (read_of s)) s)) ∙ append-nil l

-- ---- the records of a card, one by one

records-end : (k at : ℕ) (s : List ℕ) → length s ≡ 0 → records_from k at s ≡ ended
unfolding records_from
records-end zero at [] h = refl
records-end (suc k) at [] h = refl
records-end k at (x ∷ s) h = absurd (omega arith)

records-fault : (k at : ℕ) (s : List ℕ) → (length s ≡ 0 → ⊥) → whole s ≡ false → records_from k at s ≡ faulty at
unfolding records_from
records-fault k at [] z h = absurd (z refl)
records-fault zero at (x ∷ s) z h = refl
records-fault (suc k) at (x ∷ s) z h = rw h

records-more : (k at : ℕ) (s : List ℕ) → whole s ≡ true → records_from (suc k) at s ≡ preceded (record_at s) (records_from k (at + 4 + length_at s) (drop (4 + length_at s) s))
unfolding records_from
records-more k at [] h = absurd (omega (arith, (whole_is [] h).begins))
records-more k at (x ∷ s) h = rw h

-- what is printed from here on, n records having gone before
abbrev rest : Words → ℕ → Card → List ℕ
rest m n c = lines_of m c.records ++ last_line (n + length c.records) c.fault

rest_end : (m : Words) (n : ℕ) → rest m n ended ≡ end_line n
unfolding lines_of
rest_end m n = let e : n + 0 ≡ n = omega arith in ap (λ (k : ℕ). end_line k) e

-- where none has
rest_all : (m : Words) (c : Card) → rest m 0 c ≡ lines_of m c.records ++ last_line (length c.records) c.fault
rest_all m c =
    let e : 0 + length c.records ≡ length c.records = omega arith in
    ap (λ (k : ℕ). lines_of m c.records ++ last_line k c.fault) e

rest-fault : (m : Words) (n at : ℕ) → rest m n (faulty at) ≡ fault_line at
unfolding lines_of
rest-fault m n at = refl

rest_more : (m : Words) (n : ℕ) (r : List ℕ) (c : Card) → rest m n (preceded r c) ≡ (step_of m r).0 ++ rest (step_of m r).1 (n + 1) c
unfolding lines_of
rest_more m n r c =
    let e : n + suc (length c.records) ≡ n + 1 + length c.records = omega arith in
    append_assoc (step_of m r).0 (lines_of (step_of m r).1 c.records) (last_line (n + suc (length c.records)) c.fault)
    ∙ ap (λ (k : ℕ). (step_of m r).0 ++ (lines_of (step_of m r).1 c.records ++ last_line k c.fault)) e

-- no whole record stands here
last-is : (k : ℕ) (m : Words) (p : Progress) (s : List ℕ) → p.offset < limit → whole s ≡ false → turn_lines (suc k) m (Some p) s ≡ rest m p.records (records_from k p.offset s)
last-is k m p s l h =
    test (eqb (length s) 0)
    (λ z. let e = eqb-true (length s) 0 z in
    last_turn k m p s (end_line p.records) l (turn_end m p s e) ∙ sym (ap (λ (c : Card). rest m p.records c) (records-end k p.offset s e) ∙ rest_end m p.records))
    (λ z. let e = eqb-false (length s) 0 z in
    last_turn k m p s (fault_line p.offset) l (turn-fault m p s e h) ∙ sym (ap (λ (c : Card). rest m p.records c) (records-fault k p.offset s e h) ∙ rest-fault m p.records p.offset))

-- a whole record, with what is printed behind it
record_is : (k : ℕ) (m : Words) (p : Progress) (s : List ℕ) → p.offset + length s < limit → Whole s
    → turn_lines (suc k) (step_of m (record_at s)).1 (Some (advanced p (length_at s))) (drop (4 + length_at s) s)
    ≡ rest (step_of m (record_at s)).1 (p.records + 1) (records_from k (p.offset + 4 + length_at s) (drop (4 + length_at s) s))
    → turn_lines (suc (suc k)) m (Some p) s ≡ rest m p.records (records_from (suc k) p.offset s)
record_is k m p s l w ih =
    let h = is_whole s w in
    let n : length (read_of s) ≡ 4 + length_at s = ap (λ (l : List ℕ). length l) (read_whole s w) ∙ length-take-le (4 + length_at s) s w.reaches in
    let g = going-on (advanced p (length_at s)) (omega (arith, w.reaches)) in
    one-turn (suc k) m p s (taken m p s) (omega arith) (turn-record m p s h)
    ∙ ap (λ (q : Option Progress). (step_of m (record_at s)).0 ++ turn_lines (suc k) (step_of m (record_at s)).1 q (drop (length (read_of s)) s)) g
    ∙ ap (λ (j : ℕ). (step_of m (record_at s)).0 ++ turn_lines (suc k) (step_of m (record_at s)).1 (Some (advanced p (length_at s))) (drop j s)) n
    ∙ ap (λ (l : List ℕ). (step_of m (record_at s)).0 ++ l) ih
    ∙ sym (ap (λ (c : Card). rest m p.records c) (records-more k p.offset s h) ∙ rest_more m p.records (record_at s) (records_from k (p.offset + 4 + length_at s) (drop (4 + length_at s) s)))

turns-are : (k : ℕ) (m : Words) (p : Progress) (s : List ℕ) → length s ≤ k → p.offset + length s < limit
    → turn_lines (suc k) m (Some p) s ≡ rest m p.records (records_from k p.offset s)
turns-are zero m p s h l = last-is 0 m p s (omega arith) (sym (whole-none s (omega arith)))
turns-are (suc k) m p s h l =
    test (whole s)
    (λ y. let w = whole_is s y in let d = length-drop (4 + length_at s) s in
    record_is k m p s l w
    (turns-are k (step_of m (record_at s)).1 (advanced p (length_at s)) (drop (4 + length_at s) s) (omega (arith, d, w.reaches)) (omega (arith, d, w.reaches))))
    (λ y. last-is (suc k) m p s (omega arith) y)

-- ---- the whole sheet

wrong-version : (m : Words) (k : ℕ) (s : List ℕ) → start_line false ++ turn_lines k m (started false) s ≡ fault_line 0
wrong-version m k s = ap (λ (l : List ℕ). fault_line 0 ++ l) (no-lines k m s) ∙ append-nil (fault_line 0)

by-version : (m : Words) (s : List ℕ) (fits : Bool) → 1 + length s < limit
    → start_line fits ++ turn_lines (suc (length s)) m (started fits) s ≡ rest m 0 (cond fits (records_from (length s) 1 s) (faulty 0))
unfolding lines_of
by-version m s true l = turns-are (length s) m (record { records = 0; offset = 1 }) s (omega arith) l
by-version m s false l = wrong-version m (suc (length s)) s

-- what the program prints, turn by turn, is the sheet of the card
pub printed-is : (m : Words) (s : List ℕ) → length s < limit → printed m s ≡ sheet_on m s
unfolding version_fits lines_of
printed-is m [] l = ap (λ (x : List ℕ). header ++ x) (wrong-version m 0 [])
printed-is m (v ∷ s) l =
    ap (λ (x : List ℕ). header ++ x)
    (by-version m s (eqb v 1) (omega arith) ∙ rest_all m (cond (eqb v 1) (records_from (length s) 1 s) (faulty 0)))

pub printed-sheet : (s : List ℕ) → length s < limit → printed empty_store s ≡ sheet_of s
unfolding sheet_of
printed-sheet s l = printed-is empty_store s l
