-- Laws of what is read of a card: a length field, a whole record. Assumes nothing.
use mathlib.Core.Path.{◌≡◌, ap, ◌∙◌}
use mathlib.Core.Bool.{true, false, ◌&&◌}
use mathlib.Core.List.{List}
use Prim.Native.Nat.{ℕ, ◌+◌, ◌-◌, ◌≤◌, ◌<◌}
use native.Mathlib.Omega.{arith}
use lib.Dec.{leb}
use lib.ListN.{length, get_or, take, drop, length-drop}
use lib.Seq.{length-take-le, get_or-take, get_or-drop}
use borrow.Author.Tests.{leb-true, le-leb, lt-leb}
use Rattle.lists.proofs.Tests.{and_left, and_right}
use Rattle.sheet_kinds.specs.Kinds.{good_length}
use Rattle.sheet_kinds.proofs.Lengths.{good-long}
use Rattle.sheet_card.specs.Sheet.{length_at, record_at, whole}
use Rattle.sheet_card.specs.Turns.{body_length}

-- ---- a length field

module _ (s : List ℕ) (n : ℕ) (e : n ≡ length_at s) (l : 4 ≤ length s) where
  pub body-fits : n ≤ 8192 → n ≡ body_length s
  unfolding body_length
  body-fits h = rw (le-leb 4 (length s) l, ← e, le-leb n 8192 h)

-- ---- a whole record

pub record Whole (s : List ℕ) : Type 0 where
  pub begins : 5 ≤ length s
  pub reaches : 4 + length_at s ≤ length s
  pub good : good_length (length_at s) (get_or s 4 0) ≡ true

pub whole_is : (s : List ℕ) → whole s ≡ true → Whole s
unfolding whole
whole_is s h =
    let a = leb 5 (length s) in
    let b = leb (4 + length_at s) (length s) in
    let g = good_length (length_at s) (get_or s 4 0) in
    let ab = and_left (a && b) g h in
    record { begins = leb-true 5 (length s) (and_left a b ab); reaches = leb-true (4 + length_at s) (length s) (and_right a b ab); good = and_right (a && b) g h }

pub is_whole : (s : List ℕ) → Whole s → whole s ≡ true
unfolding whole
is_whole s w = rw (le-leb 5 (length s) w.begins, le-leb (4 + length_at s) (length s) w.reaches) w.good

pub whole-none : (s : List ℕ) → length s < 5 → false ≡ whole s
unfolding whole
whole-none s h = rw (lt-leb 5 (length s) h)

module _ (s : List ℕ) (w : Whole s) where
  pub record-some : 1 ≤ length_at s
  record-some = (good-long (length_at s) (get_or s 4 0) w.good).some_byte

  pub record-short : length_at s ≤ 8192
  record-short = (good-long (length_at s) (get_or s 4 0) w.good).short

  pub record-length : length (record_at s) ≡ length_at s
  record-length = length-take-le (length_at s) (drop 4 s) (omega (arith, length-drop 4 s, w.reaches))

  record-kind : get_or (record_at s) 0 0 ≡ get_or s 4 0
  record-kind = get_or-take (length_at s) (drop 4 s) 0 0 record-some ∙ get_or-drop 4 s 0 0

  -- "unknown kind, bad or cut length": a whole record has none of these
  pub record-good : good_length (length (record_at s)) (get_or (record_at s) 0 0) ≡ true
  record-good =
      ap (λ (n : ℕ). good_length n (get_or (record_at s) 0 0)) record-length ∙ ap (λ (b : ℕ). good_length (length_at s) b) record-kind ∙ w.good

-- the record, by the end of its part of the bytes
pub part-is : (s : List ℕ) (n : ℕ) → n ≡ length_at s → take (4 + n - 4) (drop 4 s) ≡ record_at s
part-is s n e = let z : 4 + n - 4 ≡ n = omega arith in ap (λ (k : ℕ). take k (drop 4 s)) (z ∙ e)
