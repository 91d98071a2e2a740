-- Rows and unused words, test by test. Assumes nothing.
use mathlib.Core.Path.{◌≡◌, refl}
use mathlib.Core.Bool.{Bool, true, false, cond, not, ◌&&◌, ◌||◌}
use mathlib.Core.List.{List}
use Prim.Native.Nat.{ℕ, ◌+◌, ◌-◌, ◌%◌, ◌≤◌}
use native.Mathlib.Omega.{arith}
use lib.Dec.{eqb, leb, ltb}
use lib.Ieee.{binary32, nan_bits}
use lib.Ieee.Bits.{nan_bits_above}
use borrow.Author.Tests.{leb-true, leb-false, lt-ltb, le-ltb, eq-eqb, ne_eqb}
use Rattle.lists.proofs.Tests.{test}
use Rattle.model.specs.Rows.{has_rmax, no_rate, is_canonical}
use Rattle.model.specs.Soundness.{row_word, live_word, set_fine, dead_fine, rate_fine, rmax_fine, dead_row, entry_unused}
use Rattle.model.specs.Words.{at_rate, at_rmax, at_live, at_vacant, at_set}
use Rattle.soundness.specs.Scan.{set_test, row_test, row_fine}

-- "a live NaN rate is stored as that word"
pub canonical_yes : (rate : ℕ) → rate ≡ no_rate → is_canonical rate ≡ true
unfolding is_canonical
canonical_yes rate e = rw (eq-eqb rate no_rate e) (or-true (not (nan_bits binary32 rate)))
  where
    or-true : (b : Bool) → b || true ≡ true
    or-true true = refl
    or-true false = refl

pub canonical_test : (rate : ℕ) → (rate ≡ no_rate → ⊥) → leb (rate % 0x8000_0000) 0x7F80_0000 ≡ is_canonical rate
unfolding is_canonical
canonical_test rate d = rw (ne_eqb rate no_rate d, nan_bits_above binary32 rate) (turned (rate % 0x8000_0000) 0x7F80_0000)
  where
    turned : (a b : ℕ) → leb a b ≡ not (ltb b a) || false
    turned a b = test (leb a b)
        (λ e. rw (e, le-ltb b a (leb-true a b e)))
        (λ e. rw (e, lt-ltb b a (leb-false a b e)))

-- the five conditions on a row, from its words
pub row_fine_lem : (w : ℕ) (rs : List ℕ) (j : ℕ) → row_test w (row_word rs j at_rate) (row_word rs j at_rmax) (row_word rs j at_live) (row_word rs j at_set) ≡ row_fine w rs j
unfolding set_test row_test row_fine live_word set_fine dead_fine rate_fine rmax_fine dead_row
row_fine_lem w rs j = same (leb (row_word rs j at_live) 1) (set_test (row_word rs j at_live) (row_word rs j at_set)) (eqb (row_word rs j at_live) 0) (eqb (row_word rs j at_rate) no_rate) (eqb (row_word rs j at_rmax) 0) (is_canonical (row_word rs j at_rate)) (has_rmax w)
  where
    same : (live set dead none nought fine wang : Bool)
        → live && (set && cond dead (none && nought) (fine && (wang || nought))) ≡ live && (set && ((not dead || (none && nought)) && ((dead || fine) && (wang || nought))))
    same false set dead none nought fine wang = refl
    same true false dead none nought fine wang = refl
    same true true false none nought fine wang = refl
    same true true true false nought fine wang = refl
    same true true true true false fine wang = refl
    same true true true true true fine true = refl
    same true true true true true fine false = refl

-- vacant entries that are not in use, from entry a on
module _ (s : List ℕ) (a i : ℕ) (h : a ≤ i) where
  here : a + (i - a) ≡ i
  here = omega arith

  pub unused_yes : row_word s i at_vacant ≡ 0 → entry_unused s a (i - a) ≡ true
  unfolding entry_unused
  unused_yes e = rw here (eq-eqb (row_word s i at_vacant) 0 e)

  pub unused_no : (row_word s i at_vacant ≡ 0 → ⊥) → entry_unused s a (i - a) ≡ false
  unfolding entry_unused
  unused_no e = rw here (ne_eqb (row_word s i at_vacant) 0 e)
