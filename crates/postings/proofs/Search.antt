-- A walk that ends at the first entry to pass a test. Assumes nothing.
use mathlib.Core.Path.{◌≡◌}
use mathlib.Core.Logic.{⊎_elim}
use mathlib.Core.Bool.{Bool, true, false}
use mathlib.Core.List.{List}
use Prim.Native.Nat.{ℕ, ◌+◌, ◌*◌, ◌≤◌, ◌<◌}
use native.Mathlib.Omega.{arith}
use lib.ListN.{length, get_or}
use Rattle.lists.proofs.Tests.{le-or-lt}
use Rattle.lists.proofs.Entries.{stride}
use Rattle.postings.specs.Retain.{Within, Until}

-- none from `from` below i passes
pub record Passed (t : ℕ → Bool) (w p f : ℕ) (s : List ℕ) (from i : ℕ) : Type 0 where
  pub since : from ≤ i
  pub within : i ≤ p
  pub before : (j : ℕ) → from ≤ j → j < i → t (get_or s (w * j + f) 0) ≡ false

pub word_room : (w p f : ℕ) (s : List ℕ) (from i : ℕ) → Within w p f s from → i < p → w * i + f < length s
word_room w p f s from i h l = omega (arith, stride w i p (length s) l h.room, h.field)

module _ (t : ℕ → Bool) (w p f : ℕ) (s : List ℕ) (from : ℕ) where
  pub passed_none : from ≤ p → Passed t w p f s from from
  passed_none h = record { since = omega arith; within = h; before = λ j a l. absurd (omega arith) }

  pub passed-more : (i : ℕ) → Passed t w p f s from i → i < p → t (get_or s (w * i + f) 0) ≡ false → Passed t w p f s from (i + 1)
  passed-more i d h e = record {
    since = omega (arith, d.since);
    within = omega arith;
    before = λ j a l. ⊎_elim
        (λ (g : i ≤ j). let m : j ≡ i = omega arith in rw m e)
        (λ (g : j < i). d.before j a g)
        (le-or-lt i j);
  }

  pub passed-stop : (i : ℕ) → Passed t w p f s from i → t (get_or s (w * i + f) 0) ≡ true → Until t w p f s from i
  passed-stop i d e = record { since = d.since; within = d.within; before = d.before; stop = λ _. e }

  pub passed-all : (i : ℕ) → Passed t w p f s from i → p ≤ i → Until t w p f s from i
  passed-all i d h = record { since = d.since; within = d.within; before = d.before; stop = λ l. absurd (omega arith) }

-- two tests that agree
pub until-same : (t u : ℕ → Bool) (w p f : ℕ) (s : List ℕ) (from r : ℕ) → ((x : ℕ) → t x ≡ u x) → Until u w p f s from r → Until t w p f s from r
until-same t u w p f s from r h d = record {
  since = d.since;
  within = d.within;
  before = λ j a l. rw (h (get_or s (w * j + f) 0)) (d.before j a l);
  stop = λ l. rw (h (get_or s (w * r + f) 0)) (d.stop l);
}
