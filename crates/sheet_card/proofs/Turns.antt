-- Laws of a turn. Assumes nothing.
use mathlib.Core.Path.{◌≡◌, refl, sym, ap, ◌∙◌, subst}
use mathlib.Core.Bool.{Bool, true, false}
use Rattle.std.proofs.Common.{Option, Some, None}
use mathlib.Core.List.{List, [], ◌∷◌}
use Prim.Native.Nat.{ℕ, suc, ◌-◌, ◌≤◌, ◌<◌}
use native.Mathlib.Omega.{arith}
use lib.ListN.{length}
use lib.Dec.{ltb}
use borrow.Author.Tests.{ltb-true, ltb-false, lt-ltb, le-ltb}
use Rattle.lists.specs.Lists.{none?}
use Rattle.lists.proofs.Tests.{test}
use Rattle.model.specs.Words.{Words}
use Rattle.sheet_card.specs.declared.Progress.{Progress}
use Rattle.sheet_card.specs.Ends.{end_line, fault_line}
use Rattle.sheet_card.specs.Sheet.{length_at, whole}
use Rattle.sheet_card.specs.Turns.{going, advanced, last, taken, last_of, turn_of, limit, started}
use Rattle.sheet_card.proofs.Reading.{whole-none}

-- ---- a turn

pub going-on : (p : Progress) → p.offset < limit → going p ≡ Some p
going-on p h = rw (lt-ltb p.offset limit h)

pub going_over : (p : Progress) → limit ≤ p.offset → going p ≡ None
going_over p h = rw (le-ltb p.offset limit h)

pub none-empty : (s : List ℕ) → length s ≡ 0 → none? s ≡ true
none-empty [] e = refl
none-empty (x ∷ s) e = absurd (omega arith)

pub none_some : (s : List ℕ) → (length s ≡ 0 → ⊥) → none? s ≡ false
none_some [] e = absurd (e refl)
none_some (x ∷ s) e = refl

module _ (m : Words) (p : Progress) (s : List ℕ) where
  pub turn-record : whole s ≡ true → turn_of m p s ≡ taken m p s
  unfolding turn_of
  turn-record h = rw h

  pub turn_last : whole s ≡ false → turn_of m p s ≡ last m (last_of p (none? s))
  unfolding turn_of
  turn_last h = rw h

  pub turn_end : length s ≡ 0 → turn_of m p s ≡ last m (end_line p.records)
  turn_end z =
      turn_last (sym (whole-none s (omega arith)))
      ∙ ap (λ (b : Bool). last m (last_of p b)) (none-empty s z)

  pub turn-fault : (length s ≡ 0 → ⊥) → whole s ≡ false → turn_of m p s ≡ last m (fault_line p.offset)
  turn-fault z h = turn_last h ∙ ap (λ (b : Bool). last m (last_of p b)) (none_some s z)

-- ---- what a loop of turns needs

-- what is left until the limit; a turn makes it smaller
abbrev pub left : Option Progress → ℕ
left None = 0
left (Some p) = suc (limit - p.offset)

-- a turn begins below the limit, and there are no more records than bytes
abbrev pub Counted : Option Progress → Type 0
Counted None = Unit {0}
Counted (Some p) = (p.records ≤ p.offset) × (p.offset < limit)

pub record Next (p : Progress) (q : Option Progress) : Type 0 where
  pub counted : Counted q
  pub less : left q < left (Some p)

pub started-counted : (fits : Bool) → Counted (started fits)
started-counted true = (omega arith, omega arith)
started-counted false = tt

module _ (m : Words) (p : Progress) (s : List ℕ) (h : p.records ≤ p.offset) (l : p.offset < limit) where
  pub next-none : Next p None
  next-none = record { counted = tt; less = omega arith }

  next-going : (a : Progress) → a.records ≤ a.offset → p.offset < a.offset → Next p (going a)
  next-going a e g =
      test (ltb a.offset limit)
      (λ b. let k = ltb-true a.offset limit b in subst (λ (q : Option Progress). Next p q) (sym (going-on a k)) (record { counted = (e, k); less = omega arith }))
      (λ b. subst (λ (q : Option Progress). Next p q) (sym (going_over a (ltb-false a.offset limit b))) next-none)

  pub next-turn : (q : Option Progress) → q ≡ (turn_of m p s).next → Next p q
  unfolding turn_of
  next-turn q e =
      test (whole s) (λ b. subst (λ (x : Option Progress). Next p x) (sym (rw b at e)) (next-going (advanced p (length_at s)) (omega arith) (omega arith)))
      (λ b. subst (λ (x : Option Progress). Next p x) (sym (rw b at e)) next-none)
