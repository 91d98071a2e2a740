-- Tests, and what their answers say. Assumes nothing.
use mathlib.Core.Path.{◌≡◌, refl, sym, ◌∙◌}
use mathlib.Core.Logic.{◌⊎◌, inl, inr}
use mathlib.Core.Bool.{Bool, true, false, ◌&&◌, ◌||◌, true≢false}
use mathlib.Core.List.{List, [], ◌∷◌}
use mathlib.Core.Option.{Option, none, some}
use Prim.Native.Nat.{ℕ, zero, suc, ◌≤◌, ◌<◌}
use native.Mathlib.Omega.{arith}
use native.Mathlib.Decide.{dec_le}
use lib.ListN.{get_or}
use Rattle.lists.specs.Every.{all_true}

-- the two cases of a test, each with its equation
pub test {ℓ} : {C : Type ℓ} (b : Bool) → (b ≡ true → C) → (b ≡ false → C) → C
test true f g = f refl
test false f g = g refl

pub maybe {ℓ} : {A : Type 0} {C : Type ℓ} (o : Option A) → (o ≡ none → C) → ((a : A) → o ≡ some a → C) → C
maybe none f g = f refl
maybe (some a) f g = g a refl

pub not-both : {b : Bool} → b ≡ true → b ≡ false → ⊥
not-both e f = true≢false (sym e ∙ f)

-- two tests that pass alike are equal
pub both_ways : (a b : Bool) → (a ≡ true → b ≡ true) → (b ≡ true → a ≡ true) → a ≡ b
both_ways true b f g = sym (f refl)
both_ways false b f g = test b (λ e. g e ∙ sym e) (λ e. sym e)

pub le-or-lt : (x y : ℕ) → (x ≤ y) ⊎ (y < x)
le-or-lt x y = go (dec_le x y)
  where
    go : Dec (x ≤ y) → (x ≤ y) ⊎ (y < x)
    go (yes h) = inl h
    go (no h) = inr (omega arith)

-- ---- both of two tests

pub and_left : (a b : Bool) → a && b ≡ true → a ≡ true
and_left true b e = refl
and_left false b e = e

pub and_right : (a b : Bool) → a && b ≡ true → b ≡ true
and_right true b e = e
and_right false b e = absurd (not-both e refl)

pub yes_and : (a b : Bool) → a ≡ true → a && b ≡ b
yes_and a b e = rw e

pub no-and : (a b : Bool) → a ≡ false → a && b ≡ false
no-and a b e = rw e

pub both_true : (a b : Bool) → a ≡ true → b ≡ true → a && b ≡ true
both_true a b e f = rw (e, f)

-- ---- one of two

pub or-false-left : (a b : Bool) → a || b ≡ false → a ≡ false
or-false-left true b e = e
or-false-left false b e = refl

pub or-false-right : (a b : Bool) → a || b ≡ false → b ≡ false
or-false-right true b e = absurd (not-both refl e)
or-false-right false b e = e

pub or_left : (a b : Bool) → a ≡ true → a || b ≡ true
or_left a b e = rw e

pub or_right : (a b : Bool) → b ≡ true → a || b ≡ true
or_right true b e = refl
or_right false b e = e

-- the second where the first fails
pub or_else : (a b : Bool) → a || b ≡ true → a ≡ false → b ≡ true
or_else a b e f = rw f at e

-- ---- all of a list

pub all_none : all_true [] ≡ true
unfolding all_true
all_none = refl

pub all_more : (b : Bool) (bs : List Bool) → b ≡ true → all_true bs ≡ true → all_true (b ∷ bs) ≡ true
unfolding all_true
all_more b bs e h = rw e h

-- test number i
pub all-true-at : (bs : List Bool) → all_true bs ≡ true → (i : ℕ) → get_or bs i true ≡ true
unfolding all_true
all-true-at [] e i = refl
all-true-at (b ∷ bs) e zero = and_left b (all_true bs) e
all-true-at (b ∷ bs) e (suc i) = all-true-at bs (and_right b (all_true bs) e) i
