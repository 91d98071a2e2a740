-- Membership in a list of no name, and of one. Assumes nothing.
use mathlib.Core.Path.{◌≡◌, refl}
use mathlib.Core.Bool.{false, or-false}
use mathlib.Core.List.{List, [], ◌∷◌}
use Prim.Native.Nat.{ℕ, ◌<◌, ◌≤◌}
use native.Mathlib.Omega.{arith}
use lib.ListN.{length, get_or}
use lib.Dec.{eqb}
use Rattle.lists.specs.Lists.{some?, member}

pub member-zero : (x : ℕ) (xs : List ℕ) → length xs < 1 → member x xs ≡ false
unfolding some?
member-zero x [] h = refl
member-zero x (y ∷ ys) h = absurd (omega arith)

pub member-one : (x : ℕ) (xs : List ℕ) → 1 ≤ length xs → length xs < 2 → member x xs ≡ eqb (get_or xs 0 0) x
unfolding some?
member-one x [] h l = absurd (omega arith)
member-one x (y ∷ []) h l = or-false (eqb y x)
member-one x (y ∷ z ∷ zs) h l = absurd (omega arith)
