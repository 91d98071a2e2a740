-- What a build's hashes have to be has at most one proof, so that it may be read from a ghost field. Assumes nothing.
use mathlib.Core.Logic.{∥∥₁_elim}
use mathlib.Core.List.{List, [], ◌∷◌}
use Prim.Native.Nat.{ℕ, ◌≤◌}
use Rattle.std.proofs.Props.{props}
use Rattle.lists.specs.Lists.{All}
use Rattle.build_ranges.specs.Codes.{Fit}

short-prop : (l : List ℕ) → IsProp (All (λ n. n ≤ 8192) l)
short-prop [] = hlevel props
short-prop (n ∷ l) = let h : IsProp (All (λ n. n ≤ 8192) l) = short-prop l in hlevel (props, h)

Fit-prop : (words : List ℕ) (v : ℕ) (lengths : List ℕ) → IsProp (Fit words v lengths)
Fit-prop words v lengths = let h : IsProp (All (λ n. n ≤ 8192) lengths) = short-prop lengths in hlevel (props, h)

pub fitting : {words : List ℕ} {v : ℕ} {lengths : List ℕ} → ∥ Fit words v lengths ∥₁ → Fit words v lengths
fitting {words = words} {v = v} {lengths = lengths} h = ∥∥₁_elim h (Fit-prop words v lengths) (λ f. f)
