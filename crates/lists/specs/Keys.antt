-- Lists whose elements have a key, and their order by it. Definitions only. Assumes nothing.
use Rattle.std.specs.Prelude.{Bool, cond, List, [], ◌∷◌, ℕ, suc, ◌≤◌, ◌<◌, length, eqb, leb, ltb}
use Rattle.lists.specs.Lists.{keep, some?, All}

-- each element has a relation to all behind it
abbrev pub Ordered : {A : Type 0} → (A → A → Type 0) → List A → Type 0
Ordered R [] = Unit {0}
Ordered R (x ∷ xs) = All (R x) xs × Ordered R xs

module _ {A : Type 0} (key : A → ℕ) where
  -- those with key k, in order; is there one?
  abbrev pub under : ℕ → List A → List A
  under k l = keep (λ x. eqb (key x) k) l

  abbrev pub has_key : ℕ → List A → Bool
  has_key k l = some? (λ x. eqb (key x) k) l

  -- keys ascend; keys ascend strictly
  abbrev pub Sorted : List A → Type 0
  Sorted l = Ordered (λ x y. key x ≤ key y) l

  abbrev pub Ascending : List A → Type 0
  Ascending l = Ordered (λ x y. key x < key y) l

  -- x put into a sorted list: after the last whose key is not larger
  unfoldable pub place : A → List A → List A
  place x [] = x ∷ []
  place x (y ∷ ys) = cond (leb (key y) (key x)) (y ∷ place x ys) (x ∷ y ∷ ys)

  -- several, one after the other
  unfoldable pub place_all : List A → List A → List A
  place_all [] l = l
  place_all (x ∷ new) l = place_all new (place x l)

  -- where in a sorted list the first stands whose key is not smaller than k; larger than k
  unfoldable pub lower : ℕ → List A → ℕ
  lower k [] = 0
  lower k (x ∷ xs) = cond (ltb (key x) k) (suc (lower k xs)) 0

  unfoldable pub upper : ℕ → List A → ℕ
  upper k [] = 0
  upper k (x ∷ xs) = cond (leb (key x) k) (suc (upper k xs)) 0

-- how often a key stands in a list of keys
abbrev pub times : ℕ → List ℕ → ℕ
times k l = length (under (λ x. x) k l)
