-- Lists and tests of their elements. Definitions only. Assumes nothing.
use Rattle.std.specs.Prelude.{Bool, true, false, cond, ◌||◌, List, [], ◌∷◌, ◌++◌, ℕ, ◌+◌, eqb, ltb}

module _ {A : Type 0} where
  -- the elements that pass a test, in order
  unfoldable pub keep : (A → Bool) → List A → List A
  keep t [] = []
  keep t (x ∷ xs) = cond (t x) (x ∷ keep t xs) (keep t xs)

  -- does an element pass?
  unfoldable pub some? : (A → Bool) → List A → Bool
  some? t [] = false
  some? t (x ∷ xs) = t x || some? t xs

  abbrev pub none? : List A → Bool
  none? [] = true
  none? (x ∷ xs) = false

  -- each element is so
  abbrev pub All : (A → Type 0) → List A → Type 0
  All P [] = Unit {0}
  All P (x ∷ xs) = P x × All P xs

  -- lists, one after the other
  unfoldable pub flat : List (List A) → List A
  flat [] = []
  flat (x ∷ xs) = x ++ flat xs

unfoldable pub sum : List ℕ → ℕ
sum [] = 0
sum (n ∷ ns) = n + sum ns

abbrev pub member : ℕ → List ℕ → Bool
member k l = some? (λ x. eqb x k) l

-- k put into a strictly ascending list, unless it is there
unfoldable pub insert_key : ℕ → List ℕ → List ℕ
insert_key k [] = k ∷ []
insert_key k (x ∷ xs) = cond (eqb x k) (x ∷ xs) (cond (ltb k x) (k ∷ x ∷ xs) (x ∷ insert_key k xs))
