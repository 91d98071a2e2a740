-- Distinct query positions (document 01: "distinct query positions with δ within tolerance of the centre"). Assumes nothing: these are definitions.
use Rattle.std.specs.Prelude.{Bool, ◌&&◌, ℕ, ◌+◌, leb, ltb, eqb}
use Rattle.maps.specs.Sums.{sum_to, when}

-- the place y is within tol of x
abbrev pub near_place : ℕ → ℕ → ℕ → Bool
near_place tol x y = leb x (y + tol) && leb y (x + tol)

-- 1 where one of g votes, of places d and positions q, has position i and a place within tol of x; else 0
unfoldable pub marked : ℕ → ℕ → (ℕ → ℕ) → (ℕ → ℕ) → ℕ → ℕ → ℕ
marked tol x d q g i = when (ltb 0 (sum_to (λ t. when (eqb (q t) i && near_place tol x (d t)) 1) g)) 1

-- how many of the positions 0, .., m - 1 have such a vote
unfoldable pub distinct_near : ℕ → ℕ → (ℕ → ℕ) → (ℕ → ℕ) → ℕ → ℕ → ℕ
distinct_near tol x d q g m = sum_to (marked tol x d q g) m
