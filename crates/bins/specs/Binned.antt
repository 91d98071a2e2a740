-- What bins say of votes (document 01: "bins ascend, lie in the span and count at least 1"). Assumes nothing: these are definitions.
use Rattle.std.specs.Prelude.{◌≡◌, Bool, List, ℕ, ◌+◌, ◌*◌, ◌≤◌, ◌<◌, ℤ, pos, ◌+ℤ◌, get_or}
use Rattle.maps.specs.Sums.{sum_to, when}
use Rattle.maps.specs.Bins.{offset, votes, place}

-- the n bins of l hold the g places d 0, .., d (g - 1), which count from `low`: whatever is asked of a place, as many votes pass
pub record Binned (d : ℕ → ℕ) (g : ℕ) (low : ℤ) (l : List ℤ) (n : ℕ) : Type 0 where
  pub few : n ≤ g
  pub some : 0 < g → 0 < n
  pub offsets : (j : ℕ) → j < n → offset l j ≡ low +ℤ pos (place l low j)
  pub counts : (j : ℕ) → j < n → get_or l (2 * j + 1) (pos 0) ≡ pos (votes l j)
  pub occupied : (j : ℕ) → j < n → 0 < votes l j
  pub ascend : (i j : ℕ) → i < j → j < n → place l low i < place l low j
  pub spanned : (most : ℕ) → ((t : ℕ) → t < g → d t ≤ most) → (j : ℕ) → j < n → place l low j ≤ most
  pub held : (p : ℕ → Bool) → sum_to (λ j. when (p (place l low j)) (votes l j)) n ≡ sum_to (λ t. when (p (d t)) 1) g
