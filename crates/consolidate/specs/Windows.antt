-- A window that slides over bins at ascending places: what the functions that move it say of each other. All on natural numbers:
-- bin i stands at the place d i and has the count v i. Assumes nothing.
use Rattle.std.specs.Prelude.{ℕ, ◌+◌, ◌≤◌, ◌<◌, ◌≡◌, Bool, ◌&&◌, leb}
use Rattle.maps.specs.Sums.{sum_to, when}
use Rattle.consolidate.specs.declared.Window.{Window}

-- the place p is within tol of a place from a to b
abbrev pub withinℕ : ℕ → ℕ → ℕ → ℕ → Bool
withinℕ tol a b p = leb a (p + tol) && leb p (b + tol)

-- the sum of the counts within tol of x
unfoldable pub window_sum : (ℕ → ℕ) → (ℕ → ℕ) → ℕ → ℕ → ℕ → ℕ
window_sum d v n tol x = sum_to (λ i. when (withinℕ tol x x (d i)) (v i)) n

-- from `from` on, the bins before `to` lie below `below` and the others don't; sum is the sum of their counts
pub record Passed (d v : ℕ → ℕ) (n from below to sum : ℕ) : Type 0 where
  pub on : from ≤ to
  pub most : to ≤ n
  pub under : (i : ℕ) → from ≤ i → i < to → d i < below
  pub over : (i : ℕ) → to ≤ i → i < n → below ≤ d i
  pub adds : sum + sum_to v from ≡ sum_to v to

-- a window that can move on to x: what has entered lies at x + tol at most, and what has left lies below x - tol
pub record Slides (d v : ℕ → ℕ) (n tol x : ℕ) (w : Window) : Type 0 where
  pub entered : w.enter ≤ n
  pub order : w.leave ≤ w.enter
  pub in_by : (i : ℕ) → i < w.enter → d i ≤ x + tol
  pub out_by : (i : ℕ) → i < w.leave → d i + tol < x
  pub holds : w.sum + sum_to v w.leave ≡ sum_to v w.enter

-- it holds exactly the bins within tol of x
pub record Covers (d v : ℕ → ℕ) (n tol x : ℕ) (w : Window) : Type 0 where
  pub slides : Slides d v n tol x w
  pub later : (i : ℕ) → w.enter ≤ i → i < n → x + tol < d i
  pub stay : (i : ℕ) → w.leave ≤ i → i < n → x ≤ d i + tol
