-- The first run of a function's greatest value on 0, 1, .., n - 1. Assumes nothing.
use Rattle.std.specs.Prelude.{ℕ, ◌-◌, ◌≤◌, ◌<◌, ◌≡◌, not, eqb}
use Rattle.maps.specs.Sums.{greatest, first}

-- the first index at which f is greatest: where the run starts
unfoldable pub first_greatest : (ℕ → ℕ) → ℕ → ℕ
first_greatest f n = first (λ x. eqb (f x) (greatest f n)) 0 n

-- the run's last index: the next one holds another value, or there is none
unfoldable pub run_end : (ℕ → ℕ) → ℕ → ℕ
run_end f n = first (λ x. not (eqb (f x) (greatest f n))) (first_greatest f n) (n - first_greatest f n) - 1

-- the same for a loop that has seen n values: peak is the greatest of f 0, .., f (n - 1), and `at` the first index that has it
pub record Leads (f : ℕ → ℕ) (n peak at : ℕ) : Type 0 where
  pub below : (x : ℕ) → x < n → f x ≤ peak
  pub before : (x : ℕ) → x < at → f x < peak
  pub some : 0 < n → (at < n) × (f at ≡ peak)
  pub none : n ≡ 0 → (at ≡ 0) × (peak ≡ 0)
