-- What follows for whoever has an answer of the sweep: how large its sums are, and where its centre lies. Assumes nothing.
use Prim.Native.Nat.{ℕ, zero, suc, ◌+◌, ◌-◌, ◌/◌, ◌≤◌, ◌<◌}
use mathlib.Core.Path.{◌≡◌, refl}
use mathlib.Core.Bool.{Bool, true, false, cond, not}
use native.Mathlib.Omega.{arith}
use lib.IntN.{ℤ, pos, ◌+ℤ◌}
use lib.Dec.{eqb}
use Rattle.std.specs.Prelude.{Option}
use Rattle.maps.specs.Sums.{sum_to, greatest, first}
use Rattle.consolidate.specs.Runs.{first_greatest, run_end}
use Rattle.consolidate.specs.Box.{peak_over}
use Rattle.maps.proofs.Sums.{sum-term, greatest-under}

first-le : (p : ℕ → Bool) (c k : ℕ) → first p c k ≤ c + k
unfolding first
first-le p c zero = omega arith
first-le p c (suc k) = let ih = first-le p (suc c) k in go (p c) ih
  where
    go : (b : Bool) → first p (suc c) k ≤ suc c + k → cond b c (first p (suc c) k) ≤ c + suc k
    go true ih = omega arith
    go false ih = omega arith

-- the midpoint of the first run
abbrev pub midpoint : (ℕ → ℕ) → ℕ → ℕ
midpoint w k = first_greatest w k + (run_end w k - first_greatest w k) / 2

pub midpoint-le : (w : ℕ → ℕ) (k : ℕ) → midpoint w k ≤ k
unfolding first_greatest run_end
midpoint-le w k =
    let s : ℕ = first (λ x. eqb (w x) (greatest w k)) 0 k in
    omega (arith, first-le (λ x. eqb (w x) (greatest w k)) 0 k, first-le (λ x. not (eqb (w x) (greatest w k))) s (k - s))

module _ (w : ℕ → ℕ) (near : ℤ → ℤ → Option ℤ) (low : ℤ) (k : ℕ) where
  pub votes-total : (peak_over w near low k).votes ≤ (peak_over w near low k).total
  unfolding peak_over
  votes-total = greatest-under w k (sum_to w k) (λ i h. sum-term w k i h)

  pub votes-under : (H : ℕ) → ((x : ℕ) → x < k → w x ≤ H) → (peak_over w near low k).votes ≤ H
  unfolding peak_over
  votes-under H h = greatest-under w k H h

  pub centre-is : (peak_over w near low k).centre ≡ low +ℤ pos (midpoint w k)
  unfolding peak_over
  centre-is = refl
