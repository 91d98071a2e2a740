-- The box sweep. A bin is two words of a slice: its offset, its count. Definitions only. Assumes nothing.
use Rattle.std.specs.Prelude.{ℕ, ◌+◌, ◌-◌, ◌*◌, ◌/◌, Bool, cond, ◌&&◌, Option, List, ℤ, pos, nat_abs, ◌+ℤ◌, ◌-ℤ◌, leb, ltb, eqb, get_or}
use Rattle.std.specs.Int.Signed.{le_z}
use Rattle.maps.specs.Bins.{offset, votes}
use Rattle.maps.specs.Sums.{sum_to, greatest, when}
use Rattle.consolidate.specs.Runs.{first_greatest, run_end}
use Rattle.consolidate.specs.Modes.{mode, mode_or}
use Rattle.consolidate.specs.declared.Peak.{Peak}

-- the word that holds the count of bin i
abbrev pub count_of : List ℤ → ℕ → ℤ
count_of l i = get_or l (2 * i + 1) (pos 0)

-- bin i is one of those from `from` to before `to`
abbrev pub between : ℕ → ℕ → ℕ → Bool
between from to i = leb from i && ltb i to

-- the mode of those bins
abbrev pub mode_between : List ℤ → ℕ → ℕ → ℕ → Option ℤ
mode_between l n from to = mode (λ i. when (between from to i) (votes l i)) (offset l) n

-- the offset d is within ± tol of a centre from a to b
abbrev pub within : ℕ → ℤ → ℤ → ℤ → Bool
within tol a b d = le_z a (d +ℤ pos tol) && le_z d (b +ℤ pos tol)

-- of n bins, "the sum of counts within ± tolerance" of the centre c
unfoldable pub window : List ℤ → ℕ → ℕ → ℤ → ℕ
window l n tol c = sum_to (λ i. when (within tol c c (offset l i)) (votes l i)) n

-- the mode "among bins within tolerance of the run" from a to b
unfoldable pub mode_near : List ℤ → ℕ → ℕ → ℤ → ℤ → Option ℤ
mode_near l n tol a b = mode (λ i. when (within tol a b (offset l i)) (votes l i)) (offset l) n

-- "greatest sum, whole-number midpoint (down) of its first run, mode, total over all centres",
-- the centres being low, low + 1, .., low + k - 1 with the sums w 0, .., w (k - 1), and `near a b` the mode near the run from a to b
unfoldable pub peak_over : (ℕ → ℕ) → (ℤ → ℤ → Option ℤ) → ℤ → ℕ → Peak
peak_over w near low k =
    let a : ℕ = first_greatest w k in
    let b : ℕ = run_end w k in
    let mid : ℤ = low +ℤ pos (a + (b - a) / 2) in
    record {
      votes = greatest w k;
      centre = mid;
      mode = mode_or mid (near (low +ℤ pos a) (low +ℤ pos b));
      total = sum_to w k;
    }

-- of n bins of l, a tolerance and the span from low to high; "with none the answer is 0, the low end twice, 0"
unfoldable pub box_peak : List ℤ → ℕ → ℕ → ℤ → ℤ → Peak
box_peak l n tol low high =
    cond (eqb n 0)
    (record { votes = 0; centre = low; mode = low; total = 0 })
    (peak_over (λ x. window l n tol (low +ℤ pos x)) (mode_near l n tol) low (nat_abs (high -ℤ low) + 1))
