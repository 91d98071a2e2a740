-- What the parts of the sweep say of each other. Offsets are counted from the low end of the span, so this is about natural numbers.
-- Assumes nothing.
use Rattle.std.specs.Prelude.{ℕ, ◌+◌, ◌^◌, ◌≤◌, ◌<◌, ◌≡◌, cond, ◌&&◌, List, ℤ, ◌-ℤ◌, T, ltb, eqb}
use Rattle.std.specs.Int.Signed.{non_neg}
use Rattle.maps.specs.Bins.{offset, votes, place}
use Rattle.maps.specs.Sums.{sum_to}
use Rattle.consolidate.specs.Limits.{Bins}
use Rattle.consolidate.specs.Runs.{Leads}
use Rattle.consolidate.specs.Windows.{window_sum, Slides}
use Rattle.consolidate.specs.declared.Run.{Run}
use Rattle.consolidate.specs.declared.State.{State}

-- n bins at ascending places
pub record Placed (l : List ℤ) (low : ℤ) (n : ℕ) : Type 0 where
  pub bins : Bins l n
  pub some : (i : ℕ) → i < n → 0 < votes l i
  pub above : (i : ℕ) → i < n → T (non_neg (offset l i -ℤ low))
  pub near : (i : ℕ) → i < n → place l low i ≤ 2 ^ 33
  pub ascend : (i j : ℕ) → i < j → j < n → place l low i < place l low j
  pub sum : sum_to (votes l) n ≤ 1000000

-- from the centre `at` to before `next`, none but the first `enter` bins has entered the window, and none but the first `leave` has left it
pub record Next (d : ℕ → ℕ) (n tol at width enter leave next : ℕ) : Type 0 where
  pub on : at < next
  pub most : next ≤ width
  pub entering : (i : ℕ) → enter ≤ i → i < n → next + tol ≤ d i
  pub leaving : (i : ℕ) → leave ≤ i → i < n → next ≤ d i + tol + 1

-- peak is the greatest of f 0, .., f (n - 1), and its first run goes from `start` to before `end`
pub record Best (f : ℕ → ℕ) (n : ℕ) (r : Run) : Type 0 where
  pub leads : Leads f n r.peak r.start
  pub flat : (x : ℕ) → r.start ≤ x → x < r.end → f x ≡ r.peak
  pub some : 0 < n → r.start < r.end
  pub done : r.end ≤ n
  pub stops : r.end < n → f r.end < r.peak

-- a run of centres at, .., next - 1 with the sum v, after those before it
abbrev pub better_of : Run → ℕ → ℕ → ℕ → Run
better_of r at next v =
    cond (ltb r.peak v) (record { peak = v; start = at; end = next })
    (cond (eqb v r.peak && eqb at r.end) (record { peak = r.peak; start = r.start; end = next }) r)

-- the sweep has passed the centres below st .at
pub record Swept (d v : ℕ → ℕ) (n tol width : ℕ) (st : State) : Type 0 where
  pub bound : st.at ≤ width
  pub slides : Slides d v n tol st.at st.window
  pub best : Best (window_sum d v n tol) st.at st.run
  pub sums : st.total ≡ sum_to (window_sum d v n tol) st.at
