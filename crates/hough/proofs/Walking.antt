-- Three windows that slide from bin to bin; the first greatest sum; the background. Assumes nothing.
use Prim.Native.Nat.{ℕ, ◌+◌, ◌-◌, ◌*◌, ◌≤◌, ◌<◌}
use mathlib.Core.Path.{◌≡◌, refl, sym, ap, ◌∙◌}
use mathlib.Core.Bool.{Bool, true, false}
use mathlib.Core.List.{List}
use native.Mathlib.Omega.{arith}
use native.Mathlib.Decide.{dec_lt}
use lib.IntN.{ℤ}
use Rattle.maps.specs.Sums.{sum_to, when}
use Rattle.maps.proofs.Sums.{sum-next}
use Rattle.consolidate.specs.Runs.{Leads}
use Rattle.consolidate.proofs.Leading.{leads-greatest, leads-first}
use Rattle.consolidate.proofs.Sliding.{slides-on, slides-none, covers-sum}
use Rattle.hough.specs.Hough.{far, hough_sum, hough_peak}
use Rattle.hough.specs.Limits.{Bins}
use Rattle.hough.specs.Keys.{row, key, Ready, Around, at_start, more_of}
use Rattle.hough.specs.declared.Peak.{Peak}
use Rattle.hough.specs.declared.Background.{Background}
use Rattle.hough.specs.declared.Windows.{Windows}
use Rattle.hough.proofs.Places.{three_sums, hough-is, hough-small}

-- ---- three windows

pub ready-none : (l : List ℤ) (n tol x : ℕ) → Ready l n tol x at_start
ready-none l n tol x = record { under = slides-none _ _ _ _ _; here = slides-none _ _ _ _ _; over = slides-none _ _ _ _ _ }

pub ready_on : (l : List ℤ) (n tol x y : ℕ) (t : Windows) → x ≤ y → Around l n tol x t → Ready l n tol y t
ready_on l n tol x y t h o =
    record {
      under = slides-on (y - row) (omega arith) o.under.slides;
      here = slides-on y h o.here.slides;
      over = slides-on (y + row) (omega arith) o.over.slides;
    }

pub three-sums : (l : List ℤ) (n tol x : ℕ) (t : Windows) → Around l n tol x t → t.under.sum + t.here.sum + t.over.sum ≡ three_sums l n tol x
three-sums l n tol x t o = omega (arith, covers-sum o.under, covers-sum o.here, covers-sum o.over)

module _ (l : List ℤ) (n tol : ℕ) (b : Bins l n) where
  pub around-sum : (i : ℕ) (t : Windows) → tol ≤ 65535 → i < n → Around l n tol (key l i) t → t.under.sum + t.here.sum + t.over.sum ≡ hough_sum l n tol i
  around-sum i t T h o = three-sums l n tol (key l i) t o ∙ sym (hough-is l n b tol i T h)

-- ---- the first greatest

module _ (l : List ℤ) (n tol : ℕ) (p : Peak) (L : Leads (hough_sum l n tol) n p.votes p.at) where
  peak-is : p ≡ hough_peak l n tol
  unfolding hough_peak
  peak-is = λ i. record { votes = sym (leads-greatest L) i; at = sym (leads-first L) i }

  peak-small : Bins l n → p.votes ≤ 1000000
  peak-small b = elim (dec_lt 0 n) [ yes u ↦ omega (arith, (L.some u).1, hough-small l n b tol p.at n (omega arith)) | no u ↦ omega (arith, (L.none (omega arith)).1) ]

  pub peak-found : Bins l n → (p ≡ hough_peak l n tol) × ((0 < n → p.at < n) × (p.votes ≤ 1000000))
  peak-found b = (peak-is, ((λ u. (L.some u).0), peak-small b))

-- ---- the background

-- the bins before i that are far from bin a
pub record Behind (l : List ℤ) (n tol a i : ℕ) (b : Background) : Type 0 where
  pub sum : b.sum ≡ sum_to (λ j. when (far l tol a j) (hough_sum l n tol j)) i
  pub count : b.count ≡ sum_to (λ j. when (far l tol a j) 1) i
  pub small : b.sum ≤ i * 1000000
  pub few : b.count ≤ i

pub behind-none : (l : List ℤ) (n tol a : ℕ) → Behind l n tol a 0 (record { sum = 0; count = 0 })
unfolding sum_to
behind-none l n tol a = record { sum = refl; count = refl; small = omega arith; few = omega arith }

pub behind_more : (l : List ℤ) (n tol a i : ℕ) (b q : Background) (t : Bool) (v : ℕ) → q ≡ more_of b t v → t ≡ far l tol a i → v ≡ hough_sum l n tol i → v ≤ 1000000
    → Behind l n tol a i b → Behind l n tol a (i + 1) q
behind_more l n tol a i b q t v eq et ev small B = go t eq et
  where
    fs : ℕ → ℕ
    fs j = when (far l tol a j) (hough_sum l n tol j)

    fc : ℕ → ℕ
    fc j = when (far l tol a j) 1

    go : (t : Bool) → q ≡ more_of b t v → t ≡ far l tol a i → Behind l n tol a (i + 1) q
    go true eq et =
        let s : q.sum ≡ b.sum + v = ap (λ (z : Background). z.sum) eq in
        let k : q.count ≡ b.count + 1 = ap (λ (z : Background). z.count) eq in
        let x : fs i ≡ hough_sum l n tol i = ap (λ (z : Bool). when z (hough_sum l n tol i)) (sym et) in
        let y : fc i ≡ 1 = ap (λ (z : Bool). when z 1) (sym et) in
        record { sum = omega (arith, sum-next fs i, B.sum); count = omega (arith, sum-next fc i, B.count); small = omega (arith, B.small); few = omega (arith, B.few) }
    go false eq et =
        let s : q.sum ≡ b.sum = ap (λ (z : Background). z.sum) eq in
        let k : q.count ≡ b.count = ap (λ (z : Background). z.count) eq in
        let x : fs i ≡ 0 = ap (λ (z : Bool). when z (hough_sum l n tol i)) (sym et) in
        let y : fc i ≡ 0 = ap (λ (z : Bool). when z 1) (sym et) in
        record { sum = omega (arith, sum-next fs i, B.sum); count = omega (arith, sum-next fc i, B.count); small = omega (arith, B.small); few = omega (arith, B.few) }
