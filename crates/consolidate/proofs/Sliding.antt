-- A window that slides over bins at ascending places. Assumes nothing.
use Prim.Native.Nat.{ℕ, zero, suc, ◌+◌, ◌-◌, ◌≤◌, ◌<◌, min}
use mathlib.Core.Path.{◌≡◌, ap, ◌∙◌, subst}
use native.Mathlib.Nat.{not-suc-le-zero}
use native.Mathlib.Numerals.{add-one}
use native.Mathlib.Omega.{arith}
use native.Mathlib.Decide.{dec_lt}
use lib.Dec.{ltb}
use borrow.Author.Tests.{lt-ltb, le-ltb, le-leb, lt-leb}
use Rattle.maps.specs.Sums.{sum_to, when}
use Rattle.consolidate.specs.Windows.{withinℕ, window_sum, Passed, Slides, Covers}
use Rattle.consolidate.specs.Sweeping.{Next}
use Rattle.consolidate.specs.declared.Window.{Window}
use Rattle.maps.proofs.Sums.{sum-next, sum-add, sum-cong, sum-mask, sum_mono, sum_kept}

-- places that ascend
abbrev pub Ascend : (ℕ → ℕ) → ℕ → Type 0
Ascend d n = (i j : ℕ) → i < j → j < n → d i < d j

-- from each bin to the next is enough
pub climbs : (d : ℕ → ℕ) (n : ℕ) → ((i : ℕ) → i + 1 < n → d i < d (i + 1)) → Ascend d n
climbs d n up i zero h u = absurd (not-suc-le-zero h)
climbs d n up i (suc j) h u = go (λ p. climbs d n up i j p (omega arith)) (dec_lt i j)
  where
    last : d j < d (suc j)
    last = subst (λ (m : ℕ). d j < d m) (add-one j) (up j (omega arith))

    go : (i < j → d i < d j) → Dec (i < j) → d i < d (suc j)
    go ih (yes p) = omega (arith, ih p, last)
    go ih (no q) = let e : i ≡ j = omega arith in let g : d i ≡ d j = ap d e in omega (arith, last)

pub up_from : (d : ℕ → ℕ) (n : ℕ) → Ascend d n → (i j : ℕ) → i ≤ j → j < n → d i ≤ d j
up_from d n asc i j h u = elim (dec_lt i j) [ yes p ↦ omega (arith, asc i j p u) | no q ↦ (let e : i ≡ j = omega arith in let g : d i ≡ d j = ap d e in omega arith) ]

-- ---- a walk over the bins below a place

-- the walk has come from `from` to i, and all bins passed lie below
pub record Passing (d v : ℕ → ℕ) (n from below i sum : ℕ) : Type 0 where
  pub on : from ≤ i
  pub most : i ≤ n
  pub under : (k : ℕ) → from ≤ k → k < i → d k < below
  pub adds : sum + sum_to v from ≡ sum_to v i

module _ {d v : ℕ → ℕ} {n from below i sum : ℕ} (P : Passing d v n from below i sum) where
  pub passing-fits : sum_to v n ≤ 1000000 → i < n → sum + v i ≤ 1000000
  passing-fits few h = omega (arith, P.adds, sum-next v i, sum_mono v (i + 1) n (omega arith))

  pub passing-more : i < n → d i < below → Passing d v n from below (i + 1) (sum + v i)
  passing-more h u =
      record {
        on = omega (arith, P.on);
        most = omega arith;
        under = λ k a b. elim (dec_lt k i) [ yes p ↦ P.under k a p | no q ↦ (let e : k ≡ i = omega arith in let g : d k ≡ d i = ap d e in omega arith) ];
        adds = omega (arith, P.adds, sum-next v i);
      }

  pub passed : Ascend d n → (i < n → below ≤ d i) → Passed d v n from below i sum
  passed asc stop = record { on = P.on; most = P.most; under = P.under; over = λ k h u. omega (arith, up_from d n asc i k h u, stop (omega arith)); adds = P.adds }

-- ---- the window moves on

module _ {d v : ℕ → ℕ} {n tol x : ℕ} {w : Window} {E es L ls : ℕ} (few : sum_to v n ≤ 1000000) (S : Slides d v n tol x w)
    (ins : Passed d v n w.enter (x + tol + 1) E es) (outs : Passed d v n w.leave (x - tol) L ls) where
  in_by : (i : ℕ) → i < E → d i ≤ x + tol
  in_by i h = elim (dec_lt i w.enter) [ yes p ↦ S.in_by i p | no q ↦ omega (arith, ins.under i (omega arith) h) ]

  out_by : (i : ℕ) → i < L → d i + tol < x
  out_by i h = elim (dec_lt i w.leave) [ yes p ↦ S.out_by i p | no q ↦ omega (arith, outs.under i (omega arith) h) ]

  later : (i : ℕ) → E ≤ i → i < n → x + tol < d i
  later i a b = omega (arith, ins.over i a b)

  stay : (i : ℕ) → L ≤ i → i < n → x ≤ d i + tol
  stay i a b = omega (arith, outs.over i a b)

  order : L ≤ E
  order = elim (dec_lt E L) [ yes p ↦ omega (arith, out_by E p, later E (omega arith) (omega (arith, outs.most))) | no q ↦ omega arith ]

  pub slide-fits : (ls ≤ w.sum + es) × (w.sum + es ≤ 1000000)
  slide-fits =
      let a = sum_mono v L E order in
      let b = sum_mono v E n ins.most in
      omega (arith, S.holds, ins.adds, outs.adds, few)

  pub slid : Covers d v n tol x (record { enter = E; leave = L; sum = w.sum + es - ls })
  slid =
      record {
        slides = record { entered = ins.most; order = order; in_by = in_by; out_by = out_by; holds = omega (arith, slide-fits, S.holds, ins.adds, outs.adds) };
        later = later;
        stay = stay;
      }

pub slides-on : {d v : ℕ → ℕ} {n tol x : ℕ} {w : Window} (y : ℕ) → x ≤ y → Slides d v n tol x w → Slides d v n tol y w
slides-on y h s =
    record { entered = s.entered; order = s.order; in_by = λ i u. omega (arith, s.in_by i u); out_by = λ i u. omega (arith, s.out_by i u); holds = s.holds }

pub slides-none : (d v : ℕ → ℕ) (n tol x : ℕ) → Slides d v n tol x (record { enter = 0; leave = 0; sum = 0 })
slides-none d v n tol x =
    record { entered = omega arith; order = omega arith; in_by = λ i u. omega arith; out_by = λ i u. omega arith; holds = omega arith }

-- ---- what a window holds

-- where the first l bins have left and the first e have entered, the sum is of those between
split : (d v : ℕ → ℕ) (n tol x e l : ℕ) → l ≤ e → e ≤ n
    → ((i : ℕ) → i < e → d i ≤ x + tol) → ((i : ℕ) → i < l → d i + tol < x)
    → ((i : ℕ) → e ≤ i → i < n → x + tol < d i) → ((i : ℕ) → l ≤ i → i < n → x ≤ d i + tol)
    → window_sum d v n tol x + sum_to v l ≡ sum_to v e
unfolding window_sum
split d v n tol x e l le en in_by out_by later stay =
    rw (← (sum-mask v l n (omega arith)), ← (sum-mask v e n en))
    (sum-add (λ i. when (withinℕ tol x x (d i)) (v i)) (λ i. when (ltb i l) (v i)) n
    ∙ sum-cong (λ i. when (withinℕ tol x x (d i)) (v i) + when (ltb i l) (v i)) (λ i. when (ltb i e) (v i)) n
    (λ i h. at i h (dec_lt i l) (dec_lt i e)))
  where
    at : (i : ℕ) → i < n → Dec (i < l) → Dec (i < e) → when (withinℕ tol x x (d i)) (v i) + when (ltb i l) (v i) ≡ when (ltb i e) (v i)
    at i h (yes p) (yes q) = rw (lt-leb x (d i + tol) (out_by i p), lt-ltb i l p, lt-ltb i e q) (omega arith)
    at i h (yes p) (no q) = absurd (q (omega arith))
    at i h (no p) (yes q) =
        rw (le-leb x (d i + tol) (stay i (omega arith) h), le-leb (d i) (x + tol) (in_by i q), le-ltb i l (omega arith), lt-ltb i e q)
        (omega arith)
    at i h (no p) (no q) =
        rw (le-leb x (d i + tol) (stay i (omega arith) h), lt-leb (d i) (x + tol) (later i (omega arith) h), le-ltb i l (omega arith), le-ltb i e (omega arith))
        (omega arith)

pub window-le : (d v : ℕ → ℕ) (n tol x : ℕ) → window_sum d v n tol x ≤ sum_to v n
unfolding window_sum
window-le d v n tol x = sum_kept (λ i. withinℕ tol x x (d i)) v n

-- a window that covers x has the sum of every place up to the next event
pub covers-flat : {d v : ℕ → ℕ} {n tol x : ℕ} {w : Window} → Covers d v n tol x w
    → (y : ℕ) → x ≤ y → ((i : ℕ) → w.enter ≤ i → i < n → y + tol < d i) → ((i : ℕ) → w.leave ≤ i → i < n → y ≤ d i + tol)
    → window_sum d v n tol y ≡ w.sum
covers-flat {d} {v} {n} {tol} {x} {w} c y h later stay =
    let s = c.slides in
    let t : window_sum d v n tol y + sum_to v w.leave ≡ sum_to v w.enter = split d v n tol y w.enter w.leave s.order s.entered (λ i u. omega (arith, s.in_by i u)) (λ i u. omega (arith, s.out_by i u)) later stay in
    omega (arith, s.holds)

pub covers-sum : {d v : ℕ → ℕ} {n tol x : ℕ} {w : Window} → Covers d v n tol x w → w.sum ≡ window_sum d v n tol x
covers-sum {x = x} c = let e = covers-flat c x (omega arith) c.later c.stay in omega arith

-- ---- the next event

pub next-is : (d v : ℕ → ℕ) (n tol at width pe pl : ℕ) (w : Window) → Ascend d n → at < width → Covers d v n tol at w
    → (w.enter < n → pe ≡ d w.enter) → (n ≤ w.enter → pe ≡ width + tol) → (w.leave < n → pl ≡ d w.leave) → (n ≤ w.leave → pl ≡ width)
    → Next d n tol at width w.enter w.leave (min (min (pe - tol) (pl + tol + 1)) width)
next-is d v n tol at width pe pl w asc lt c e₁ e₂ l₁ l₂ =
    let p : at + tol < pe = elim (dec_lt w.enter n) [ yes u ↦ omega (arith, e₁ u, c.later w.enter (omega arith) u) | no u ↦ omega (arith, e₂ (omega arith)) ] in
    let q : at ≤ pl + tol = elim (dec_lt w.leave n) [ yes u ↦ omega (arith, l₁ u, c.stay w.leave (omega arith) u) | no u ↦ omega (arith, l₂ (omega arith)) ] in
    record {
      on = omega arith;
      most = omega arith;
      entering = λ i h u. omega (arith, e₁ (omega arith), up_from d n asc w.enter i h u);
      leaving = λ i h u. omega (arith, l₁ (omega arith), up_from d n asc w.leave i h u);
    }
