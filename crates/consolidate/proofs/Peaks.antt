-- One step of the sweep, and from its last state to the answer. Assumes nothing.
use Prim.Native.Nat.{ℕ, ◌+◌, ◌-◌, ◌*◌, ◌/◌, ◌^◌, ◌≤◌, ◌<◌}
use mathlib.Core.Path.{◌≡◌, refl, sym, ap, ◌∙◌}
use mathlib.Core.Bool.{Bool, true, false, and-false}
use mathlib.Core.List.{List}
use native.Mathlib.Omega.{arith}
use native.Mathlib.Decide.{dec_lt}
use lib.IntN.{ℤ, pos, nat_abs, ◌+ℤ◌}
use lib.Dec.{leb}
use borrow.Author.Tests.{le-leb, lt-leb, le-ltb, lt-ltb}
use mir.Syntax.{w64}
use mir.Val.{SFits}
use Rattle.signed.proofs.Sizes.{fits-abs}
use Rattle.maps.specs.Bins.{offset, votes, place}
use Rattle.maps.specs.Sums.{sum_to, when}
use Rattle.std.specs.Prelude.{unwrap_or}
use Rattle.consolidate.specs.Modes.{mode}
use Rattle.consolidate.specs.Box.{count_of, within, mode_near, peak_over, between, mode_between}
use Rattle.consolidate.specs.Windows.{withinℕ, window_sum, Passed, Covers}
use Rattle.consolidate.specs.Sweeping.{Placed, Next, Best, better_of, Swept}
use Rattle.consolidate.specs.Limits.{Bins}
use Rattle.consolidate.specs.Tallies.{tally_of, no_tally, mode_of}
use Rattle.consolidate.specs.declared.State.{State}
use Rattle.consolidate.specs.declared.Tally.{Tally}
use Rattle.consolidate.specs.declared.Window.{Window}
use Rattle.maps.proofs.Sums.{sum-flat, sum-under}
use Rattle.consolidate.proofs.Leading.{best_none, best-more, leads-greatest, leads-first, best-end}
use Rattle.consolidate.proofs.Sliding.{window-le, covers-flat, slides-on, slides-none}
use Rattle.consolidate.proofs.Tallies.{Tallied, tally-gap, tally-none, tally-more, tally-small, mode-is, mode-cong, unwrap-is}
use Rattle.consolidate.proofs.Spans.{near-is}

-- ---- one step: the window w covers the centre at, and the next event is at `next`

module _ {d v : ℕ → ℕ} {n tol width : ℕ} {st : State} {w : Window} {next : ℕ} (few : sum_to v n ≤ 1000000) (S : Swept d v n tol width st)
    (C : Covers d v n tol st.at w) (N : Next d n tol st.at width w.enter w.leave next) where
  flat : (x : ℕ) → st.at ≤ x → x < next → window_sum d v n tol x ≡ w.sum
  flat x a b = covers-flat C x a (λ i h u. omega (arith, N.entering i h u)) (λ i h u. omega (arith, N.leaving i h u))

  pub step-sums : st.total + w.sum * (next - st.at) ≡ sum_to (window_sum d v n tol) next
  step-sums = omega (arith, sum-flat (window_sum d v n tol) st.at next w.sum (omega (arith, N.on)) flat, S.sums)

  pub step_small : sum_to (window_sum d v n tol) next ≤ next * 1000000
  step_small = sum-under (window_sum d v n tol) next 1000000 (λ x h. omega (arith, window-le d v n tol x, few))

  pub stepped : Swept d v n tol width (record {
    at = next;
    window = w;
    run = better_of st.run st.at next w.sum;
    total = st.total + w.sum * (next - st.at);
  })
  stepped =
      record {
        bound = N.most;
        slides = slides-on next (omega (arith, N.on)) C.slides;
        best = best-more (window_sum d v n tol) st.run st.at next w.sum S.best N.on flat;
        sums = step-sums;
      }

pub swept_none : (d v : ℕ → ℕ) (n tol width : ℕ)
    → Swept d v n tol width (record { at = 0; window = record { enter = 0; leave = 0; sum = 0 }; run = record { peak = 0; start = 0; end = 0 }; total = 0 })
unfolding sum_to
swept_none d v n tol width = record { bound = omega arith; slides = slides-none d v n tol 0; best = best_none (window_sum d v n tol); sums = refl }

-- ---- the bins within tol of the run are those from a to before e

pub off-before : (from to j : ℕ) → j < from → between from to j ≡ false
off-before from to j h = rw (lt-leb from j h) refl

pub off-after : (from to j : ℕ) → to ≤ j → between from to j ≡ false
off-after from to j h = rw (le-ltb j to h) (and-false (leb from j))

pub on-between : (from to j : ℕ) → from ≤ j → j < to → between from to j ≡ true
on-between from to j a b = rw (le-leb from j a, lt-ltb j to b) refl

-- the tally of the bins from `from` to before `to`, of those before x
abbrev pub TalliedBetween : List ℤ → ℕ → ℕ → ℕ → Tally → Type 0
TalliedBetween l from to x t = Tallied (λ j. when (between from to j) (votes l j)) (offset l) x t

pub between-none : (l : List ℤ) (from to : ℕ) → TalliedBetween l from to from no_tally
between-none l from to =
    tally-gap (λ j. when (between from to j) (votes l j)) (offset l) 0 from no_tally (omega arith)
    (λ j u h. ap (λ (b : Bool). when b (votes l j)) (off-before from to j h)) (tally-none (λ j. when (between from to j) (votes l j)) (offset l))

pub between-more : (l : List ℤ) (from to x : ℕ) (t : Tally) → from ≤ x → x < to → TalliedBetween l from to x t
    → TalliedBetween l from to (x + 1) (tally_of t (votes l x) (offset l x))
between-more l from to x t a b T =
    let e : when (between from to x) (votes l x) ≡ votes l x = ap (λ (k : Bool). when k (votes l x)) (on-between from to x a b) in
    rw e at (tally-more (λ j. when (between from to j) (votes l j)) (offset l) x t T)

-- once x is past `to`, it is that of all n bins
between-all : (l : List ℤ) (from to x n : ℕ) (t : Tally) → to ≤ x → x ≤ n → TalliedBetween l from to x t → TalliedBetween l from to n t
between-all l from to x n t g h T =
    tally-gap (λ j. when (between from to j) (votes l j)) (offset l) x n t h (λ j a b. ap (λ (k : Bool). when k (votes l j)) (off-after from to j (omega arith))) T

pub between-mode : (l : List ℤ) (from to x n : ℕ) (t : Tally) → to ≤ x → x ≤ n → TalliedBetween l from to x t → mode_of t ≡ mode_between l n from to
between-mode l from to x n t g h T = mode-is (λ j. when (between from to j) (votes l j)) (offset l) n t (between-all l from to x n t g h T)

-- the words of a bin
pub offset-fits : (l : List ℤ) (n i : ℕ) → Bins l n → i < n → SFits w64 (offset l i)
offset-fits l n i b h = fits-abs (offset l i) (omega (arith, b.close i h))

pub count-fits : (l : List ℤ) (n i : ℕ) → Bins l n → i < n → SFits w64 (count_of l i)
count-fits l n i b h = fits-abs (count_of l i) (omega (arith, b.small i h))

-- a tally is small
pub between_small : (l : List ℤ) (n from to x : ℕ) (t : Tally) → Bins l n → x ≤ n → TalliedBetween l from to x t
    → (t.count ≤ 1000000) × (nat_abs t.sum ≤ 1000000 * 2 ^ 33)
between_small l n from to x t b h T =
    let s = tally-small (λ j. when (between from to j) (votes l j)) (offset l) x (2 ^ 33) t (λ j u. b.close j (omega arith)) T in
    omega (arith, s, b.few)

reached : (d v : ℕ → ℕ) (n tol start end a asum e esum i : ℕ) → start < end → i < n
    → Passed d v n 0 (start - tol) a asum → Passed d v n a (end + tol) e esum
    → withinℕ tol start (end - 1) (d i) ≡ between a e i
reached d v n tol start end a asum e esum i se h A E = go (dec_lt i a) (dec_lt i e)
  where
    go : Dec (i < a) → Dec (i < e) → withinℕ tol start (end - 1) (d i) ≡ between a e i
    go (yes p) q = rw (lt-leb start (d i + tol) (omega (arith, A.under i (omega arith) p))) (sym (off-before a e i p))
    go (no p) (yes q) =
        rw (le-leb start (d i + tol) (omega (arith, A.over i (omega arith) h)), le-leb (d i) (end - 1 + tol) (omega (arith, E.under i (omega arith) q)))
        (sym (on-between a e i (omega arith) q))
    go (no p) (no q) =
        rw (le-leb start (d i + tol) (omega (arith, A.over i (omega arith) h)), lt-leb (d i) (end - 1 + tol) (omega (arith, E.over i (omega arith) h)))
        (sym (off-after a e i (omega arith)))

-- ---- the answer from the last state

module _ {d v : ℕ → ℕ} {n tol width : ℕ} {st : State} (S : Swept d v n tol width st) (e : st.at ≡ width) where
  pub swept-best : Best (window_sum d v n tol) width st.run
  swept-best = rw e at S.best

  pub swept-sums : st.total ≡ sum_to (window_sum d v n tol) width
  swept-sums = rw e at S.sums

pub answer : (l : List ℤ) (low : ℤ) (n tol width : ℕ) (st : State) (a asum e esum : ℕ) → Placed l low n → 0 < width
    → Best (window_sum (place l low) (votes l) n tol) width st.run → st.total ≡ sum_to (window_sum (place l low) (votes l) n tol) width
    → Passed (place l low) (votes l) n 0 (st.run.start - tol) a asum → Passed (place l low) (votes l) n a (st.run.end + tol) e esum
    → record {
      votes = st.run.peak;
      centre = low +ℤ pos (st.run.start + (st.run.end - 1 - st.run.start) / 2);
      mode = unwrap_or (mode_between l n a e) (low +ℤ pos (st.run.start + (st.run.end - 1 - st.run.start) / 2));
      total = st.total;
    }
    ≡ peak_over (window_sum (place l low) (votes l) n tol) (mode_near l n tol) low width
unfolding peak_over mode_near
answer l low n tol width st a asum e esum b any B total A E =
    let near : mode (λ i. when (within tol (low +ℤ pos st.run.start) (low +ℤ pos (st.run.end - 1)) (offset l i)) (votes l i)) (offset l) n
    ≡ mode (λ i. when (between a e i) (votes l i)) (offset l) n
    = mode-cong (λ i. when (within tol (low +ℤ pos st.run.start) (low +ℤ pos (st.run.end - 1)) (offset l i)) (votes l i)) (λ i. when (between a e i) (votes l i)) (offset l) n
    (λ i h. ap (λ (t : Bool). when t (votes l i)) (near-is l low n b tol st.run.start (st.run.end - 1) i h ∙ reached (place l low) (votes l) n tol st.run.start st.run.end a asum e esum i (B.some any) h A E)) in
    rw (leads-greatest B.leads, leads-first B.leads, best-end any B, ← total, near, unwrap-is) refl
