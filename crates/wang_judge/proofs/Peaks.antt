-- The sweep over a candidate's bins finds the peak that is defined by counts of its votes. Assumes nothing.
use Rattle.std.specs.Prelude.{Option}
use mathlib.Core.Path.{◌≡◌, refl, sym, ap, ap₂, ◌∙◌, subst, fun_ext}
use mathlib.Core.Bool.{Bool, true, false, ◌&&◌, and-false}
use mathlib.Core.List.{List}
use Prim.Native.Nat.{ℕ, ◌+◌, ◌*◌, ◌^◌, ◌≤◌, ◌<◌, max}
use native.Mathlib.Omega.{arith}
use native.Mathlib.Decide.{dec_lt}
use lib.IntN.{ℤ, pos, negsuc, neg_ℤ, nat_abs, ◌+ℤ◌, ◌-ℤ◌, +ℤ_comm, +ℤ-neg_ℤ_cancel, +ℤ_idr}
use lib.ListN.{length}
use lib.Signed.{non_neg, le_z, pos-nat_abs}
use lib.Dec.{T, eqb, leb, ltb, leb→le}
use borrow.Author.Tests.{le-leb, lt-leb, ne_eqb, eq-eqb, eqb-true, eqb-false}
use Rattle.lists.proofs.Tests.{test}
use Rattle.maps.specs.Sums.{sum_to, when}
use Rattle.maps.specs.Bins.{offset, votes, place}
use Rattle.maps.proofs.Tests.{holds}
use Rattle.maps.proofs.Sums.{sum-cong, sum-none, sum-term}
use Rattle.bins.specs.Votes.{places, positions}
use Rattle.bins.specs.Binned.{Binned}
use Rattle.bins.specs.Distinct.{marked, distinct_near}
use Rattle.bins.proofs.Sparse.{Sparse, Off, one_of, when-none}
use Rattle.consolidate.specs.Box.{within, window, mode_near, peak_over, box_peak}
use Rattle.consolidate.specs.Limits.{Span}
use Rattle.consolidate.specs.Windows.{withinℕ}
use Rattle.consolidate.proofs.Facts.{midpoint, votes-total, votes-under, centre-is}
use Rattle.signed.proofs.Order.{le_z-lt_z}
use Rattle.consolidate.proofs.Spans.{le-shift, within-is}
use Rattle.wang_judge.specs.Judge.{Vote, Counts, near, votes_at, mode_within, peak_of, distinct}
use Rattle.wang_judge.specs.Candidates.{counts_in}
use Rattle.wang_judge.proofs.Words.{Tells, ones, counts-tell}
use Rattle.wang_judge.proofs.Modes.{sparse-mode}

-- ---- small facts

at-is : (low : ℤ) (x y : ℕ) → within 0 (low +ℤ pos x) (low +ℤ pos x) (low +ℤ pos y) ≡ eqb y x
at-is low x y = within-is low 0 x x y ∙ test (eqb y x) (λ e. equal (eqb-true y x e)) (λ e. other (eqb-false y x e) (dec_lt y x) ∙ sym e)
  where
    equal : y ≡ x → withinℕ 0 x x y ≡ eqb y x
    equal e = rw (le-leb x (y + 0) (omega arith), le-leb y (x + 0) (omega arith), eq-eqb y x e) refl

    other : (y ≡ x → ⊥) → Dec (y < x) → withinℕ 0 x x y ≡ false
    other n (yes p) = rw (lt-leb x (y + 0) (omega arith)) refl
    other n (no p) = rw (lt-leb y (x + 0) (omega arith)) (and-false (leb x (y + 0)))

-- a number between two is no larger than the larger of them
between-abs : (a d b : ℤ) → T (le_z a d) → T (le_z d b) → nat_abs d ≤ max (nat_abs a) (nat_abs b)
between-abs a (pos n) (pos m) h k = omega (arith, leb→le n m k)
between-abs a (pos n) (negsuc m) h k = absurd k
between-abs (pos l) (negsuc n) b h k = absurd h
between-abs (negsuc l) (negsuc n) b h k = omega (arith, leb→le n l h)

span-back : (low : ℤ) (x : ℕ) → nat_abs ((low +ℤ pos x) -ℤ low) ≡ x
span-back low x = ap (λ (z : ℤ). nat_abs (z -ℤ low)) (+ℤ_comm low (pos x)) ∙ ap nat_abs (+ℤ-neg_ℤ_cancel (pos x) low)

-- ---- k bins of l that hold g votes, of places d that are at most W and positions q; n counts the votes
module _ (n : Counts) (low : ℤ) (d q : ℕ → ℕ) (g : ℕ) (E : Tells n low d q g) where
  -- how many positions the bins' marks count
  pub distinct-is : (tol x m : ℕ) → distinct_near tol x d q g m ≡ distinct n tol (low +ℤ pos x) m
  unfolding distinct_near marked distinct
  distinct-is tol x m =
      sum-cong (marked tol x d q g) (λ i. when (ltb 0 (n (λ v. eqb v.position i && near tol (low +ℤ pos x) v))) 1) m
      (λ i h. ap (λ (c : ℕ). when (ltb 0 c) 1)
      (sum-cong (λ t. when (eqb (q t) i && withinℕ tol x x (d t)) 1) (λ t. when (eqb (q t) i && within tol (low +ℤ pos x) (low +ℤ pos x) (low +ℤ pos (d t))) 1) g
      (λ t k. ap (λ (b : Bool). when (eqb (q t) i && b) 1) (sym (within-is low tol x x (d t))))
      ∙ sym (E (λ v. eqb v.position i && near tol (low +ℤ pos x) v))))

  module _ (l : List ℤ) (k : ℕ) (B : Binned d g low l k) where
    -- whatever is asked of δ
    held : (p : ℤ → Bool) → n (λ v. p v.delta) ≡ sum_to (λ j. when (p (low +ℤ pos (place l low j))) (votes l j)) k
    held p = E (λ v. p v.delta) ∙ sym (B.held (λ y. p (low +ℤ pos y)))

    total-is : sum_to (votes l) k ≡ g
    total-is = B.held (λ y. true) ∙ ones g

    windows-are : (tol : ℕ) (c : ℤ) → window l k tol c ≡ n (near tol c)
    unfolding window
    windows-are tol c =
        sum-cong (λ i. when (within tol c c (offset l i)) (votes l i)) (λ i. when (within tol c c (low +ℤ pos (place l low i))) (votes l i)) k
        (λ i h. ap (λ (z : ℤ). when (within tol c c z) (votes l i)) (B.offsets i h))
        ∙ sym (held (within tol c c))

    votes-at : (x : ℕ) → votes_at n (low +ℤ pos x) ≡ sum_to (λ j. when (eqb (place l low j) x) (votes l j)) k
    votes-at x =
        held (within 0 (low +ℤ pos x) (low +ℤ pos x))
        ∙ sum-cong (λ j. when (within 0 (low +ℤ pos x) (low +ℤ pos x) (low +ℤ pos (place l low j))) (votes l j)) (λ j. when (eqb (place l low j) x) (votes l j)) k
        (λ j h. ap (λ (b : Bool). when b (votes l j)) (at-is low x (place l low j)))

    off-bin : (x : ℕ) → Off (place l low) k x → votes_at n (low +ℤ pos x) ≡ 0
    off-bin x o = votes-at x ∙ sum-none (λ j. when (eqb (place l low j) x) (votes l j)) k (λ j h. ap (λ (b : Bool). when b (votes l j)) (ne_eqb (place l low j) x (o j h)))

    apart : (i j : ℕ) → i < k → j < k → (i ≡ j → ⊥) → place l low i ≡ place l low j → ⊥
    apart i j h u ne e = go (dec_lt i j)
      where
        go : Dec (i < j) → ⊥
        go (yes p) = omega (arith, B.ascend i j p u)
        go (no p) = omega (arith, B.ascend j i (above (dec_lt j i)) h)
          where
            above : Dec (j < i) → j < i
            above (yes r) = r
            above (no r) = absurd (ne (omega arith))

    at-bin : (j : ℕ) → j < k → votes_at n (low +ℤ pos (place l low j)) ≡ votes l j
    at-bin j h =
        votes-at (place l low j)
        ∙ one_of (λ i. when (eqb (place l low i) (place l low j)) (votes l i)) k j h
        (λ i u ne. ap (λ (b : Bool). when b (votes l i)) (ne_eqb (place l low i) (place l low j) (apart i j u h ne)))
        ∙ ap (λ (b : Bool). when b (votes l j)) (eq-eqb (place l low j) (place l low j) refl)

    module _ (W : ℕ) (spanned : (t : ℕ) → t < g → d t ≤ W) where
      sparse : Sparse (place l low) (W + 1) k
      sparse = record { asc = B.ascend; top = λ j h. omega (arith, B.spanned W spanned j h) }

      mode-is : (tol : ℕ) (a b : ℤ) → mode_near l k tol a b ≡ mode_within n tol low (W + 1) a b
      unfolding mode_near mode_within
      mode-is tol a b =
          sym (sparse-mode (place l low) (W + 1) k sparse (λ x. when (within tol a b (low +ℤ pos x)) (votes_at n (low +ℤ pos x))) (λ j. when (within tol a b (offset l j)) (votes l j))
          (λ x. low +ℤ pos x) (offset l) (λ x h o. ap (when (within tol a b (low +ℤ pos x))) (off-bin x o) ∙ when-none (within tol a b (low +ℤ pos x)))
          (λ j h. ap₂ (λ (z : ℤ) (v : ℕ). when (within tol a b z) v) (sym (B.offsets j h)) (at-bin j h)) (λ j h. sym (B.offsets j h)))

      pub peak-is : (tol : ℕ) (high : ℤ) → high ≡ low +ℤ pos W → 0 < k → box_peak l k tol low high ≡ peak_of n tol low (W + 1)
      unfolding box_peak peak_of
      peak-is tol high e some =
          rw (ne_eqb k 0 (λ z. omega arith), e, span-back low W)
          (ap₂ (λ (w : ℕ → ℕ) (m : ℤ → ℤ → Option ℤ). peak_over w m low (W + 1)) (fun_ext (λ x. windows-are tol (low +ℤ pos x))) (fun_ext (λ a. fun_ext (λ b. mode-is tol a b))))

      -- the span is one that the sweep takes
      module _ (high : ℤ) (e : high ≡ low +ℤ pos W) where
        up : (i : ℕ) → i < k → T (le_z low (offset l i))
        up i h =
            subst (λ (z : ℤ). T (le_z low z)) (sym (B.offsets i h))
            (subst (λ (z : ℤ). T (le_z z (low +ℤ pos (place l low i)))) (+ℤ_idr low) (holds (le-shift low 0 (place l low i) ∙ le-leb 0 (place l low i) (omega arith))))

        down : (i : ℕ) → i < k → T (le_z (offset l i) high)
        down i h = holds (ap₂ le_z (B.offsets i h) e ∙ le-shift low (place l low i) W ∙ le-leb (place l low i) W (B.spanned W spanned i h))

        pub span_of : (tol : ℕ) → 2 * k ≤ length l → g ≤ 1000000 → nat_abs low < 2 ^ 32 → nat_abs high < 2 ^ 32 → tol ≤ 65535 → Span l k tol low high
        span_of tol room few bottom top reach =
            record {
              bins = record {
                few = omega (arith, B.few);
                room = room;
                close = λ i h. omega (arith, between-abs low (offset l i) high (up i h) (down i h));
                counted = λ i h. subst (λ (z : ℤ). T (non_neg z)) (sym (B.counts i h)) tt;
                small = λ i h. omega (arith, sum-term (votes l) k i h, total-is);
              };
              some = B.occupied;
              up = up;
              down = down;
              ascend = λ i h. le_z-lt_z (offset l i) (offset l (i + 1))
                  (ap₂ le_z (B.offsets (i + 1) h) (B.offsets i (omega arith)) ∙ le-shift low (place l low (i + 1)) (place l low i) ∙ lt-leb (place l low (i + 1)) (place l low i) (B.ascend i (i + 1) (omega arith) h));
              sum = omega (arith, total-is);
              reach = reach;
              bottom = bottom;
              top = top;
            }

-- ---- the peak of any counts

-- the window sums
abbrev pub sums : Counts → ℕ → ℤ → ℕ → ℕ
sums n tol low x = n (near tol (low +ℤ pos x))

module _ (n : Counts) (tol : ℕ) (low : ℤ) (k : ℕ) where
  pub peak-le : (peak_of n tol low k).votes ≤ (peak_of n tol low k).total
  unfolding peak_of
  peak-le = votes-total (sums n tol low) (mode_within n tol low k) low k

  pub peak-under : (H : ℕ) → ((p : Vote → Bool) → n p ≤ H) → (peak_of n tol low k).votes ≤ H
  unfolding peak_of
  peak-under H h = votes-under (sums n tol low) (mode_within n tol low k) low k H (λ x l. h (near tol (low +ℤ pos x)))

  pub peak-centre : (peak_of n tol low k).centre ≡ low +ℤ pos (midpoint (sums n tol low) k)
  unfolding peak_of
  peak-centre = centre-is (sums n tol low) (mode_within n tol low k) low k

-- ---- a centre, from how far it lies above the low end

centre-back : (top : ℕ) (c : ℤ) → T (non_neg (c +ℤ pos top)) → neg_ℤ (pos top) +ℤ pos (nat_abs (c +ℤ pos top)) ≡ c
centre-back top c h = ap (λ (z : ℤ). neg_ℤ (pos top) +ℤ z) (pos-nat_abs (c +ℤ pos top) h) ∙ +ℤ_comm (neg_ℤ (pos top)) (c +ℤ pos top) ∙ +ℤ-neg_ℤ_cancel c (pos top)

pub distinct-at : (top : ℕ) (s : List ℤ) (a g tol : ℕ) (c : ℤ) (m : ℕ) → a + g ≤ length s → T (non_neg (c +ℤ pos top))
    → distinct_near tol (nat_abs (c +ℤ pos top)) (places s a) (positions s a) g m ≡ distinct (counts_in top s a g) tol c m
distinct-at top s a g tol c m h up =
    distinct-is (counts_in top s a g) (neg_ℤ (pos top)) (places s a) (positions s a) g (counts-tell top s a g h) tol (nat_abs (c +ℤ pos top)) m
    ∙ ap (λ (z : ℤ). distinct (counts_in top s a g) tol z m) (centre-back top c up)
