-- The sums of bins, worked out pair by pair. Assumes nothing.
use Prim.Native.Nat.{ℕ, ◌+◌, ◌-◌, ◌*◌, ◌≤◌, ◌<◌}
use mathlib.Core.Path.{◌≡◌, refl, sym, ap, ◌∙◌}
use mathlib.Core.Bool.{Bool, true, ◌&&◌}
use mathlib.Core.List.{List}
use native.Mathlib.Omega.{arith}
use native.Mathlib.Decide.{dec_lt}
use lib.IntN.{ℤ, pos}
use lib.ListN.{length, get_or, set}
use lib.Signed.{non_neg}
use lib.Dec.{leb}
use borrow.Author.Tests.{le-leb, lt-leb}
use Rattle.maps.specs.Sums.{when}
use Rattle.maps.specs.Words.{nat_of}
use Rattle.maps.proofs.Sums.{sum-next}
use Rattle.consolidate.proofs.Spans.{leb-same}
use Rattle.hough.specs.Hough.{scale, votes, dist, neighbour, hough_sum}
use Rattle.hough.specs.Limits.{Bins, Written}
use Rattle.hough.specs.Keys.{row, place, key, near_by}
use Rattle.hough.proofs.Rows.{Inside, dist-is}
use Rattle.hough.proofs.Places.{inside, keys_up, apart-is, hough-none, hough-small}
use Rattle.hough.proofs.Summing.{other_word, written-more}

-- ---- the keys of neighbours

-- of two places in rows S + 1 and S' + 1, the second before the first
near-is : (S S' p q tol : ℕ) → Inside p → Inside q → tol ≤ 65535 → (S' + 1) * row + q < (S + 1) * row + p
    → near_by tol ((S + 1) * row + p - ((S' + 1) * row + q)) ≡ (leb (dist S S') 1 && leb (dist p q) tol)
near-is S S' p q tol P Q T u = go (dec_lt S' S) (dec_lt (S' + 1) S)
  where
    d : ℕ
    d = (S + 1) * row + p - ((S' + 1) * row + q)

    go : Dec (S' < S) → Dec (S' + 1 < S) → near_by tol d ≡ (leb (dist S S') 1 && leb (dist p q) tol)
    go a (yes b) = rw (lt-leb (dist S S') 1 (omega arith), lt-leb d tol (omega arith), lt-leb d (row + tol) (omega arith)) refl
    go (yes a) (no b) =
        rw (le-leb (dist S S') 1 (omega arith), lt-leb d tol (omega arith), dist-is p q tol, leb-same d (row + tol) p (q + tol) (λ h. omega arith) (λ h. omega arith), leb-same (row - tol) d q (p + tol) (λ h. omega arith) (λ h. omega arith))
        refl
    go (no a) (no b) = same (dec_lt tol d)
      where
        same : Dec (tol < d) → near_by tol d ≡ (leb (dist S S') 1 && leb (dist p q) tol)
        same (yes h) = rw (le-leb (dist S S') 1 (omega arith), lt-leb d tol h, lt-leb (dist p q) tol (omega arith), le-leb d (row + tol) (omega arith), lt-leb (row - tol) d (omega arith)) refl
        same (no h) = rw (le-leb (dist S S') 1 (omega arith), le-leb d tol (omega arith), le-leb (dist p q) tol (omega arith)) refl

module _ (l : List ℤ) (n : ℕ) (b : Bins l n) (tol : ℕ) (T : tol ≤ 65535) where
  before-is : (i j : ℕ) → j < i → i < n → near_by tol (key l i - key l j) ≡ neighbour l tol i j
  unfolding key
  before-is i j h u =
      let r = keys_up l n b j i h u in
      rw (apart-is l n b i j u (omega arith)) (near-is (scale l i) (scale l j) (place l i) (place l j) tol (inside l n b i u) (inside l n b j (omega arith)) T r)

  other_way : (i j : ℕ) → i < n → j < n → neighbour l tol i j ≡ neighbour l tol j i
  other_way i j u v =
      let s : dist (scale l i) (scale l j) ≡ dist (scale l j) (scale l i) = omega arith in
      let p : dist (place l i) (place l j) ≡ dist (place l j) (place l i) = omega arith in
      rw (apart-is l n b i j u v, apart-is l n b j i v u, s, p) refl

  itself : (i : ℕ) → i < n → neighbour l tol i i ≡ true
  itself i u = rw (apart-is l n b i i u u, le-leb (dist (scale l i) (scale l i)) 1 (omega arith), le-leb (dist (place l i) (place l i)) tol (omega arith)) refl

  -- one bin more
  sum_more : (i j : ℕ) → hough_sum l (j + 1) tol i ≡ hough_sum l j tol i + when (neighbour l tol i j) (votes l j)
  unfolding hough_sum
  sum_more i j = sum-next (λ j. when (neighbour l tol i j) (votes l j)) j

-- ---- bin i, and the bins before it

-- the sums from word e on, with bin i added to those of the first j bins; and the sum of bin i by these j
pub record Turned (l : List ℤ) (tol i j : ℕ) (s : List ℤ) (e sum : ℕ) : Type 0 where
  pub done : Written (hough_sum l (i + 1) tol) j s e
  pub left : (k : ℕ) → j ≤ k → k < i → get_or s (e + k) (pos 0) ≡ pos (hough_sum l i tol k)
  pub own : sum ≡ hough_sum l j tol i

pub turned_none : (l : List ℤ) (tol i : ℕ) (s : List ℤ) (e : ℕ) → Written (hough_sum l i tol) i s e → Turned l tol i 0 s e 0
turned_none l tol i s e W = record { done = λ k h. absurd (omega arith); left = λ k g h. W k h; own = sym (hough-none l tol i) }

module _ (l : List ℤ) (n : ℕ) (b : Bins l n) (tol : ℕ) (T : tol ≤ 65535) (i : ℕ) (u : i < n) (s : List ℤ) (e sum : ℕ) where
  pub turned-small : (j : ℕ) → j < i → Turned l tol i j s e sum → (sum ≤ 1000000) × lib.Dec.T (non_neg (get_or s (e + j) (pos 0))) × (nat_of (get_or s (e + j) (pos 0)) ≤ 1000000)
  turned-small j h t = (
    omega (arith, t.own, hough-small l n b tol i j (omega arith)),
    rw (t.left j (omega arith) h) tt,
    omega (arith, ap nat_of (t.left j (omega arith) h), hough-small l n b tol j i (omega arith)),
  )

  -- the pair of bins i and j
  pub turned_more : (s' : List ℤ) (j : ℕ) (near : Bool) (x y : ℕ) → s' ≡ set s (e + j) (pos (nat_of (get_or s (e + j) (pos 0)) + y)) → j < i → e + n ≤ length s
      → near ≡ near_by tol (key l i - key l j) → x ≡ when near (votes l j) → y ≡ when near (votes l i) → Turned l tol i j s e sum → Turned l tol i (j + 1) s' e (sum + x)
  turned_more s' j near x y es h len en ex ey t =
      record {
        done = written-more (hough_sum l (i + 1) tol) j s s' e (nat_of (get_or s (e + j) (pos 0)) + y) (omega arith) es here t.done;
        left = λ k g r. ap (λ (z : List ℤ). get_or z (e + k) (pos 0)) es ∙ other_word s e j k (pos (nat_of (get_or s (e + j) (pos 0)) + y)) (λ z. omega arith) ∙ t.left k (omega arith) r;
        own = omega (arith, t.own, sum_more l n b tol T i j, ex ∙ ap (λ (z : Bool). when z (votes l j)) is);
      }
    where
      is : near ≡ neighbour l tol i j
      is = en ∙ before-is l n b tol T i j h u

      back : near ≡ neighbour l tol j i
      back = is ∙ other_way l n b tol T i j u (omega arith)

      here : nat_of (get_or s (e + j) (pos 0)) + y ≡ hough_sum l (i + 1) tol j
      here = omega (arith, ap nat_of (t.left j (omega arith) h), sum_more l n b tol T j i, ey ∙ ap (λ (z : Bool). when z (votes l i)) back)

  pub turned-all : (s' : List ℤ) (j v : ℕ) → s' ≡ set s (e + i) (pos (sum + v)) → j ≡ i → e + n ≤ length s → v ≡ votes l i → Turned l tol i j s e sum
      → Written (hough_sum l (i + 1) tol) (i + 1) s' e
  turned-all s' j v es q len ev t = written-more (hough_sum l (i + 1) tol) i s s' e (sum + v) (omega arith) es here (rw q at t.done)
    where
      own : sum ≡ hough_sum l i tol i
      own = rw q at t.own

      here : sum + v ≡ hough_sum l (i + 1) tol i
      here = omega (arith, own, sum_more l n b tol T i i, ev, ap (λ (z : Bool). when z (votes l i)) (itself l n b tol T i u))
