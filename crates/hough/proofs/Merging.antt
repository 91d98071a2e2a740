-- The counts of a bin's neighbours, merged by offset. Assumes nothing.
use Prim.Native.Nat.{ℕ, zero, suc, ◌+◌, ◌-◌, ◌*◌, ◌^◌, ◌≤◌, ◌<◌}
use mathlib.Core.Path.{◌≡◌, refl, sym, ap, ◌∙◌, subst}
use mathlib.Core.Bool.{Bool, true, false, ◌&&◌, and-false}
use mathlib.Core.List.{List}
use native.Mathlib.Omega.{arith}
use native.Mathlib.Decide.{dec_lt}
use lib.IntN.{ℤ, pos, neg_ℤ, nat_abs, ◌+ℤ◌, ◌-ℤ◌, +ℤ_assoc, +ℤ_comm}
use lib.Signed.{non_neg, pos-nat_abs}
use lib.Dec.{T, leb, eqb}
use borrow.Author.Tests.{lt-leb, le-leb, le-ltb, eq-eqb, ne_eqb}
use Rattle.maps.specs.Sums.{sum_to, when}
use Rattle.std.specs.Prelude.{unwrap_or}
use Rattle.consolidate.specs.Tallies.{mode_of}
use Rattle.consolidate.specs.Windows.{withinℕ, window_sum, Covers}
use Rattle.consolidate.specs.declared.Tally.{Tally}
use Rattle.consolidate.specs.declared.Window.{Window}
use Rattle.maps.proofs.Sums.{sum-cong, sum-add, sum-none}
use Rattle.signed.proofs.Sizes.{abs-add, sub-dist}
use Rattle.consolidate.proofs.Tallies.{Tallied, mode-is, unwrap-is}
use Rattle.hough.specs.Hough.{scale, offset, votes, dist, gap, neighbour, frame, merged, peak_offset}
use Rattle.hough.specs.Limits.{Bins}
use Rattle.hough.specs.Keys.{row, place, key, Around, Clear}
use Rattle.hough.specs.declared.Windows.{Windows}
use Rattle.hough.proofs.Rows.{spread}
use Rattle.hough.proofs.Places.{three_sums, gap_is, place-fits, inside, keys, apart-is}
use Rattle.hough.proofs.Walking.{three-sums}

-- ---- the offsets near that of bin i

less : (p t : ℕ) → t ≤ p → pos p -ℤ pos t ≡ pos (p - t)
less p zero h = ap pos (same p)
  where
    same : (p : ℕ) → p + 0 ≡ p - 0
    same p = omega arith
less p (suc t) h = rw (le-ltb p (suc t) h) refl

swap : (a b c : ℤ) → a +ℤ b +ℤ c ≡ a +ℤ c +ℤ b
swap a b c = +ℤ_assoc a b c ∙ ap (λ (z : ℤ). a +ℤ z) (+ℤ_comm b c) ∙ sym (+ℤ_assoc a c b)

-- the place of an offset that is t lower and y higher
shifted : (a : ℤ) (t y B : ℕ) → T (non_neg (a +ℤ pos B)) → t ≤ nat_abs (a +ℤ pos B) → nat_abs (a -ℤ pos t +ℤ pos y +ℤ pos B) ≡ nat_abs (a +ℤ pos B) - t + y
shifted a t y B h k =
    ap nat_abs
    (swap (a -ℤ pos t) (pos y) (pos B)
    ∙ ap (λ (z : ℤ). z +ℤ pos y) (swap a (neg_ℤ (pos t)) (pos B) ∙ ap (λ (z : ℤ). z -ℤ pos t) (sym (pos-nat_abs (a +ℤ pos B) h)) ∙ less (nat_abs (a +ℤ pos B)) t k))

-- y above what is t below, and no further than t away
part : (t y : ℕ) → y < 2 * t + 1 → nat_abs (neg_ℤ (pos t) +ℤ pos y) ≤ t
part zero y h = omega arith
part (suc t) y h = rw (sub-dist y (suc t)) (omega arith)

-- a neighbour at one offset near p is at that offset in a neighbouring row
pub one-offset : (A : Bool) (p q tol y : ℕ) → tol ≤ p → y < 2 * tol + 1 → ((A && leb (dist p q) tol) && eqb (dist (p - tol + y) q) 0) ≡ (A && leb (dist (p - tol + y) q) 0)
one-offset false p q tol y h k = refl
one-offset true p q tol y h k = go (dec_lt (p - tol + y) q) (dec_lt q (p - tol + y))
  where
    go : Dec (p - tol + y < q) → Dec (q < p - tol + y) → (leb (dist p q) tol && eqb (dist (p - tol + y) q) 0) ≡ leb (dist (p - tol + y) q) 0
    go (yes a) b = rw (ne_eqb (dist (p - tol + y) q) 0 (λ e. omega arith), lt-leb (dist (p - tol + y) q) 0 (omega arith)) (and-false (leb (dist p q) tol))
    go (no a) (yes b) = rw (ne_eqb (dist (p - tol + y) q) 0 (λ e. omega arith), lt-leb (dist (p - tol + y) q) 0 (omega arith)) (and-false (leb (dist p q) tol))
    go (no a) (no b) =
        let e : p - tol + y ≡ q = omega arith in
        rw (eq-eqb (dist (p - tol + y) q) 0 (omega arith), le-leb (dist (p - tol + y) q) 0 (omega arith), le-leb (dist p q) tol (near p q tol y h k e)) refl
      where
        near : (p q tol y : ℕ) → tol ≤ p → y < 2 * tol + 1 → p - tol + y ≡ q → dist p q ≤ tol
        near p q tol y h k e = omega arith

-- ---- the counts at one offset

-- no bin lies just there
window-none : (d v : ℕ → ℕ) (n c : ℕ) → ((j : ℕ) → j < n → d j ≡ c → ⊥) → window_sum d v n 0 c ≡ 0
unfolding window_sum
window-none d v n c h = sum-none (λ j. when (withinℕ 0 c c (d j)) (v j)) n (λ j u. ap (λ (z : Bool). when z (v j)) (missed j (dec_lt (d j) c) (h j u)))
  where
    missed : (j : ℕ) → Dec (d j < c) → (d j ≡ c → ⊥) → withinℕ 0 c c (d j) ≡ false
    missed j (yes p) g = rw (lt-leb c (d j + 0) (omega arith)) refl
    missed j (no q) g = rw (lt-leb (d j) (c + 0) (omega arith)) (and-false (leb c (d j + 0)))

none_between : {d v : ℕ → ℕ} {n x : ℕ} {w : Window} (r k : ℕ) → Covers d v n 0 x w → ((j : ℕ) → w.enter ≤ j → j < n → x + r ≤ d j) → 0 < k → k < r → window_sum d v n 0 (x + k) ≡ 0
none_between {d} {v} {n} {x} {w} r k c free a b = window-none d v n (x + k) (λ j u e. at j u e (dec_lt j w.enter))
  where
    at : (j : ℕ) → j < n → d j ≡ x + k → Dec (j < w.enter) → ⊥
    at j u e (yes p) = let g = c.slides.in_by j p in omega arith
    at j u e (no q) = let g = free j (omega arith) u in omega arith

module _ (l : List ℤ) (n : ℕ) (b : Bins l n) (tol i : ℕ) (T : tol ≤ 65535) (h : i < n) where
  pub frame-close : (y : ℕ) → y < 2 * tol + 1 → nat_abs (frame l tol i y) ≤ 2 ^ 39 + 65535
  frame-close y k = signed (offset l i) tol y (b.close i h) T k
    where
      signed : (a : ℤ) (t y : ℕ) → nat_abs a ≤ 2 ^ 39 → t ≤ 65535 → y < 2 * t + 1 → nat_abs (a -ℤ pos t +ℤ pos y) ≤ 2 ^ 39 + 65535
      signed a t y h k u = subst (λ (z : ℤ). nat_abs z ≤ 2 ^ 39 + 65535) (sym (+ℤ_assoc a (neg_ℤ (pos t)) (pos y))) (omega (arith, abs-add a (neg_ℤ (pos t) +ℤ pos y), part t y u))

  frame-place : (y : ℕ) → nat_abs (frame l tol i y +ℤ pos (2 ^ 40)) ≡ place l i - tol + y
  unfolding place
  frame-place y = let f = place-fits l n b i h in shifted (offset l i) tol y (2 ^ 40) f.0 (omega (arith, f.2))

  pub frame-gap : (y j : ℕ) → y < 2 * tol + 1 → j < n → gap (frame l tol i y) (offset l j) ≡ dist (place l i - tol + y) (place l j)
  unfolding place
  frame-gap y j k u =
      gap_is (frame l tol i y) (offset l j) (2 ^ 40) (omega (arith, frame-close y k)) (omega (arith, b.close j u))
      ∙ ap (λ (z : ℕ). dist z (place l j)) (frame-place y)

  merged-is : (y : ℕ) → y < 2 * tol + 1 → merged l n tol i y ≡ three_sums l n 0 (key l i - tol + y)
  unfolding merged window_sum key
  merged-is y k =
      let f = place-fits l n b i h in
      let p = place l i - tol + y in
      let x = (scale l i + 1) * row + (place l i - tol + y) in
      let e : key l i - tol + y ≡ x = omega (arith, f.2) in
      let g : ℕ → ℕ → ℕ = λ c j. when (withinℕ 0 c c (key l j)) (votes l j) in
      rw e
      (sum-cong (λ j. when (neighbour l tol i j && eqb (gap (frame l tol i y) (offset l j)) 0) (votes l j)) (λ j. g (x - row) j + g x j + g (x + row) j) n
      (λ j u. rw (apart-is l n b i j h u, frame-gap y j k u, one-offset (leb (dist (scale l i) (scale l j)) 1) (place l i) (place l j) tol y (omega (arith, f.2)) k)
      (spread (scale l i) (scale l j) p (place l j) 0 (votes l j) (omega (arith, f.2), omega (arith, f.1)) (inside l n b j u) (omega arith)))
      ∙ sym (sum-add (λ j. g (x - row) j + g x j) (g (x + row)) n)
      ∙ ap (λ (z : ℕ). z + sum_to (g (x + row)) n) (sym (sum-add (g (x - row)) (g x) n)))

  pub around-merged : (x : ℕ) (t : Windows) → x < 2 * tol + 1 → Around l n 0 (key l i - tol + x) t → t.under.sum + t.here.sum + t.over.sum ≡ merged l n tol i x
  around-merged x t k o = three-sums l n 0 (key l i - tol + x) t o ∙ sym (merged-is x k)

  -- nothing between two offsets that have a bin
  pub merged-none : (x r most y : ℕ) (t : Windows) → Around l n 0 (key l i - tol + x) t → Clear l n (key l i - tol + x) t most r → x < y → y < x + r → y < 2 * tol + 1 → merged l n tol i y ≡ 0
  merged-none x r most y t o C a u k =
      let K = keys l n b i h in
      let d = y - x in
      let p : 0 < d = omega arith in
      let q : d < r = omega arith in
      let e : key l i - tol + y ≡ key l i - tol + x + d = omega arith in
      let f : key l i - tol + y - row ≡ key l i - tol + x - row + d = omega arith in
      let g : key l i - tol + y + row ≡ key l i - tol + x + row + d = omega arith in
      omega (
        arith,
        merged-is y k,
        ap (window_sum (key l) (votes l) n 0) f,
        ap (window_sum (key l) (votes l) n 0) e,
        ap (window_sum (key l) (votes l) n 0) g,
        none_between r d o.under C.under p q,
        none_between r d o.here C.here p q,
        none_between r d o.over C.over p q,
      )

-- ---- the reported offset

module _ (l : List ℤ) (n tol i : ℕ) (t : Tally) (T : Tallied (merged l n tol i) (frame l tol i) (2 * tol + 1) t) where
  pub offset-is : unwrap_or (mode_of t) (offset l i) ≡ peak_offset l n tol i
  unfolding peak_offset
  offset-is = rw (unwrap-is (mode_of t) (offset l i), mode-is (merged l n tol i) (frame l tol i) (2 * tol + 1) t T) refl
