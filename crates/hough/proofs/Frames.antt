-- The tally of the offsets near a peak, one offset after the other or by leaps; and the counts at one offset by a look at every bin.
-- Assumes nothing.
use Prim.Native.Nat.{ℕ, zero, suc, ◌+◌, ◌-◌, ◌*◌, ◌^◌, ◌≤◌, ◌<◌}
use mathlib.Core.Path.{◌≡◌, refl, sym, ap, ap₂, ◌∙◌, subst}
use mathlib.Core.Bool.{Bool, ◌&&◌}
use mathlib.Core.List.{List}
use native.Mathlib.Omega.{arith}
use native.Mathlib.Nat.{add-zero, add-suc}
use native.Mathlib.Numerals.{add-one}
use native.Mathlib.Decide.{dec_lt}
use lib.IntN.{ℤ, pos, nat_abs, ◌+ℤ◌, ◌-ℤ◌}
use lib.Dec.{leb, eqb}
use borrow.Author.Tests.{lt-leb, le-leb, eq-eqb, ne_eqb}
use mir.Syntax.{w64}
use mir.Val.{SFits, to_z, of_z}
use mir.ValLaws.{to_z-of_z, to_z_pos}
use Rattle.maps.specs.Sums.{sum_to, when}
use Rattle.signed.proofs.Sizes.{fits-abs, abs-sub}
use Rattle.maps.proofs.Sums.{sum-zero, sum-next, sum-cong, sum_mono, sum_kept}
use Rattle.consolidate.specs.Tallies.{tally_of, no_tally, mode_of}
use Rattle.std.specs.Prelude.{unwrap_or}
use Rattle.consolidate.specs.declared.Tally.{Tally}
use Rattle.consolidate.proofs.Tallies.{Tallied, tally-none, tally-more, tally-small}
use Rattle.hough.specs.Hough.{scale, offset, votes, dist, gap, neighbour, frame, merged, peak_offset}
use Rattle.hough.specs.Limits.{Bins}
use Rattle.hough.specs.Keys.{place, count_at, frame_tally}
use Rattle.hough.proofs.Places.{place-fits, apart-is}
use Rattle.hough.proofs.Merging.{one-offset, frame-close, frame-gap, offset-is}

-- ---- the counts at one place

abbrev there : List ℤ → ℕ → ℕ → ℕ → Bool
there l k x j = leb (dist k (scale l j)) 1 && eqb (place l j) x

pub count_none : (l : List ℤ) (k x : ℕ) → count_at l 0 k x ≡ 0
unfolding count_at
count_none l k x = sum-zero (λ j. when (there l k x j) (votes l j))

pub count-more : (l : List ℤ) (k x j v : ℕ) → v ≡ when (there l k x j) (votes l j) → count_at l (j + 1) k x ≡ count_at l j k x + v
unfolding count_at
count-more l k x j v e = sum-next (λ j. when (there l k x j) (votes l j)) j ∙ ap (λ (z : ℕ). sum_to (λ j. when (there l k x j) (votes l j)) j + z) (sym e)

pub count_small : (l : List ℤ) (n : ℕ) → Bins l n → (k x j : ℕ) → j ≤ n → count_at l j k x ≤ 1000000
unfolding count_at
count_small l n b k x j h = omega (arith, sum_kept (there l k x) (votes l) j, sum_mono (votes l) j n h, b.sum)

-- no distance at all
same_place : (p q : ℕ) → leb (dist p q) 0 ≡ eqb q p
same_place p q = go (dec_lt p q) (dec_lt q p)
  where
    go : Dec (p < q) → Dec (q < p) → leb (dist p q) 0 ≡ eqb q p
    go (yes a) b = rw (lt-leb (dist p q) 0 (omega arith), ne_eqb q p (λ e. omega arith)) refl
    go (no a) (yes b) = rw (lt-leb (dist p q) 0 (omega arith), ne_eqb q p (λ e. omega arith)) refl
    go (no a) (no b) = rw (le-leb (dist p q) 0 (omega arith), eq-eqb q p (omega arith)) refl

-- ---- the tally

module _ (l : List ℤ) (n tol i : ℕ) where
  tally-at : (x : ℕ) → Tallied (merged l n tol i) (frame l tol i) x (frame_tally l n tol i x)
  unfolding frame_tally
  tally-at zero = tally-none (merged l n tol i) (frame l tol i)
  tally-at (suc x) =
      let ih = tally-at x in
      subst (λ (k : ℕ). Tallied (merged l n tol i) (frame l tol i) k (frame_tally l n tol i (suc x))) (add-one x) (tally-more (merged l n tol i) (frame l tol i) x (frame_tally l n tol i x) ih)

  pub frames-none : no_tally ≡ frame_tally l n tol i 0
  unfolding frame_tally
  frames-none = refl

  -- one offset more: t is what was before it, v its count and d the offset
  pub frames-more : (x v : ℕ) (d : ℤ) (t r : Tally) → t ≡ frame_tally l n tol i x → v ≡ merged l n tol i x → d ≡ frame l tol i x → r ≡ tally_of t v d → r ≡ frame_tally l n tol i (x + 1)
  unfolding frame_tally
  frames-more x v d t r et ev ed er = rw (add-one x, er, et, ev, ed) refl

  -- k offsets with no counts
  leap : (x k : ℕ) → ((y : ℕ) → x ≤ y → y < x + k → merged l n tol i y ≡ 0) → frame_tally l n tol i (x + k) ≡ frame_tally l n tol i x
  unfolding frame_tally
  leap x zero off = rw add-zero refl
  leap x (suc k) off = let ih = leap x k (λ y a b. off y a (omega arith)) in rw (add-suc, off (x + k) (omega arith) (omega arith)) ih

  pub frames-gap : (x z : ℕ) (t : Tally) → x ≤ z → ((y : ℕ) → x ≤ y → y < z → merged l n tol i y ≡ 0) → t ≡ frame_tally l n tol i x → t ≡ frame_tally l n tol i z
  frames-gap x z t h off e =
      let m : x + (z - x) ≡ z = omega arith in
      e ∙ sym (leap x (z - x) (λ y a b. off y a (omega arith))) ∙ ap (frame_tally l n tol i) m

  pub frames-offset : (t : Tally) → t ≡ frame_tally l n tol i (2 * tol + 1) → (unwrap_or (mode_of t) (offset l i) ≡ peak_offset l n tol i) × (0 < t.best → 0 < t.count)
  frames-offset t e =
      let T : Tallied (merged l n tol i) (frame l tol i) (2 * tol + 1) t = subst (Tallied (merged l n tol i) (frame l tol i) (2 * tol + 1)) (sym e) (tally-at (2 * tol + 1)) in
      (offset-is l n tol i t T, T.some)

module _ (l : List ℤ) (n : ℕ) (b : Bins l n) (tol i : ℕ) (T : tol ≤ 65535) (h : i < n) where
  -- what it can have come to
  pub frames_small : (x : ℕ) (t : Tally) → x ≤ 2 * tol + 1 → t ≡ frame_tally l n tol i x → (t.count ≤ 131071) × (nat_abs t.sum ≤ 2 ^ 56)
  frames_small x t u e =
      let s = tally-small (merged l n tol i) (frame l tol i) x (2 ^ 39 + 65535) t (λ y k. frame-close l n b tol i T h y (omega arith)) (subst (Tallied (merged l n tol i) (frame l tol i) x) (sym e) (tally-at l n tol i x)) in
      (omega (arith, s.0), omega (arith, s.1))

  -- a neighbour at an offset within the tolerance is a bin at that place, one scale bin away at most
  there-is : (y : ℕ) → y < 2 * tol + 1 → count_at l n (scale l i) (place l i - tol + y) ≡ merged l n tol i y
  unfolding merged count_at
  there-is y k =
      let f = place-fits l n b i h in
      sum-cong (λ j. when (there l (scale l i) (place l i - tol + y) j) (votes l j)) (λ j. when (neighbour l tol i j && eqb (gap (frame l tol i y) (offset l j)) 0) (votes l j)) n
      (λ j u. rw (apart-is l n b i j h u, frame-gap l n b tol i T h y j k u, one-offset (leb (dist (scale l i) (scale l j)) 1) (place l i) (place l j) tol y (omega (arith, f.2)) k, same_place (place l i - tol + y) (place l j)) refl)

  -- s being the scale bin of bin i and p its place
  pub count-merged : (y s p v : ℕ) → y < 2 * tol + 1 → s ≡ scale l i → p ≡ place l i → v ≡ count_at l n s (p - tol + y) → v ≡ merged l n tol i y
  count-merged y s p v k es ep ev = ev ∙ ap₂ (λ a c. count_at l n a (c - tol + y)) es ep ∙ there-is y k

  -- ---- what the machine reads back, z being the offset of bin i

  module _ (z : ℤ) (F : SFits w64 z) (e : z ≡ offset l i) where
    read : (to_z w64 (of_z w64 z) ≡ offset l i) × (to_z w64 tol ≡ pos tol) × SFits w64 (offset l i -ℤ pos tol)
    read = (
      to_z-of_z w64 z F ∙ e,
      to_z_pos w64 tol (omega arith),
      fits-abs (offset l i -ℤ pos tol) (omega (arith, abs-sub (offset l i) (pos tol), b.close i h)),
    )

    low-is : to_z w64 (of_z w64 (to_z w64 (of_z w64 z) -ℤ to_z w64 tol)) ≡ offset l i -ℤ pos tol
    low-is = let r = read in rw (r.0, r.1) (to_z-of_z w64 (offset l i -ℤ pos tol) r.2)

    module _ (x : ℕ) (u : x < 2 * tol + 1) where
      frame-word : SFits w64 (frame l tol i x) × (to_z w64 x ≡ pos x)
      frame-word = (fits-abs (frame l tol i x) (omega (arith, frame-close l n b tol i T h x u)), to_z_pos w64 x (omega arith))

      pub frame_is : to_z w64 (of_z w64 (to_z w64 (of_z w64 (to_z w64 (of_z w64 z) -ℤ to_z w64 tol)) +ℤ to_z w64 x)) ≡ frame l tol i x
      frame_is = rw (low-is, frame-word.1) (to_z-of_z w64 (frame l tol i x) frame-word.0)
