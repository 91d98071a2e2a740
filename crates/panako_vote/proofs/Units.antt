-- The vote of a pair of equal spans: its scale is 1, and its offset the difference of the anchors. No operation rounds. Assumes nothing.
use Rattle.std.proofs.Common.{Some, ◌≡◌, ℕ, zero, suc, ◌+◌, ◌-◌, ◌*◌, ◌/◌, ◌^◌, ◌<◌, min, Bool, true, false, cond, not, ◌&&◌, T, eqb, ltb, pos, ◌-ℤ◌, neg_ℤ, sym, refl, ap, ◌∙◌, subst, ap₂, true≢false, zero-le, lt_of_lt_of_le, lt_of_le_of_lt, zero-lt-suc, mul_comm, mul-pos, one-mul, mul-one, sub-le, arith, lit≤, ltb→lt, w64, SFits, to_z, of_z, ltb-true, le-ltb, ne_eqb, eqb-true}
use mir.ValLaws.{to_z_pos, to_z-of_z}
use lib.Ieee.{Float, fin, binary64, up, down, round, sub, mul, div, of_int}
use lib.Ieee.Fits.{up_pos, down_pos}
use lib.Ieee.Exact.{HasValue}
use lib.Ieee.Scale.{round_same}
use lib.Ieee.Nearest.{div_same}
use lib.Ieee.Positive.{positive, positive_of_value}
use lib.Ieee.Back.{round_whole}
use Rattle.floats.specs.Rounding.{half_up, round_to_i64}
use Rattle.floats.specs.Selection.{one}
use Rattle.floats.proofs.Whole.{apart, difference}
use Rattle.lists.proofs.Tests.{test, and_left, and_right}
use Rattle.panako_vote.specs.Grids.{whole, outside, scale_bin, Limited}
use Rattle.panako_vote.specs.Votes.{offset_at, none_if, vote_at_scale, span, span_ratio, vote_on}
use Rattle.panako_vote.specs.declared.ScaleGrid.{ScaleGrid}
use Rattle.panako_vote.proofs.Sizes.{not-zero}
use Rattle.panako_vote.proofs.Bins.{in-format, whole_is}

-- ---- the scale

one-is : round binary64 false 1 1 ≡ one
unfolding round
one-is = refl

-- x / x is 1
over-itself : (x : Float) → T (positive x) → div binary64 x x ≡ one
unfolding div
over-itself lib.Ieee.nan p = elim p [ ]
over-itself (lib.Ieee.inf _) p = elim p [ ]
over-itself (fin true m e) p = elim p [ ]
over-itself (fin false m e) p =
    let M = ltb→lt 0 m p in
    rw (ne_eqb m 0 (not-zero m M))
    (round_same binary64 false (m * up e * down e) (m * up e * down e) 1 1 (mul-pos (mul-pos M (up_pos e)) (down_pos e)) (zero-lt-suc 0) (mul_comm (m * up e * down e) 1) ∙ one-is)

scale-is : (n : ℕ) → 0 < n → n < 2 ^ 32 → span_ratio n n ≡ one
scale-is n p h = over-itself (whole n) (positive_of_value (whole n) n 1 (whole_is n h) p)

-- ---- the offset

-- 1 * n is n
times-one : (x : Float) (n : ℕ) → HasValue x false n 1 → mul binary64 one x ≡ whole n
unfolding mul of_int
times-one lib.Ieee.nan n v = elim v [ ]
times-one (lib.Ieee.inf _) n v = elim v [ ]
times-one (fin true m e) n v = absurd (true≢false v.0)
times-one (fin false m e) n v =
    round_same binary64 false (1 * 1 * (m * up e)) (1 * down e) n 1 (mul-pos (zero-lt-suc 0) (down_pos e)) (zero-lt-suc 0) (tidy (m * up e) n (down e) v.1)
  where
    tidy : (x n d : ℕ) → x * 1 ≡ n * d → 1 * 1 * x * 1 ≡ n * (1 * d)
    tidy x n d h = ap (λ (z : ℕ). z * 1) (one-mul x) ∙ h ∙ ap (λ (z : ℕ). n * z) (sym (one-mul d))

-- n / 1 is rounded to n
half-whole : (a d n : ℕ) → 0 < d → a * 1 ≡ n * d → half_up a d ≡ n
half-whole a d n D h = div_same (2 * a + d) (2 * d) (2 * n + 1) 2 (twice d D) (zero-lt-suc 1) (crossed a d n (n * d) (sym (mul-one a) ∙ h) refl) ∙ back n
  where
    twice : (d : ℕ) → 0 < d → 0 < 2 * d
    twice d h = omega arith

    crossed : (a d n nd : ℕ) → a ≡ nd → nd ≡ n * d → (2 * a + d) * 2 ≡ (2 * n + 1) * (2 * d)
    crossed a d n nd h e = omega arith

    back : (n : ℕ) → (2 * n + 1) / 2 ≡ n
    back n = omega arith

rounded : (s : Bool) (x : Float) (n : ℕ) → HasValue x s n 1 → n < 2 ^ 32 → round_to_i64 x ≡ cond s (neg_ℤ (pos n)) (pos n)
unfolding round_to_i64
rounded true (fin false m e) n v h = absurd (true≢false (sym v.0))
rounded false lib.Ieee.nan n v h = elim v [ ]
rounded false (lib.Ieee.inf _) n v h = elim v [ ]
rounded true lib.Ieee.nan n v h = elim v [ ]
rounded true (lib.Ieee.inf _) n v h = elim v [ ]
rounded false (fin true m e) n v h = absurd (true≢false v.0)
rounded true (fin true m e) n v h = ap (λ (k : ℕ). neg_ℤ (pos k)) (ap (λ (k : ℕ). min k (2 ^ 63)) (half-whole (m * up e) (down e) n (down_pos e) v.1) ∙ held n h)
  where
    held : (n : ℕ) → n < 2 ^ 32 → min n 9223372036854775808 ≡ n
    held n h = omega arith
rounded false (fin false m e) n v h = ap pos (ap (λ (k : ℕ). min k (2 ^ 63 - 1)) (half-whole (m * up e) (down e) n (down_pos e) v.1) ∙ held n h)
  where
    held : (n : ℕ) → n < 2 ^ 32 → min n 9223372036854775807 ≡ n
    held n h = omega arith

signed : (r q : ℕ) → cond (ltb r q) (neg_ℤ (pos (q - r))) (pos (r - q)) ≡ pos r -ℤ pos q
signed r zero = rw (le-ltb r 0 zero-le) (ap pos (plain r))
  where
    plain : (r : ℕ) → r - 0 ≡ r + 0
    plain r = omega arith
signed r (suc q) = test (ltb r (suc q)) (λ h. rw (h, one_more r q (ltb-true r (suc q) h))) (λ h. rw h)
  where
    one_more : (r q : ℕ) → r < suc q → suc q - r ≡ suc (suc q - suc r)
    one_more r q h = omega arith

module _ (r q : ℕ) (R : r < 2 ^ 32) (Q : q < 2 ^ 32) where
  small : (a b : ℕ) → a < 2 ^ 32 → a - b < 2 ^ 32
  small a b h = lt_of_le_of_lt (sub-le a b) h

  apart-rounded : round_to_i64 (apart binary64 r q) ≡ cond (ltb r q) (neg_ℤ (pos (q - r))) (pos (r - q))
  apart-rounded =
      test (ltb r q)
      (λ h. rw h (rounded true (round binary64 true (q - r) 1) (q - r) (round_whole binary64 true (q - r) (in-format (q - r) (small q r Q))) (small q r Q)))
      (λ h. rw h (rounded false (round binary64 false (r - q) 1) (r - q) (round_whole binary64 false (r - q) (in-format (r - q) (small r q R))) (small r q R)))

  offset-is : offset_at one q r ≡ pos r -ℤ pos q
  offset-is =
      ap (λ (y : Float). round_to_i64 (sub binary64 (whole r) y)) (times-one (whole q) q (whole_is q Q))
      ∙ ap round_to_i64 (difference binary64 (whole r) (whole q) r q (whole_is r R) (whole_is q Q))
      ∙ apart-rounded
      ∙ signed r q

-- ---- the difference as the machine works it out

difference-fits : (r q : ℕ) → r < 2 ^ 32 → q < 2 ^ 32 → SFits w64 (pos r -ℤ pos q)
difference-fits r zero R Q = record { sfits = omega arith }
difference-fits r (suc q) R Q = test (ltb r (suc q)) (λ h. rw h (record { sfits = omega arith })) (λ h. rw h (record { sfits = omega arith }))

module _ (r q : ℕ) (R : r < 2 ^ 32) (Q : q < 2 ^ 32) where
  is : to_z w64 r -ℤ to_z w64 q ≡ pos r -ℤ pos q
  is = ap₂ ◌-ℤ◌ (to_z_pos w64 r (lt_of_lt_of_le R (lit≤ tt))) (to_z_pos w64 q (lt_of_lt_of_le Q (lit≤ tt)))

  pub in-range : SFits w64 (to_z w64 r -ℤ to_z w64 q)
  in-range = subst (SFits w64) (sym is) (difference-fits r q R Q)

  pub worked-out : to_z w64 (of_z w64 (to_z w64 r -ℤ to_z w64 q)) ≡ pos r -ℤ pos q
  worked-out = to_z-of_z w64 (to_z w64 r -ℤ to_z w64 q) in-range ∙ is

-- ---- the vote

module _ (g : ScaleGrid) (L : Limited g) (qa qc ra rc : ℕ) (QA : qa < 2 ^ 32) (QC : qc < 2 ^ 32) (Ra : ra < 2 ^ 32) where
  by-scale : span ra rc ≡ span qa qc → 0 < span qa qc → none_if (outside g one) (Some (record { bin = scale_bin g one; offset = pos ra -ℤ pos qa })) ≡ vote_on g qa qc ra rc
  unfolding vote_on vote_at_scale
  by-scale e p =
      rw (e, ne_eqb (span qa qc) 0 (not-zero (span qa qc) p), scale-is (span qa qc) p (lt_of_le_of_lt (sub-le qc qa) QC), offset-is ra qa Ra QA)

  -- what `is_unit` tests, and what `unit_vote` then gives
  pub unit-is : (eqb (span ra rc) (span qa qc) && ltb 0 (span qa qc)) ≡ true → none_if (not g.unit_votes) (Some (record { bin = g.unit_bin; offset = pos ra -ℤ pos qa })) ≡ vote_on g qa qc ra rc
  unit-is t =
      ap₂ (λ (b : Bool) (n : ℕ). none_if b (Some (record { bin = n; offset = pos ra -ℤ pos qa }))) (ap not L.unit_votes ∙ not-not (outside g one)) L.unit_bin
      ∙ by-scale (eqb-true (span ra rc) (span qa qc) (and_left (eqb (span ra rc) (span qa qc)) (ltb 0 (span qa qc)) t)) (ltb-true 0 (span qa qc) (and_right (eqb (span ra rc) (span qa qc)) (ltb 0 (span qa qc)) t))
    where
      not-not : (b : Bool) → not (not b) ≡ b
      not-not true = refl
      not-not false = refl
