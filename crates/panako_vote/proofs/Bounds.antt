-- The bounds of a vote on a limited grid: its scale bin is the last one at most, and its offset lies in -2^39 .. 2^32, so that 2^39 more fits 40 bits.
-- A scale with a vote is 2^7 at most, and anchors lie below 2^32. Assumes nothing.
use Rattle.std.proofs.Common.{Option, Some, ◌≡◌, ℕ, zero, suc, ◌+◌, ◌-◌, ◌*◌, ◌^◌, ◌<◌, ◌≤◌, min, Bool, true, false, cond, ◌||◌, T, eqb, ℤ, pos, negsuc, ◌+ℤ◌, neg_ℤ, sym, refl, subst, true≢false, zero-le, le_trans, le_of_eq, lt_of_lt_of_le, lt_of_le_of_lt, le_of_lt, pos_of_ne-zero, mul-one, sub-le, arith, lit<, lit≤, lt→ltb, ltb-false, le-ltb}
use native.Mathlib.Nat.{min-le_left}
use borrow.Author.Tests.{eqb-false}
use lib.Ieee.{Float, nan, inf, fin, binary64, up, down, lt, le, sub, mul, div}
use lib.Ieee.Fits.{down_pos}
use lib.Ieee.Positive.{through}
use Rattle.floats.specs.Rounding.{half_up, round_to_i64}
use Rattle.floats.proofs.Whole.{half-up-le}
use Rattle.lists.proofs.Tests.{test}
use Rattle.panako_vote.specs.Settings.{Accepted}
use Rattle.panako_vote.specs.Grids.{whole, outside, scale_bin, grid_of, Limited}
use Rattle.panako_vote.specs.Votes.{offset_at, none_if, is_vote, vote_at_scale, span, span_ratio, vote_on, pair_vote, InRange, Bounded}
use Rattle.panako_vote.specs.declared.PanakoMatchConfig.{PanakoMatchConfig}
use Rattle.panako_vote.specs.declared.ScaleGrid.{ScaleGrid}
use Rattle.panako_vote.specs.declared.Vote.{Vote}
use Rattle.panako_vote.proofs.Sizes.{Sized, sized-of-value, sized-sub, sized-mul, sized-div}
use Rattle.panako_vote.proofs.Bins.{whole_is, bin-le}
use Rattle.panako_vote.proofs.Limits.{at_most, limited}

-- ---- the scale

-- x / p is at most y / q, and that K
past : (K x y p q : ℕ) → 0 < q → x * q ≤ y * p → y ≤ K * q → x ≤ K * p
past K x y p q Q h g = le_trans (le_of_eq (sym (mul-one x))) (through x y K p q 1 Q h (le_trans (le_of_eq (mul-one y)) g))

-- x is not above y, which is 2 ^ k at most
not-above : (j k : ℕ) (y x : Float) → T (le y (fin false 1 (pos k))) → Sized false j x → lt y x ≡ false → Sized false k x
unfolding lt le
not-above j k nan x t h g = absurd t
not-above j k (inf true) nan t h g = elim h [ ]
not-above j k (inf true) (inf _) t h g = elim h [ ]
not-above j k (fin s n d) nan t h g = elim h [ ]
not-above j k (fin s n d) (inf _) t h g = elim h [ ]
not-above j k (inf true) (fin s m e) t h g = absurd (true≢false g)
not-above j k (inf false) x t h g = absurd t
not-above j k (fin s n d) (fin true m e) t h g = absurd (true≢false h.0)
not-above j k (fin false n d) (fin false m e) t h g =
    (refl, past (2 ^ k) (m * up e) (n * up d) (down e) (down d) (down_pos d) (ltb-false (n * up d * down e) (m * up e * down d) g) (at_most k n d t))
not-above j k (fin true n d) (fin false m e) t h g =
    (refl, past (2 ^ k) (m * up e) 0 (down e) (down d) (down_pos d) (part (n * up d * down e) (m * up e * down d) (0 * down e) (ltb-false 0 (n * up d * down e + m * up e * down d) g)) zero-le)
  where
    part : (a b c : ℕ) → a + b ≤ 0 → b ≤ c
    part a b c h = omega arith

whole-sized : (n : ℕ) → n < 2 ^ 32 → Sized false 32 (whole n)
whole-sized n h = sized-of-value 32 (whole n) n (whole_is n h) (le_of_lt h)

scale-sized : (r q : ℕ) → r < 2 ^ 32 → q < 2 ^ 32 → 0 < q → Sized false 32 (span_ratio r q)
scale-sized r q R Q N = sized-div binary64 32 false (whole r) (whole q) q (lit< tt) (whole-sized r R) (whole_is q Q) N

-- ---- the offset

negated : (n : ℕ) → n ≤ 2 ^ 39 → InRange (neg_ℤ (pos n))
negated zero h = zero-le
negated (suc n) h = h

rounded : (x : Float) → (s : Bool) × Sized s (cond s 39 32) x → InRange (round_to_i64 x)
unfolding round_to_i64
rounded nan (s, h) = elim h [ ]
rounded (inf _) (s, h) = elim h [ ]
rounded (fin true m e) (false, h) = absurd (true≢false h.0)
rounded (fin false m e) (true, h) = absurd (true≢false (sym h.0))
rounded (fin true m e) (true, h) = negated (min (half_up (m * up e) (down e)) (2 ^ 63)) (le_trans (min-le_left (half_up (m * up e) (down e)) (2 ^ 63)) (half-up-le (m * up e) (down e) (2 ^ 39) (down_pos e) h.1))
rounded (fin false m e) (false, h) = le_trans (min-le_left (half_up (m * up e) (down e)) (2 ^ 63 - 1)) (half-up-le (m * up e) (down e) (2 ^ 32) (down_pos e) h.1)

-- the offset before it is rounded
abbrev offset : Float → ℕ → ℕ → Float
offset x q r = sub binary64 (whole r) (mul binary64 x (whole q))

offset-sized : (x : Float) (q r : ℕ) → Sized false 7 x → q < 2 ^ 32 → r < 2 ^ 32 → (s : Bool) × Sized s (cond s 39 32) (offset x q r)
offset-sized x q r X Q R =
    sized-sub binary64 32 39 (whole r) (mul binary64 x (whole q)) (lit< tt) (lit< tt) (whole-sized r R) (sized-mul binary64 7 32 false false x (whole q) (lit< tt) X (whole-sized q Q))

offset-in-range : (x : Float) (q r : ℕ) → Sized false 7 x → q < 2 ^ 32 → r < 2 ^ 32 → InRange (offset_at x q r)
offset-in-range x q r X Q R = rounded (offset x q r) (offset-sized x q r X Q R)

-- so it is one that `round_small_to_i64` takes
abbrev Inside : Float → Type 0
Inside x = T (lt (fin true 1 (pos 51)) x) × T (lt x (fin false 1 (pos 51)))

inside : (x : Float) → (s : Bool) × Sized s (cond s 39 32) x → Inside x
unfolding lt
inside nan (s, h) = elim h [ ]
inside (inf _) (s, h) = elim h [ ]
inside (fin true m e) (false, h) = absurd (true≢false h.0)
inside (fin false m e) (true, h) = absurd (true≢false (sym h.0))
inside (fin true m e) (true, h) = (
  lt→ltb (m * up e * 1) (1 * 2 ^ 51 * down e) (omega (arith, h.1, down_pos e)),
  lt→ltb 0 (m * up e * 1 + 1 * 2 ^ 51 * down e) (omega (arith, down_pos e)),
)
inside (fin false m e) (false, h) = (
  lt→ltb 0 (1 * 2 ^ 51 * down e + m * up e * 1) (omega (arith, down_pos e)),
  lt→ltb (m * up e * 1) (1 * 2 ^ 51 * down e) (omega (arith, h.1, down_pos e)),
)

-- ---- the vote

either : (a b : Bool) → (a || b) ≡ false → b ≡ false
either true b h = absurd (true≢false h)
either false b h = h

-- a scale with a vote
voting : (g : ScaleGrid) → Limited g → (x : Float) → Sized false 32 x → outside g x ≡ false → Sized false 7 x
voting g L x X h = not-above 32 7 g.high x L.high X (either (lt x g.low) (lt g.high x) h)

at-bounded : (g : ScaleGrid) → Limited g → (x : Float) (q r : ℕ) → Sized false 32 x → q < 2 ^ 32 → r < 2 ^ 32 → Bounded g.last_bin (vote_at_scale g x q r)
unfolding vote_at_scale
at-bounded g L x q r X Q R =
    test (outside g x) (λ h. rw h tt)
    (λ h. rw h (
      bin-le (div binary64 (sub binary64 x g.scale_min) g.scale_per_bin) g.last_bin (lt_of_lt_of_le L.last (lit≤ tt)),
      offset-in-range x q r (voting g L x X h) Q R,
    ))

module _ (g : ScaleGrid) (L : Limited g) (qa qc ra rc : ℕ) (QA : qa < 2 ^ 32) (QC : qc < 2 ^ 32) (Ra : ra < 2 ^ 32) (RC : rc < 2 ^ 32) where
  some-span : eqb (span qa qc) 0 ≡ false → Sized false 32 (span_ratio (span ra rc) (span qa qc))
  some-span h = scale-sized (span ra rc) (span qa qc) (lt_of_le_of_lt (sub-le rc ra) RC) (lt_of_le_of_lt (sub-le qc qa) QC) (pos_of_ne-zero (eqb-false (span qa qc) 0 h))

  pub vote-bounded : Bounded g.last_bin (vote_on g qa qc ra rc)
  unfolding vote_on
  vote-bounded =
      test (eqb (span qa qc) 0) (λ h. rw h tt)
      (λ h. test (eqb (span ra rc) 0) (λ k. rw (h, k) tt)
      (λ k. rw (h, k) (at-bounded g L (span_ratio (span ra rc) (span qa qc)) qa ra (some-span h) QA Ra)))

  -- what `pair_vote` asks of the offset before it is rounded, x being the scale
  pub offset-inside : (x : Float) → x ≡ span_ratio (span ra rc) (span qa qc) → is_vote (vote_on g qa qc ra rc) ≡ true → Inside (offset x qa ra)
  unfolding vote_on vote_at_scale
  offset-inside x e v =
      let t = tests (record { bin = scale_bin g (span_ratio (span ra rc) (span qa qc)); offset = offset_at (span_ratio (span ra rc) (span qa qc)) qa ra }) (eqb (span qa qc) 0) (eqb (span ra rc) 0) (outside g (span_ratio (span ra rc) (span qa qc))) v in
      subst (λ (z : Float). Inside (offset z qa ra)) (sym e)
      (inside (offset (span_ratio (span ra rc) (span qa qc)) qa ra)
      (offset-sized (span_ratio (span ra rc) (span qa qc)) qa ra (voting g L (span_ratio (span ra rc) (span qa qc)) (some-span t.0) t.1) QA Ra))
    where
      tests : (v : Vote) (a b o : Bool) → is_vote (none_if (a || b) (none_if o (Some v))) ≡ true → (a ≡ false) × (o ≡ false)
      tests v true b o h = absurd (true≢false (sym h))
      tests v false true o h = absurd (true≢false (sym h))
      tests v false false true h = absurd (true≢false (sym h))
      tests v false false false h = (refl, refl)

pub pair-bounded : (cfg : PanakoMatchConfig) → Accepted cfg → (qa qc ra rc : ℕ) → qa < 2 ^ 32 → qc < 2 ^ 32 → ra < 2 ^ 32 → rc < 2 ^ 32 → Bounded (cfg.scale_bins - 1) (pair_vote cfg qa qc ra rc)
unfolding grid_of
pair-bounded cfg A = vote-bounded (grid_of cfg) (limited cfg A)

-- what `pair_vote` promises of its result
pub with-bounds : (g : ScaleGrid) → Limited g → (v : Option Vote) (qa qc ra rc : ℕ) → qa < 2 ^ 32 → qc < 2 ^ 32 → ra < 2 ^ 32 → rc < 2 ^ 32
    → v ≡ vote_on g qa qc ra rc → (v ≡ vote_on g qa qc ra rc) × Bounded g.last_bin v
with-bounds g L v qa qc ra rc QA QC Ra RC e = (e, subst (Bounded g.last_bin) (sym e) (vote-bounded g L qa qc ra rc QA QC Ra RC))

-- 2^39 more than an offset is a natural number of 40 bits
pub shifted : (z : ℤ) → InRange z → (n : ℕ) × ((z +ℤ pos (2 ^ 39) ≡ pos n) × (n < 2 ^ 40))
shifted (pos n) h = (n + 2 ^ 39, (refl, omega arith))
shifted (negsuc n) h = (2 ^ 39 - suc n, (rw (le-ltb (2 ^ 39) (suc n) h), omega arith))
