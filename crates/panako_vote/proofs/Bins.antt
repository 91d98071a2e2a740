-- What the proof of `scale_bin` cites, and the bound of a scale bin: x held to 0 .. t, for a whole number t of 32 bits. Assumes nothing.
use Rattle.std.proofs.Common.{◌≡◌, ℕ, ◌-◌, ◌*◌, ◌/◌, ◌^◌, ◌<◌, ◌≤◌, min, Bool, true, false, cond, T, pos, sym, refl, ap, ◌∙◌, subst, true≢false, zero-le, le_trans, le_of_eq, lt_of_lt_of_le, lt_of_le_of_lt, le_of_lt, mul_comm, mul-lt-mul_of_pos_right, zero-mul, mul-one, arith, lit≤, lt→ltb, ltb-false, ltb-true, le-ltb}
use mathlib.Core.Bool.{false≢true}
use native.Mathlib.Nat.{min-le_left, div-le_of_le-mul, zero-div}
use lib.Ieee.{Float, nan, inf, fin, binary64, up, down, lt, le, to_unsigned, is_nan}
use lib.Ieee.Fits.{down_pos}
use lib.Ieee.Exact.{HasValue}
use lib.Ieee.Positive.{num, den, positive, first_pos, through}
use Rattle.floats.specs.Selection.{zero}
use Rattle.lists.proofs.Tests.{test}
use Rattle.floats.proofs.Order.{lt-asymmetric, lt-transitive}
use Rattle.floats.proofs.Whole.{whole-value}
use Rattle.panako_vote.specs.Grids.{whole, bin_at}

-- ---- a whole number t, and a value y that equals it

pub in-format : (t : ℕ) → t < 2 ^ 32 → t ≤ 2 ^ 53
in-format t few = le_trans (le_of_lt few) (lit≤ tt)

pub whole_is : (t : ℕ) → t < 2 ^ 32 → HasValue (whole t) false t 1
whole_is t few = whole-value binary64 t (in-format t few)

is_number : (y : Float) (t : ℕ) → HasValue y false t 1 → is_nan y ≡ false
unfolding is_nan
is_number nan t v = elim v [ ]
is_number (inf _) t v = elim v [ ]
is_number (fin s m e) t v = refl

not_negative : (y : Float) (t : ℕ) → HasValue y false t 1 → lt y zero ≡ false
unfolding lt
not_negative nan t v = elim v [ ]
not_negative (inf _) t v = elim v [ ]
not_negative (fin true m e) t v = absurd (true≢false v.0)
not_negative (fin false m e) t v = le-ltb (m * up e * 1) (0 * 1 * down e) (le_trans (le_of_eq (zero-mul (down e))) zero-le)

-- above 0 and not above t
under : (y x : Float) (t : ℕ) → HasValue y false t 1 → lt zero x ≡ true → lt y x ≡ false → T (positive x) × (num x ≤ t * den x)
unfolding lt
under nan x t v g h = elim v [ ]
under (inf _) x t v g h = elim v [ ]
under (fin true m e) x t v g h = absurd (true≢false v.0)
under (fin false m e) nan t v g h = absurd (false≢true g)
under (fin false m e) (inf true) t v g h = absurd (false≢true g)
under (fin false m e) (inf false) t v g h = absurd (true≢false h)
under (fin false m e) (fin true n d) t v g h = absurd (false≢true g)
under (fin false m e) (fin false n d) t v g h = (
  lt→ltb 0 n (first_pos n (up d) (lt_of_le_of_lt zero-le (lt_of_lt_of_le (ltb-true (0 * 1 * down d) (n * up d * 1) g) (le_of_eq (mul-one (n * up d)))))),
  le_trans (le_of_eq (sym (mul-one (n * up d)))) (through (n * up d) (m * up e) t (down d) (down e) 1 (down_pos e) (ltb-false (m * up e * down d) (n * up d * down e) h) (le_of_eq v.1)),
)

-- not above 0, or a NaN
none : (x : Float) → lt zero x ≡ false → to_unsigned 32 (cond (lt x zero) zero x) ≡ 0
unfolding lt to_unsigned
none nan h = refl
none (inf true) h = refl
none (inf false) h = absurd (true≢false h)
none (fin true m e) h = go (lt (fin true m e) zero)
  where
    go : (b : Bool) → to_unsigned 32 (cond b zero (fin true m e)) ≡ 0
    go true = refl
    go false = refl
none (fin false m e) h = go (lt (fin false m e) zero)
  where
    empty : m * up e ≡ 0
    empty = let l = ltb-false (0 * 1 * down e) (m * up e * 1) h in omega (arith, zero-mul (down e))

    go : (b : Bool) → to_unsigned 32 (cond b zero (fin false m e)) ≡ 0
    go true = refl
    go false = rw (empty, zero-div (down e))

-- `at_least_zero` and `clamp` differ at a NaN and at -0, and both are cut to 0
either_way : (z : Float) → to_unsigned 32 (cond (lt zero z) z zero) ≡ to_unsigned 32 (cond (lt z zero) zero z)
unfolding to_unsigned
either_way z = test (lt zero z) (λ h. rw (h, lt-asymmetric zero z h)) (λ h. rw h (sym (none z h)))

-- ---- x held to 0 .. t

-- what `small_whole_part` asks of y, and that its width is no matter
record Held (t : ℕ) (y : Float) : Type 0 where
  low : T (le zero y)
  high : T (lt y (fin false 1 (pos 51)))
  most : to_unsigned 64 y ≤ t
  same : to_unsigned 64 y ≡ to_unsigned 32 y

held-zero : (t : ℕ) → Held t zero
unfolding le lt to_unsigned
held-zero t = record { low = tt; high = tt; most = zero-le; same = refl }

held-positive : (t : ℕ) (y : Float) → t < 2 ^ 32 → lt zero y ≡ true → T (positive y) → num y ≤ t * den y → Held t y
unfolding le lt to_unsigned
held-positive t nan few g p h = elim p [ ]
held-positive t (inf _) few g p h = elim p [ ]
held-positive t (fin true m e) few g p h = elim p [ ]
held-positive t (fin false m e) few g p h =
    let q = div-le_of_le-mul (down e) (le_trans h (le_of_eq (mul_comm t (down e)))) in
    record {
      low = rw g tt;
      high = lt→ltb (m * up e * 1) (1 * 2 ^ 51 * down e) (room (m * up e) (down e) (t * down e) h (mul-lt-mul_of_pos_right few (down_pos e)));
      most = le_trans (min-le_left (m * up e / down e) (2 ^ 64 - 1)) q;
      same = capped (m * up e / down e) (lt_of_le_of_lt q few);
    }
  where
    room : (a d b : ℕ) → a ≤ b → b < 2 ^ 32 * d → a * 1 < 1 * 2 ^ 51 * d
    room a d b h g = omega arith

    capped : (q : ℕ) → q < 2 ^ 32 → min q 18446744073709551615 ≡ min q 4294967295
    capped q h = omega arith

irreflexive : (y : Float) → lt y y ≡ false
irreflexive y = test (lt y y) (λ h. lt-asymmetric y y h) (λ h. h)

-- z is x where it isn't above t, and else t; y is z where it is above 0, and else 0
module _ (x : Float) (t : ℕ) (few : t < 2 ^ 32) (z : Float) (Z : z ≡ cond (lt (whole t) x) (whole t) x) (y : Float) (Y : y ≡ cond (lt zero z) z zero) where
  not-above : lt (whole t) z ≡ false
  not-above = subst (λ (w : Float). lt (whole t) w ≡ false) (sym Z) (test (lt (whole t) x) (λ h. rw h (irreflexive (whole t))) (λ h. rw h h))

  held : Held t y
  held =
      subst (Held t) (sym Y)
      (test (lt zero z) (λ g. let p = under (whole t) z t (whole_is t few) g not-above in rw g (held-positive t z few g p.0 p.1)) (λ g. rw g (held-zero t)))

  clamped : bin_at x t ≡ to_unsigned 32 (cond (lt z zero) zero z)
  unfolding bin_at
  clamped =
      rw Z
      (test (lt (whole t) x)
      (λ h.
      rw (
        h,
        lt-transitive zero (whole t) x (is_number (whole t) t (whole_is t few)) (not_negative (whole t) t (whole_is t few)) (lt-asymmetric (whole t) x h),
        not_negative (whole t) t (whole_is t few),
      ))
      (λ h. rw h))

  pub held_low : T (le zero y) × T (lt y (fin false 1 (pos 51)))
  held_low = (held.low, held.high)

  pub held_cut : (to_unsigned 64 y ≤ t) × (to_unsigned 64 y ≡ bin_at x t)
  held_cut = (held.most, held.same ∙ ap (to_unsigned 32) Y ∙ either_way z ∙ sym clamped)

pub bin-le : (x : Float) (t : ℕ) → t < 2 ^ 32 → bin_at x t ≤ t
bin-le x t few =
    let z = cond (lt (whole t) x) (whole t) x in
    let c = held_cut x t few z refl (cond (lt zero z) z zero) refl in
    le_trans (le_of_eq (sym c.1)) c.0
