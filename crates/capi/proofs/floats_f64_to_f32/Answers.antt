-- The three ways of `narrow_code`. Assumes nothing.
use Rattle.std.proofs.Common.{◌≡◌, ℕ, true, false}
use lib.Ieee.{Float, binary32, of_bits, to_bits, le}
use Rattle.floats.specs.Rounding.{narrow}
use Rattle.floats.specs.Words.{nan_word}
use Rattle.matching.specs.Scales.{half, two}
use Rattle.capi.specs.Codes.{double, narrow_code}
use Rattle.capi.proofs.floats_f64_to_f32.Goals as goal
use Rattle.capi.proofs.floats_f64_to_f32.Goals.{else-v-via-then-v+else-v-2, else-v-via-else-v}

module _ (x : ℕ) (v : Float) where
  inside : (y : Float) (r : ℕ) → v ≡ double x → le half v ≡ true → le v two ≡ true → y ≡ narrow v → r ≡ to_bits binary32 y → r ≡ narrow_code (double x)
  inside y r e g h k l = rw (← e, g, h, l, k)

  above_two : v ≡ double x → le half v ≡ true → le v two ≡ false → nan_word ≡ narrow_code (double x)
  above_two e g h = rw (← e, g, h)

  under_half : v ≡ double x → le half v ≡ false → nan_word ≡ narrow_code (double x)
  under_half e g = rw (← e, g)

pub returns-then-v-2 : goal.returns-then-v-2
unfolding of_bits
returns-then-v-2 c = inside c.args.x c.f64_from_bits-v.result _ _ c.f64_from_bits-v.ensures c.if-v.true c.if-v-2.true c.f64_to_f32.ensures c.f32_to_bits.ensures

pub returns-else-v : goal.returns-else-v
unfolding of_bits
returns-else-v c =
    elim c.else-v.branch [
      | else-v-via-then-v+else-v-2 w ↦ above_two c.args.x c.f64_from_bits-v.result c.f64_from_bits-v.ensures w.if-v.true w.if-v-2.false
      | else-v-via-else-v w ↦ under_half c.args.x c.f64_from_bits-v.result c.f64_from_bits-v.ensures w.if-v.false
    ]
