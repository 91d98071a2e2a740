-- Rust's casts and `round`, in the kit's account of IEEE 754 (`lib.Ieee`). Definitions only. Assumes nothing.
use Rattle.std.specs.Prelude.{ℕ, ◌+◌, ◌-◌, ◌*◌, ◌/◌, ◌^◌, min, cond, ℤ, pos, neg_ℤ, Float}
use Rattle.std.specs.Float.{nan, inf, fin, binary32}
use Rattle.std.specs.Float.Ieee.{up, down, round}

-- a / d to the nearest whole number, a half up: the whole part of a / d + 1 / 2
abbrev pub half_up : ℕ → ℕ → ℕ
half_up a d = (2 * a + d) / (2 * d)

-- Rust's `x.round() as i64`. Document 01: "halves away from zero, held to the i64 range"; a NaN gives 0
unfoldable pub round_to_i64 : Float → ℤ
round_to_i64 nan = pos 0
round_to_i64 (inf s) = cond s (neg_ℤ (pos (2 ^ 63))) (pos (2 ^ 63 - 1))
round_to_i64 (fin s m e) = cond s (neg_ℤ (pos (min (half_up (m * up e) (down e)) (2 ^ 63)))) (pos (min (half_up (m * up e) (down e)) (2 ^ 63 - 1)))

-- Rust's `x as f32` of an f64: rounded once, ties to even
unfoldable pub narrow : Float → Float
narrow nan = nan
narrow (inf s) = inf s
narrow (fin s m e) = round binary32 s (m * up e) (down e)
