-- How the C interface writes floats, tests, orders and results as words. Definitions only. Assumes nothing.
use Rattle.std.specs.Prelude.{Option, Some, None, ℕ, ◌-◌, ◌^◌, Bool, true, false, cond, ◌&&◌, List, [], ◌∷◌, ℤ, pos, negsuc, from_bits, nat_le, to_bits, Float}
use Rattle.std.specs.Float.{binary32, binary64}
use Rattle.std.specs.Float.Ieee.{le}
use Rattle.floats.specs.Words.{nan_word}
use Rattle.floats.specs.Rounding.{narrow}
use Rattle.std.specs.declared.cmp.Ordering.{Ordering}
use Rattle.std.specs.declared.cmp.Ordering.TheVariants.{Less, Equal, Greater}
use Rattle.matching.specs.declared.TimeOffset.{TimeOffset}
use Rattle.matching.specs.Results.{compare_desc, then_by}
use Rattle.matching.specs.Scores.{wang_prominence}
use Rattle.matching.specs.Scales.{half, two, per_bin, bin_centre, time_scale}

-- the float of a pattern
abbrev pub single : ℕ → Float
single word = from_bits binary32 word

abbrev pub double : ℕ → Float
double word = from_bits binary64 word

abbrev pub flag : Bool → ℕ
flag true = 1
flag false = 0

-- a signed number as a 64-bit word, in two's complement
abbrev pub twos_complement : ℤ → ℕ
twos_complement (pos n) = n
twos_complement (negsuc n) = 2 ^ 64 - 1 - n

abbrev pub order_code : Ordering → ℕ
order_code Less = 0
order_code Equal = 1
order_code Greater = 2

-- x as an f32 where 0.5 ≤ x ≤ 2
abbrev pub narrow_code : Float → ℕ
narrow_code x = cond (le half x && le x two) (to_bits binary32 (narrow x)) nan_word

-- two results by their scores and prominences
abbrev pub compare_code : Float → Float → Float → Float → ℕ
compare_code s p s' p' = order_code (then_by (compare_desc s s') (compare_desc p p'))

-- Wang prominence where the peak is at most the total
abbrev pub prominence_code : ℕ → ℕ → ℕ → ℕ
prominence_code peak total width = cond (nat_le peak total) (to_bits binary32 (wang_prominence peak total width)) nan_word

-- the time scale of a peak in a scale bin
abbrev pub time_scale_code : Float → Float → ℕ → ℕ → ℕ
time_scale_code min max bins bin = to_bits binary32 (time_scale (bin_centre min (per_bin min max bins) bin))

-- an offset that was tried: whether there is one, its frames, its milliseconds
abbrev pub tried_words : Option TimeOffset → List ℤ
tried_words None = pos 0 ∷ pos 0 ∷ pos 0 ∷ []
tried_words (Some t) = pos 1 ∷ t.frames ∷ t.ms ∷ []

-- `MatchResult::NONE`: the time scale is 1.0, all else is 0
abbrev pub no_match_words : List ℕ
no_match_words = 0 ∷ 0 ∷ 0 ∷ 0 ∷ 0 ∷ 0 ∷ 0x3F80_0000 ∷ 0 ∷ []
