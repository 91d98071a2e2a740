-- The fixed examples as one table with one test, `right`. Floats are given by their bit patterns. Definitions only. Assumes nothing.
use Rattle.std.specs.Prelude.{Bool, true, false, ◌&&◌, List, [], ◌∷◌, ◌++◌, ℕ, ◌+◌, ◌*◌, ◌/◌, ℤ, pos, negsuc, eqb, length, replicate, Float}
use Rattle.std.specs.Bool.{beq}
use Rattle.std.proofs.Math.Option.{Option, none, some}
use Rattle.std.specs.Float.{binary32, binary64}
use Rattle.std.specs.Float.Ieee.{of_bits, of_int, to_bits}
use Rattle.maps.specs.Bins.{offset, votes}
use Rattle.floats.specs.Rounding.{round_to_i64}
use Rattle.std.specs.Prelude.{Some, None}
use Rattle.std.specs.Prelude as code
use Rattle.consolidate.specs.declared.Peak.{Peak}
use Rattle.consolidate.specs.Modes.{mode}
use Rattle.consolidate.specs.Box.{box_peak}
use Rattle.hough.specs.Hough as Hough
use Rattle.hough.specs.Hough.{hough_peak, peak_offset}
use Rattle.model.specs.Calls.{Answer, built, stored, removed, count, best, nothing, refused}
use Rattle.model.specs.Words.{Words, head_width, row_width}
use Rattle.model.specs.Run.{run_insert, run_remove}
use Rattle.matching.specs.declared.TimeOffset.{TimeOffset}
use Rattle.matching.specs.Offsets.{millis, try_from_frames}
use Rattle.matching.specs.Rates.{rates_agree}
use Rattle.matching.specs.Scores.{wang_prominence, score_of}
use Rattle.matching.specs.Scales.{per_bin, bin_centre, time_scale}

pub data Example : Type 0 where
  -- two rates, and whether they agree
  rates : ℕ → ℕ → Bool → Example
  -- frames at a rate, in milliseconds
  in_millis : ℤ → ℕ → ℤ → Example
  -- the same, none where they don't fit
  tried_millis : ℤ → ℕ → Option ℤ → Example
  -- a whole number, and the whole number whose f32 it becomes
  becomes : ℕ → ℕ → Example
  -- an f64, and the i64 that it is rounded to
  rounds_to : ℕ → ℤ → Example
  -- bins (offset, count), tolerance, low and high end; then peak, centre, mode, total
  sweep : List ℤ → ℕ → ℤ → ℤ → ℕ → ℤ → ℤ → ℕ → Example
  -- bins (offset, count), and their mode
  mode_of : List ℤ → ℤ → Example
  -- bins (scale, offset, count), tolerance; then peak, the index of its bin, frames, prominence
  hough : List ℤ → ℕ → ℕ → ℕ → ℤ → ℕ → Example
  -- calls on a store that begins zeroed, each an insert (none) or the removal of an id; the ids that the inserts get in either index
  ids : List (Option ℕ) → List ℕ → Example
  -- Wang prominence of a peak, a total and a width
  prominence : ℕ → ℕ → ℕ → ℕ → Example
  -- the score of so many out of so many query hashes
  score : ℕ → ℕ → ℕ → Example
  -- the time scale of scale ends, scale bins and a bin
  scale : ℕ → ℕ → ℕ → ℕ → ℕ → Example

abbrev pub same_ℤ : ℤ → ℤ → Bool
same_ℤ (pos a) (pos b) = eqb a b
same_ℤ (pos a) (negsuc b) = false
same_ℤ (negsuc a) (pos b) = false
same_ℤ (negsuc a) (negsuc b) = eqb a b

abbrev single : ℕ → Float
single word = of_bits binary32 word

-- the float has this pattern
abbrev is32 : Float → ℕ → Bool
is32 x word = eqb (to_bits binary32 x) word

abbrev is_at : code.Option ℤ → ℤ → Bool
is_at None z = false
is_at (Some d) z = same_ℤ d z

abbrev is_tried : code.Option TimeOffset → ℤ → Option ℤ → Bool
is_tried None frames none = true
is_tried None frames (some ms) = false
is_tried (Some t) frames none = false
is_tried (Some t) frames (some ms) = same_ℤ t.frames frames && same_ℤ t.ms ms

-- how many bins of so many words the list has
abbrev bins_in : ℕ → List ℤ → ℕ
bins_in words bins = length bins / words

abbrev same_peak : Peak → ℕ → ℤ → ℤ → ℕ → Bool
same_peak p peak centre mode total = eqb p.votes peak && (same_ℤ p.centre centre && (same_ℤ p.mode mode && eqb p.total total))

abbrev same_ids : List ℕ → List ℕ → Bool
same_ids [] [] = true
same_ids [] (y ∷ ys) = false
same_ids (x ∷ xs) [] = false
same_ids (x ∷ xs) (y ∷ ys) = eqb x y && same_ids xs ys

-- R 4, P 1, K 1, with postings of w words
abbrev zeroed : ℕ → Words
zeroed w = record { references = replicate (head_width + row_width * 4) 0; postings = replicate w 0; stopped = replicate 1 0 }

abbrev stored_ids : Answer → List ℕ
stored_ids built = []
stored_ids (stored id) = id ∷ []
stored_ids (removed b) = []
stored_ids (count n) = []
stored_ids (best id r) = []
stored_ids nothing = []
stored_ids (refused n) = []

-- each recording is one without hashes, of set 1
unfoldable pub ids_given : ℕ → Words → List (Option ℕ) → List ℕ
ids_given w m [] = []
ids_given w m (none ∷ calls) = let o = run_insert w m 100 0 1 [] in stored_ids o.0 ++ ids_given w o.1 calls
ids_given w m (some id ∷ calls) = ids_given w (run_remove w m id).1 calls

-- where a posting has w words
abbrev given_at : ℕ → List (Option ℕ) → List ℕ → Bool
given_at w calls given = same_ids (ids_given w (zeroed w) calls) given

unfoldable pub right : Example → Bool
right (rates a b agree) = beq (rates_agree (single a) (single b)) agree
right (in_millis frames rate ms) = same_ℤ (millis frames (single rate)) ms
right (tried_millis frames rate ms) = is_tried (try_from_frames frames (single rate)) frames ms
right (becomes n m) = is32 (of_int binary32 (pos n)) (to_bits binary32 (of_int binary32 (pos m))) && same_ℤ (round_to_i64 (of_int binary32 (pos n))) (pos m)
right (rounds_to x z) = same_ℤ (round_to_i64 (of_bits binary64 x)) z
right (sweep bins tol low high peak centre mode total) = same_peak (box_peak bins (bins_in 2 bins) tol low high) peak centre mode total
right (mode_of bins z) = is_at (mode (votes bins) (offset bins) (bins_in 2 bins)) z
right (hough bins tol peak at frames word) =
    let p = hough_peak bins (bins_in 3 bins) tol in
    (eqb p.votes peak && eqb p.at at)
    && (same_ℤ (peak_offset bins (bins_in 3 bins) tol p.at) frames && is32 (Hough.prominence bins (bins_in 3 bins) tol p.votes p.at) word)
-- "Wang 3 words .., Panako 5"
right (ids calls given) = given_at 3 calls given && given_at 5 calls given
right (prominence peak total width word) = is32 (wang_prominence peak total width) word
right (score n hashes word) = is32 (score_of n hashes) word
right (scale min max bins bin word) = is32 (time_scale (bin_centre (single min) (per_bin (single min) (single max) bins) bin)) word

abbrev pub all : (Example → Bool) → List Example → Bool
all p [] = true
all p (x ∷ xs) = p x && all p xs

abbrev pub table : List Example
table =
    -- document 01: (3:2, 5:2; 1; 0..8) → (4, 4, 4, 12); same, tolerance 0 → (2, 3, 3, 4)
    sweep (pos 3 ∷ pos 2 ∷ pos 5 ∷ pos 2 ∷ []) 1 (pos 0) (pos 8) 4 (pos 4) (pos 4) 12
    ∷ sweep (pos 3 ∷ pos 2 ∷ pos 5 ∷ pos 2 ∷ []) 0 (pos 0) (pos 8) 2 (pos 3) (pos 3) 4
    -- document 01: (0:3; 2; 0..4) → (3, 1, 0, 9); empty, −4..2 → (0, −4, −4, 0)
    ∷ sweep (pos 0 ∷ pos 3 ∷ []) 2 (pos 0) (pos 4) 3 (pos 1) (pos 0) 9
    ∷ sweep [] 0 (negsuc 3) (pos 2) 0 (negsuc 3) (negsuc 3) 0
    -- document 01: mode of 3:2, 4:2 is 3; of −3:2, −4:2 is −4
    ∷ mode_of (pos 3 ∷ pos 2 ∷ pos 4 ∷ pos 2 ∷ []) (pos 3)
    ∷ mode_of (negsuc 2 ∷ pos 2 ∷ negsuc 3 ∷ pos 2 ∷ []) (negsuc 3)
    -- document 01: 1000 and 999 agree; 62.5 and 62.4 don't
    ∷ rates 0x447A_0000 0x4479_C000 true
    ∷ rates 0x427A_0000 0x4279_999A false
    -- document 01: ids 0, 1, 2; remove 0, then 2; inserts get 2, 0, 3
    ∷ ids (none ∷ none ∷ none ∷ some 0 ∷ some 2 ∷ none ∷ none ∷ none ∷ []) (0 ∷ 1 ∷ 2 ∷ 2 ∷ 0 ∷ 3 ∷ [])
    -- document 01: 1 frame at rate 2000 is 1 ms; −1 frame is −1 ms
    ∷ in_millis (pos 1) 0x44FA_0000 (pos 1)
    ∷ in_millis (negsuc 0) 0x44FA_0000 (negsuc 0)
    -- document 01: 16,777,217 becomes 16,777,216; 16,777,219 becomes 16,777,220
    ∷ becomes 16777217 16777216
    ∷ becomes 16777219 16777220
    -- document 01: Hough (4,10):2, (5,10):3, (9,10):1, tolerance 0 → peak 5 at the first bin, frames 10, prominence 2.5
    ∷ hough (pos 4 ∷ pos 10 ∷ pos 2 ∷ pos 5 ∷ pos 10 ∷ pos 3 ∷ pos 9 ∷ pos 10 ∷ pos 1 ∷ []) 0 5 0 (pos 10) 0x4020_0000
    -- worked cases: 2.5 and −2.5, the f64 below 0.5, 2 ^ 63, a NaN
    ∷ rounds_to 0x4004_0000_0000_0000 (pos 3)
    ∷ rounds_to 0xC004_0000_0000_0000 (negsuc 2)
    ∷ rounds_to 0x3FDF_FFFF_FFFF_FFFF (pos 0)
    ∷ rounds_to 0x43E0_0000_0000_0000 (pos 9223372036854775807)
    ∷ rounds_to 0x7FF8_0000_0000_0000 (pos 0)
    -- the ends of an i64 at rate 1000: −2^63 fits; 2^63 − 1, which is 2^63 as an f64, doesn't; 2^63 − 513 is the last that becomes a smaller one
    ∷ tried_millis (negsuc 9223372036854775807) 0x447A_0000 (some (negsuc 9223372036854775807))
    ∷ tried_millis (pos 9223372036854775807) 0x447A_0000 none
    ∷ tried_millis (pos 9223372036854775295) 0x447A_0000 (some (pos 9223372036854774784))
    -- half a millisecond; the smallest positive rate; rates 0, −62.5, infinite, a NaN
    ∷ tried_millis (negsuc 0) 0x44FA_0000 (some (negsuc 0))
    ∷ tried_millis (pos 1) 0x0000_0001 none
    ∷ tried_millis (pos 1) 0x0000_0000 none
    ∷ tried_millis (pos 1) 0xC27A_0000 none
    ∷ tried_millis (pos 1) 0x7F80_0000 none
    ∷ tried_millis (pos 1) 0x7FC0_0000 none
    -- a lone peak of 2; a background of 16,777,217, which rounds; a width of 1
    ∷ prominence 2 2 10 0x4000_0000
    ∷ prominence 1 16777218 3 0x33FF_FFFE
    ∷ prominence 3 9 1 0x3EDB_6DB7
    -- a third, rounded
    ∷ score 1 3 0x3EAA_AAAB
    -- bin 10 of 24 in 0.80 .. 1.25
    ∷ scale 0x3F4C_CCCD 0x3FA0_0000 24 10 0x3F80_66B9
    ∷ []
