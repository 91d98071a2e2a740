-- Worked examples, computed from the definitions. Assumes nothing.
use Rattle.std.proofs.Common.{Option, Some, None, Err, ◌≡◌, ℕ, ℤ, true, false, pos, negsuc, refl}
use lib.Ieee.{Float, nan, inf, fin, add, sub, mul, div, lt, le, of_int, to_unsigned}
use Rattle.floats.specs.Rounding.{round_to_i64}
use Rattle.floats.specs.Selection.{zero, one, abs}
use Rattle.matching.specs.Scales.{two, per_bin}
use Rattle.panako_vote.specs.Settings.{default_min, default_max, normalised, within_limits}
use Rattle.panako_vote.specs.Grids.{bin_at, grid_of}
use Rattle.panako_vote.specs.Votes.{vote_at_scale, vote_on, pair_vote, checked_vote}
use Rattle.panako_vote.specs.declared.PanakoMatchConfig.{PanakoMatchConfig}
use Rattle.panako_vote.specs.declared.Vote.{Vote}
use Rattle.refusals.specs.declared.Refusal.TheVariants.{Setting}

abbrev four : Float
four = fin false 1 (pos 2)

abbrev settings : Float → Float → ℕ → ℕ → PanakoMatchConfig
settings min max bins tolerance =
    record {
      scale_min = min;
      scale_max = max;
      scale_bins = bins;
      offset_tolerance_frames = tolerance;
      min_votes = 5;
      min_score = zero;
      min_prominence = zero;
    }

abbrev at : ℕ → ℤ → Option Vote
at bin offset = Some (record { bin = bin; offset = offset })

-- scales from 1 to 2 in two bins of a half, so that 0.75 .. 2.25 votes
abbrev grid : PanakoMatchConfig
grid = settings one two 2 1

replaced :
    (normalised (settings one nan 0 1) ≡ settings default_min default_max 24 1)
    × (normalised (settings one one 8 1) ≡ settings default_min default_max 8 1)
    × (normalised (settings (inf true) one 8 1) ≡ settings default_min default_max 8 1)
    × (normalised grid ≡ grid)
unfolding normalised lt
replaced = (refl, refl, refl, refl)

votes :
    (pair_vote grid 100 110 250 260 ≡ at 0 (pos 150))
    × (pair_vote grid 1 3 3 6 ≡ at 1 (pos 2))
    × (pair_vote grid 1 3 0 3 ≡ at 1 (negsuc 1))
    × (pair_vote grid 0 4 7 10 ≡ at 0 (pos 7))
    × (pair_vote grid 0 4 7 16 ≡ at 1 (pos 7))
    × (pair_vote grid 0 4 7 17 ≡ None)
    × (pair_vote grid 9 4 7 16 ≡ None)
unfolding grid_of per_bin vote_on vote_at_scale bin_at round_to_i64 add sub mul div lt of_int to_unsigned
votes = (refl, refl, refl, refl, refl, refl, refl)

-- equal spans: scale 1 lies in bin 0 of that grid, and below a grid of scales from 2 to 4
units :
    ((grid_of grid).unit_bin ≡ 0)
    × ((grid_of grid).unit_votes ≡ true)
    × (pair_vote grid 250 260 100 110 ≡ at 0 (negsuc 149))
    × ((grid_of (settings two four 2 1)).unit_votes ≡ false)
    × (pair_vote (settings two four 2 1) 250 260 100 110 ≡ None)
unfolding grid_of per_bin vote_on vote_at_scale bin_at round_to_i64 add sub mul div lt of_int to_unsigned
units = (refl, refl, refl, refl, refl)

-- "Tolerance 65,535 passes; 65,536 is refused 4."
tolerances : (within_limits (settings one two 4096 65535) ≡ true) × (checked_vote (settings one two 2 65536) 0 4 7 10 ≡ Err Setting)
unfolding within_limits checked_vote normalised abs le lt
tolerances = (refl, refl)
