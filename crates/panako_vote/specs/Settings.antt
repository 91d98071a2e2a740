-- The settings of a Panako query: `normalize_config` and the limits of refusal 4. Definitions only. Assumes nothing.
use Rattle.std.specs.Prelude.{ℕ, ◌<◌, ◌≤◌, Bool, false, cond, ◌&&◌, T, pos, negsuc, ◌==◌, nat_le, Float}
use Rattle.std.specs.Float.{fin}
use Rattle.std.specs.Float.Ieee.{lt, le}
use Rattle.std.specs.Float.Ieee.Scale.{finite}
use Rattle.floats.specs.Selection.{abs}
use Rattle.panako_vote.specs.declared.PanakoMatchConfig.{PanakoMatchConfig}

-- 0.80 as an f32: 13421773 * 2 ^ -24
abbrev pub default_min : Float
default_min = fin false 13421773 (negsuc 23)

-- 1.25 is 5 * 2 ^ -2
abbrev pub default_max : Float
default_max = fin false 5 (negsuc 1)

-- "finite and ascending"; the Rust's `>` is strict
abbrev pub ascending : Float → Float → Bool
ascending min max = finite min && finite max && lt min max

-- "scale_bins 0 becomes 24"
abbrev pub scale_bins : ℕ → ℕ
scale_bins bins = cond (bins == 0) 24 bins

-- "scale_bins 0 becomes 24; scale ends that aren't finite and ascending become 0.80 and 1.25", both of them; all else stays
unfoldable pub normalised : PanakoMatchConfig → PanakoMatchConfig
normalised cfg =
    record {
      scale_min = cond (ascending cfg.scale_min cfg.scale_max) cfg.scale_min default_min;
      scale_max = cond (ascending cfg.scale_min cfg.scale_max) cfg.scale_max default_max;
      scale_bins = scale_bins cfg.scale_bins;
      offset_tolerance_frames = cfg.offset_tolerance_frames;
      min_votes = cfg.min_votes;
      min_score = cfg.min_score;
      min_prominence = cfg.min_prominence;
    }

-- 64 is 2 ^ 6
abbrev pub sixty_four : Float
sixty_four = fin false 1 (pos 6)

-- "Tolerance at most 65,535; |scale_min| and |scale_max| at most 64; scale_bins at most 4,096."
unfoldable pub within_limits : PanakoMatchConfig → Bool
within_limits cfg =
    le (abs cfg.scale_min) sixty_four
    && le (abs cfg.scale_max) sixty_four
    && nat_le cfg.scale_bins 4096
    && nat_le cfg.offset_tolerance_frames 65535

-- what holds of settings that are normalised and that refusal 4 lets pass
pub record Accepted (cfg : PanakoMatchConfig) : Type 0 where
  pub min_size : T (le (abs cfg.scale_min) sixty_four)
  pub max_size : T (le (abs cfg.scale_max) sixty_four)
  pub some_bins : 0 < cfg.scale_bins
  pub few_bins : cfg.scale_bins ≤ 4096
  pub tolerance : cfg.offset_tolerance_frames ≤ 65535
