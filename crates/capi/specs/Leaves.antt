-- How the C interface writes the answers of the leaves: the case, then its values, and zeros. Definitions only. Assumes nothing.
use Rattle.std.specs.Prelude.{Option, Some, None, Result, Ok, Err, ℕ, ◌/◌, Bool, List, [], ◌∷◌, length, ℤ, nat_le, to_bits}
use Rattle.std.specs.Float.{binary32}
use Rattle.consolidate.specs.declared.Peak.{Peak}
use Rattle.hough.specs.declared.Answer.{Answer}
use Rattle.refusals.specs.declared.Refusal.{Refusal}
use Rattle.panako_vote.specs.declared.Vote.{Vote}
use Rattle.panako_vote.specs.declared.PanakoMatchConfig.{PanakoMatchConfig}
use Rattle.panako_vote.specs.Settings.{within_limits}
use Rattle.capi.specs.Codes.{flag, twos_complement}

-- there is room for n words beside the first n
abbrev pub room_for : ℕ → List ℤ → Bool
room_for n l = nat_le n (length l / 2)

abbrev pub refused_words : List ℕ
refused_words = 0 ∷ 0 ∷ 0 ∷ 0 ∷ 0 ∷ 0 ∷ 0 ∷ 0 ∷ []

abbrev pub mode_words : Option (Option ℤ) → List ℕ
mode_words None = refused_words
mode_words (Some None) = 1 ∷ 0 ∷ 0 ∷ 0 ∷ 0 ∷ 0 ∷ 0 ∷ 0 ∷ []
mode_words (Some (Some d)) = 2 ∷ twos_complement d ∷ 0 ∷ 0 ∷ 0 ∷ 0 ∷ 0 ∷ 0 ∷ []

abbrev pub peak_words : Option Peak → List ℕ
peak_words None = refused_words
peak_words (Some p) = 1 ∷ p.votes ∷ twos_complement p.centre ∷ twos_complement p.mode ∷ p.total ∷ 0 ∷ 0 ∷ 0 ∷ []

abbrev pub hough_words : Option Answer → List ℕ
hough_words None = refused_words
hough_words (Some a) =
    1 ∷ a.peak.votes ∷ a.peak.at ∷ twos_complement a.offset ∷ to_bits binary32 a.prominence ∷ 0 ∷ 0 ∷ 0 ∷ []

abbrev pub vote_words : Result (Option Vote) Refusal → List ℕ
vote_words (Err r) = refused_words
vote_words (Ok None) = 1 ∷ 0 ∷ 0 ∷ 0 ∷ 0 ∷ 0 ∷ 0 ∷ 0 ∷ []
vote_words (Ok (Some v)) = 2 ∷ v.bin ∷ twos_complement v.offset ∷ 0 ∷ 0 ∷ 0 ∷ 0 ∷ 0 ∷ []

abbrev pub settings_words : PanakoMatchConfig → List ℕ
settings_words c = flag (within_limits c) ∷ to_bits binary32 c.scale_min ∷ to_bits binary32 c.scale_max ∷ c.scale_bins ∷ 0 ∷ 0 ∷ 0 ∷ 0 ∷ []
