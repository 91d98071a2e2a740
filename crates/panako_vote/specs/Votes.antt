-- The vote of one pair of a query hash and a posting under its key. Each step is one rounded f64 operation. Definitions only. Assumes nothing.
use Rattle.std.specs.Prelude.{Option, Some, None, Result, Ok, Err, ℕ, ◌-◌, ◌^◌, ◌<◌, ◌≤◌, Bool, true, false, ◌||◌, ℤ, pos, negsuc, ◌==◌, Float}
use Rattle.std.specs.Float.{binary64}
use Rattle.std.specs.Float.Ieee.{sub, mul, div}
use Rattle.floats.specs.Rounding.{round_to_i64}
use Rattle.panako_vote.specs.Settings.{normalised, within_limits}
use Rattle.panako_vote.specs.Grids.{whole, outside, scale_bin, grid_of}
use Rattle.panako_vote.specs.declared.PanakoMatchConfig.{PanakoMatchConfig}
use Rattle.panako_vote.specs.declared.ScaleGrid.{ScaleGrid}
use Rattle.panako_vote.specs.declared.Vote.{Vote}
use Rattle.refusals.specs.declared.Refusal.{Refusal}
use Rattle.refusals.specs.declared.Refusal.TheVariants.{Setting}

-- "Offset: reference anchor − s × query anchor, rounded, halves away from zero."
abbrev pub offset_at : Float → ℕ → ℕ → ℤ
offset_at s query reference = round_to_i64 (sub binary64 (whole reference) (mul binary64 s (whole query)))

abbrev pub none_if : Bool → Option Vote → Option Vote
none_if true v = None
none_if false v = v

-- the vote of a pair with the scale s, by the two anchors
unfoldable pub vote_at_scale : ScaleGrid → Float → ℕ → ℕ → Option Vote
vote_at_scale g s query reference = none_if (outside g s) (Some (record { bin = scale_bin g s; offset = offset_at s query reference }))

-- "spans are t_c − t_anchor, held at 0 from below": so is `-` on natural numbers
abbrev pub span : ℕ → ℕ → ℕ
span anchor end = end - anchor

-- "In f64, s = reference span / query span"
abbrev pub span_ratio : ℕ → ℕ → Float
span_ratio reference query = div binary64 (whole reference) (whole query)

-- the vote of a query hash and a posting, each by its t_anchor and t_c: "a pair with a zero span gives no vote"
unfoldable pub vote_on : ScaleGrid → ℕ → ℕ → ℕ → ℕ → Option Vote
vote_on g qa qc ra rc =
    none_if (span qa qc == 0 || span ra rc == 0)
    (vote_at_scale g (span_ratio (span ra rc) (span qa qc)) qa ra)

-- the same under these settings
abbrev pub pair_vote : PanakoMatchConfig → ℕ → ℕ → ℕ → ℕ → Option Vote
pair_vote cfg qa qc ra rc = vote_on (grid_of cfg) qa qc ra rc

-- "Only votes are counted against the scratch."
abbrev pub is_vote : Option Vote → Bool
is_vote None = false
is_vote (Some v) = true

-- -2^39 ≤ z ≤ 2^32; `negsuc n` is -(n + 1)
abbrev pub InRange : ℤ → Type 0
InRange (pos n) = n ≤ 2 ^ 32
InRange (negsuc n) = n < 2 ^ 39

-- the bounds of a vote, its scale bin being one up to the last
abbrev pub Bounded : ℕ → Option Vote → Type 0
Bounded last None = Unit {0}
Bounded last (Some v) = (v.bin ≤ last) × InRange v.offset

abbrev pub refused_unless : Bool → Option Vote → Result (Option Vote) Refusal
refused_unless true v = Ok v
refused_unless false v = Err Setting

-- refusal 4, "query setting beyond its limit, after `normalize_config`"; else the vote
unfoldable pub checked_vote : PanakoMatchConfig → ℕ → ℕ → ℕ → ℕ → Result (Option Vote) Refusal
checked_vote cfg qa qc ra rc =
    refused_unless (within_limits (normalised cfg)) (pair_vote (normalised cfg) qa qc ra rc)
