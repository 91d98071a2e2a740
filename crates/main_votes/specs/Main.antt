-- The words of one recording among those of others. Definitions only. Assumes nothing.
use Rattle.std.specs.Prelude.{Bool, cond, ◌&&◌, List, ℕ, ◌-◌, ℤ, pos, length, get_or, eqb, ltb}
use Rattle.lists.specs.Lists.{keep}
use Rattle.maps.specs.Lists.{count_if}
use Rattle.bins.specs.Votes.{lead_of}

-- a word is this number without its last bits
abbrev pub has_lead : ℕ → ℕ → ℕ → ℤ → Bool
has_lead low bits lead z = eqb (lead_of low bits z) lead

-- the first word's number, and how many words have another
abbrev pub main_lead : ℕ → ℕ → List ℤ → ℕ
main_lead low bits zs = lead_of low bits (get_or zs 0 (pos 0))

abbrev pub others : ℕ → ℕ → List ℤ → ℕ
others low bits zs = length zs - count_if (has_lead low bits (main_lead low bits zs)) zs

-- the words that are as the first, where there are others and these are fewer than `least`; else all
unfoldable pub main_of : ℕ → ℕ → ℕ → List ℤ → List ℤ
main_of low bits least zs =
    cond (ltb 0 (others low bits zs) && ltb (others low bits zs) least) (keep (has_lead low bits (main_lead low bits zs)) zs) zs
