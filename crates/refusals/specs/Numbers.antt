-- The number of each refusal. Definitions only. Assumes nothing.
use Rattle.std.specs.Prelude.{ℕ, Result, Ok, Err}
use Rattle.refusals.specs.declared.Refusal.{Refusal}
use Rattle.refusals.specs.declared.Refusal.TheVariants.{Unlisted, Unsound, Malformed, Setting, Set, NotLive, NoRow, NoPostings, NoStops, NoScratch}

abbrev pub number_of : Refusal → ℕ
number_of Unlisted = 1
number_of Unsound = 2
number_of Malformed = 3
number_of Setting = 4
number_of Set = 9
number_of NotLive = 10
number_of NoRow = 5
number_of NoPostings = 6
number_of NoStops = 7
number_of NoScratch = 8

-- the number of the refusal in a result, 0 where it has none
abbrev pub number_in : {A : Type 0} → Result A Refusal → ℕ
number_in (Ok x) = 0
number_in (Err r) = number_of r
