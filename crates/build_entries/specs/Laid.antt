-- Entries and rows as a build lays them down. Definitions only. Assumes nothing.
use Rattle.std.specs.Prelude.{◌≡◌, List, map, ℕ, ◌-◌, ◌/◌, ◌≤◌, ◌<◌, get_or, take, drop}
use Rattle.std.proofs.Math.Option.{some}
use Rattle.lists.specs.Lists.{sum}
use Rattle.maps.specs.Puts.{entry_of}
use Rattle.build_sort.specs.Digits.{place_by}
use Rattle.build_ranges.specs.Codes.{rank_of, hash_place, in_order}
use Rattle.model.specs.Fingerprints.{hashes_of}
use Rattle.model.specs.Rows.{row_of}
use Rattle.model.specs.Words.{row_words}

-- the entry of the hash that a rank names, by the recordings' first hashes
abbrev pub entry_by : List ℕ → ℕ → List ℕ → ℕ → List ℕ
entry_by words w starts r = entry_of (w - 1) words (r / 8192) (place_by starts r)

-- from place a on the words are as they were
abbrev pub SameFrom : ℕ → List ℕ → List ℕ → Type 0
SameFrom a s s' = (i : ℕ) → a ≤ i → get_or s' i 0 ≡ get_or s i 0

-- all entries, in key order and within a key in arrival order
unfoldable pub laid_entries : List ℕ → ℕ → List ℕ → List (List ℕ)
laid_entries words w lengths = map (λ c. entry_of (w - 1) words (rank_of c / 8192) (hash_place lengths (rank_of c))) (in_order words (w - 1) lengths)

-- the recordings' first hashes, up to the first i
abbrev pub StartsTo : List ℕ → List ℕ → ℕ → Type 0
StartsTo starts lengths i = (k : ℕ) → k < i → get_or starts k 0 ≡ sum (take k lengths)

-- the row of a recording with n hashes from `start` on
unfoldable pub row_for : List ℕ → ℕ → ℕ → ℕ → ℕ → ℕ → List ℕ
row_for words w start n rate set = row_words (some (row_of w (record { rate = rate; set = set; hashes = take n (drop start (hashes_of w words)) }))) 0
