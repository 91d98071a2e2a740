-- Fingerprints, from the words that a call lends. w is the width of a posting in words: 3 (Wang) or 5 (Panako). A hash in a
-- fingerprint has one word less, since it has no id. Definitions only. Assumes nothing.
use Rattle.std.specs.Prelude.{Bool, not, ◌||◌, List, [], ◌∷◌, map, ℕ, ◌-◌, ◌/◌, ◌%◌, length, get_or, take, drop, eqb, ltb}
use Rattle.lists.specs.Lists.{some?, sum}
use Rattle.lists.specs.Entries.{entries}

-- a hash: its key and its frame times (Wang: t_anchor; Panako: t_anchor, t_b, t_c)
pub record Hash : Type 0 where
  pub key : ℕ
  pub times : List ℕ

-- a recording's fingerprint: the word of its rate's bits, its set, and its hashes in order
pub record Fingerprint : Type 0 where
  pub rate : ℕ
  pub set : ℕ
  pub hashes : List Hash

abbrev pub hash_of : List ℕ → Hash
hash_of e = record { key = get_or e 0 0; times = drop 1 e }

abbrev pub hash_count : ℕ → List ℕ → ℕ
hash_count w words = length words / (w - 1)

unfoldable pub hashes_of : ℕ → List ℕ → List Hash
hashes_of w words = map hash_of (entries (w - 1) (hash_count w words) words)

-- an insert's fingerprint
abbrev pub fingerprint_of : ℕ → ℕ → ℕ → List ℕ → Fingerprint
fingerprint_of w rate set words = record { rate = rate; set = set; hashes = hashes_of w words }

-- a build's: "`build` takes all hashes in one slice, plus lengths and rates", and a set "for each reference"
unfoldable pub divided : List Hash → List ℕ → List ℕ → List ℕ → List Fingerprint
divided hs [] rates sets = []
divided hs (n ∷ lengths) [] sets = []
divided hs (n ∷ lengths) (r ∷ rates) [] = []
divided hs (n ∷ lengths) (r ∷ rates) (s ∷ sets) = record { rate = r; set = s; hashes = take n hs } ∷ divided (drop n hs) lengths rates sets

abbrev pub fingerprints_of : ℕ → List ℕ → List ℕ → List ℕ → List ℕ → List Fingerprint
fingerprints_of w words lengths rates sets = divided (hashes_of w words) lengths rates sets

-- "Reference fingerprint 0 to 8,192 hashes, query 0 to 2,048"
abbrev pub reference_most : ℕ
reference_most = 8192

abbrev pub query_most : ℕ
query_most = 2048

-- refusal 3: "fingerprint words no multiple of 2 (Wang) or 4 (Panako); too many hashes"
abbrev pub uneven : ℕ → List ℕ → Bool
uneven w words = not (eqb (length words % (w - 1)) 0)

unfoldable pub malformed : ℕ → ℕ → List ℕ → Bool
malformed w most words = uneven w words || ltb most (hash_count w words)

-- "too many hashes (in build, in any one reference); in build, rates and lengths differ in number or lengths don't add up to the hashes";
-- "build takes one for each reference, and a count that differs is refusal 3"
unfoldable pub malformed_build : ℕ → List ℕ → List ℕ → List ℕ → List ℕ → Bool
malformed_build w words lengths rates sets =
    uneven w words
    || (some? (λ n. ltb reference_most n) lengths
    || (not (eqb (length rates) (length lengths)) || (not (eqb (length sets) (length lengths)) || not (eqb (sum lengths) (hash_count w words)))))
