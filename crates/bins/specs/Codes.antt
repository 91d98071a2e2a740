-- Votes by their codes, of Wang and of Panako alike: where a code stands in a word, which codes are occupied, and their bins as words
-- (document 01: "bins ascend, .. and count at least 1"; "an occupied bin"). Definitions only. Assumes nothing.
use Rattle.std.specs.Prelude.{◌≡◌, cond, List, [], ◌∷◌, map, ℕ, ◌+◌, ◌*◌, ◌/◌, ◌%◌, ◌^◌, ◌≤◌, ◌<◌, ℤ, pos, neg_ℤ, ◌+ℤ◌, length, get_or, set, take, drop, eqb}
use Rattle.lists.specs.Lists.{flat, insert_key}
use Rattle.maps.specs.Lists.{count_if}
use Rattle.bins.specs.Votes.{above, lead_of}
use Rattle.bins.specs.declared.Form.{Form}

-- ---- votes as words

-- the code of a word, and its recording's id, which stands above the code
abbrev pub code_in : Form → ℤ → ℕ
code_in f z = lead_of f.low f.bits z % 2 ^ f.size

abbrev pub id_in : Form → ℤ → ℕ
id_in f z = lead_of f.low (f.bits + f.size) z

-- the codes of the g words from a on
abbrev pub codes_in : Form → List ℤ → ℕ → ℕ → List ℕ
codes_in f s a g = map (code_in f) (take g (drop a s))

-- what a form keeps to
pub record Fits (f : Form) : Type 0 where
  pub low : f.low ≤ 2 ^ 63
  pub bits : f.bits < 64
  pub size : f.size ≤ 52

-- the words of a bin
abbrev pub width : Form → ℕ
width f = cond f.scaled 3 2

-- the g votes from word a on are of one recording and ascend; from word `at` on there is room for their bins
pub record Group (f : Form) (s : List ℤ) (a g at : ℕ) : Type 0 where
  pub one : (t : ℕ) → t < g → id_in f (get_or s (a + t) (pos 0)) ≡ id_in f (get_or s a (pos 0))
  pub ascend : (i j : ℕ) → i < j → j < g → above f.low (get_or s (a + i) (pos 0)) ≤ above f.low (get_or s (a + j) (pos 0))
  pub before : a + g ≤ at
  pub room : at + width f * g ≤ length s

-- ---- occupied codes

-- codes, each once, ascending
unfoldable pub occupied : List ℕ → List ℕ
occupied [] = []
occupied (k ∷ ks) = insert_key k (occupied ks)

-- how often k is among them
abbrev pub how_often : List ℕ → ℕ → ℕ
how_often ks k = count_if (λ x. eqb x k) ks

-- ---- bins as words

-- an offset, from its place above −middle, and its count
abbrev pub offset_words : ℕ → ℕ → ℕ → List ℤ
offset_words middle x c = (neg_ℤ (pos middle) +ℤ pos x) ∷ pos c ∷ []

-- the bin of a code: where the code has a scale bin, above 40 bits of place, that comes first
abbrev pub bin_words : Form → ℕ → ℕ → ℕ → List ℤ
bin_words f middle k c = cond f.scaled (pos (k / 2 ^ 40) ∷ offset_words middle (k % 2 ^ 40) c) (offset_words middle k c)

-- those of all occupied codes
unfoldable pub bins_of : Form → ℕ → List ℕ → List ℤ
bins_of f middle ks = flat (map (λ k. bin_words f middle k (how_often ks k)) (occupied ks))

-- words stored from word j on
abbrev pub stored : List ℤ → ℕ → List ℤ → List ℤ
stored s j [] = s
stored s j (w ∷ ws) = stored (set s j w) (j + 1) ws
