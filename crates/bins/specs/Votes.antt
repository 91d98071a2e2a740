-- A Wang vote as one word (document 01: "Wang vote: id, δ = t_anchor of the posting − t_anchor of the query hash, position of the query hash"). In place of δ stands δ + the largest query anchor, which counts from the low end of the span: the vote's place. Assumes nothing: these are definitions.
use Rattle.std.specs.Prelude.{◌≡◌, false, List, ℕ, suc, ◌+◌, ◌-◌, ◌*◌, ◌/◌, ◌%◌, ◌^◌, ◌≤◌, ◌<◌, ℤ, pos, negsuc, get_or}
use Rattle.bins.specs.declared.Form.{Form}

-- 12 bits of id, 33 of place, 11 of position
abbrev pub packed : ℕ → ℕ → ℕ → ℕ
packed id place position = id * 2 ^ 44 + place * 2 ^ 11 + position

-- such a word's form: its code is the place
abbrev pub wang_form : Form
wang_form = record { low = 0; bits = 11; size = 33; scaled = false }

-- how far a word lies above −low, 0 where it lies below
abbrev pub above : ℕ → ℤ → ℕ
above low (pos n) = low + n
above low (negsuc n) = low - suc n

-- the same without its last bits
abbrev pub lead_of : ℕ → ℕ → ℤ → ℕ
lead_of low bits z = above low z / 2 ^ bits

abbrev pub recording_of : ℤ → ℕ
recording_of z = lead_of 0 44 z

abbrev pub place_of : ℤ → ℕ
place_of z = lead_of 0 11 z % 2 ^ 33

abbrev pub position_of : ℤ → ℕ
position_of z = above 0 z % 2 ^ 11

-- place and position of the vote t words after a
unfoldable pub places : List ℤ → ℕ → ℕ → ℕ
places s a t = place_of (get_or s (a + t) (pos 0))

unfoldable pub positions : List ℤ → ℕ → ℕ → ℕ
positions s a t = position_of (get_or s (a + t) (pos 0))

-- from i on, d has one value below r, and r is e or has another
pub record Run (d : ℕ → ℕ) (i e r : ℕ) : Type 0 where
  pub since : i < r
  pub within : r ≤ e
  pub same : (t : ℕ) → i ≤ t → t < r → d t ≡ d i
  pub stop : (r < e → d r ≡ d i → ⊥)
