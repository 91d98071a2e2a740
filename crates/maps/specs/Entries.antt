-- The postings are entries of w words each, the key first: where a key begins among keys that ascend. Assumes nothing: these are definitions.
use Rattle.std.specs.Prelude.{ℕ, ◌≤◌, ◌<◌, List, ltb}
use Rattle.maps.specs.Sums.{sum_to, when}
use Rattle.lists.specs.Entries.{key_at}

-- how many of the first p entries have a key below `key`: where keys ascend, the first entry at `key` or above
unfoldable pub first_at : List ℕ → ℕ → ℕ → ℕ → ℕ
first_at ps w p key = sum_to (λ i. when (ltb (key_at ps w i) key) 1) p

-- r parts the entries from `from` below `to`: keys below `key` before it, `key` or above from it on
pub record Split (ps : List ℕ) (w from to key r : ℕ) : Type 0 where
  pub since : from ≤ r
  pub within : r ≤ to
  pub below : (i : ℕ) → from ≤ i → i < r → key_at ps w i < key
  pub above : (i : ℕ) → r ≤ i → i < to → key ≤ key_at ps w i
