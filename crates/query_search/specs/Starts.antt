-- Where the postings of each of m query hashes begin and end: p postings of w words each, hashes of h words, the key first. Definitions
-- only. Assumes nothing.
use Rattle.std.specs.Prelude.{◌≡◌, ℕ, ◌+◌, ◌*◌, ◌^◌, ◌<◌, ◌≤◌, true, List, map, length, nat_lt, slice_index}
use Rattle.lists.specs.Lists.{sum}
use Rattle.lists.specs.Keys.{under}
use Rattle.lists.specs.Entries.{key_at, key_of, keys_ascend}
use Rattle.maps.specs.Sums.{when}
use Rattle.maps.specs.Entries.{first_at}

-- "starting wherever that key begins": start i is the word at which the first posting stands that has the key of hash i, or one above it
pub record Starts (ps : List ℕ) (w p : ℕ) (hs : List ℕ) (h m : ℕ) (starts : List ℕ) : Type 0 where
  pub begins : (i : ℕ) → i < m → slice_index starts i ≡ w * first_at ps w p (key_at hs h i)

-- end i is the word at which the first posting above it stands
pub record Ends (ps : List ℕ) (w p : ℕ) (hs : List ℕ) (h m : ℕ) (ends : List ℕ) : Type 0 where
  pub stops : (i : ℕ) → i < m → slice_index ends i ≡ w * first_at ps w p (key_at hs h i + 1)

-- how many postings the query hashes hs meet: those under the key of each
unfoldable pub met : List (List ℕ) → List (List ℕ) → ℕ
met es hs = sum (map (λ h. length (under key_of (key_of h) es)) hs)

-- how the starts of m hashes come in
pub record Zeros (m : ℕ) (starts : List ℕ) : Type 0 where
  pub long : m ≤ length starts
  pub zero : (i : ℕ) → i < m → slice_index starts i ≡ 0

-- how many of the pivots are below a key
unfoldable pub pivots_below : List ℕ → ℕ → ℕ
pivots_below ps key = sum (map (λ p. when (nat_lt p key) 1) ps)

-- the postings under a key begin at one of the `len` postings from `start` on, or just behind them
pub record Window (ps : List ℕ) (w p key len start : ℕ) : Type 0 where
  pub since : start ≤ first_at ps w p key
  pub upto : first_at ps w p key ≤ start + len
  pub within : start + len ≤ p

-- such a window, by the word at which it begins
pub record Placed (ps : List ℕ) (w p key len word : ℕ) : Type 0 where
  pub entry : ℕ
  pub stands : word ≡ w * entry
  pub window : Window ps w p key len entry

-- one for each hash
pub record Windows (ps : List ℕ) (w p : ℕ) (hs : List ℕ) (h m len : ℕ) (starts : List ℕ) : Type 0 where
  pub long : m ≤ length starts
  pub each : (i : ℕ) → i < m → Placed ps w p (key_at hs h i) len (slice_index starts i)

-- what the search asks: postings in the order of their keys, whose words can be numbered by words, and "query 0 to 2,048" hashes
pub record Sought (ps : List ℕ) (w p : ℕ) (hs : List ℕ) (h m : ℕ) : Type 0 where
  pub posting : 1 ≤ w
  pub postings : w * p ≤ length ps
  pub ascend : keys_ascend ps w p ≡ true
  pub counted : w * p < 2 ^ 32
  pub hash : 1 ≤ h
  pub hashes : h * m ≤ length hs
  pub few : m ≤ 2048
