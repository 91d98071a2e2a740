-- Entries of w words, some of which go. Definitions only. Assumes nothing.
use Rattle.std.specs.Prelude.{◌≡◌, Bool, true, false, not, List, [], ◌∷◌, ◌++◌, ℕ, zero, suc, ◌+◌, ◌*◌, ◌≤◌, ◌<◌, min, length, get_or, drop, eqb}
use Rattle.lists.specs.Lists.{keep, flat, member}
use Rattle.lists.specs.Entries.{entries, padded}

-- is word f of the entry none of xs?
unfoldable pub unnamed : ℕ → List ℕ → List ℕ → Bool
unnamed f xs e = not (member (get_or e f 0) xs)

-- of the first p entries those whose word f is none of xs, in order
unfoldable pub staying : ℕ → ℕ → ℕ → List ℕ → List ℕ → List (List ℕ)
staying w p f xs s = keep (unnamed f xs) (entries w p s)

-- these, zeros as far as the p entries went, and what stood behind them
unfoldable pub retained : ℕ → ℕ → ℕ → List ℕ → List ℕ → List ℕ
retained w p f xs s = padded (w * p) (flat (staying w p f xs s)) ++ drop (w * p) s

-- p entries of s, their word f, and entry `from` or the end
pub record Within (w p f : ℕ) (s : List ℕ) (from : ℕ) : Type 0 where
  pub field : f < w
  pub room : w * p ≤ length s
  pub start : from ≤ p

-- r is the first entry, from `from` on, whose word f passes the test; p where there is none
pub record Until (t : ℕ → Bool) (w p f : ℕ) (s : List ℕ) (from r : ℕ) : Type 0 where
  pub since : from ≤ r
  pub within : r ≤ p
  pub before : (i : ℕ) → from ≤ i → i < r → t (get_or s (w * i + f) 0) ≡ false
  pub stop : r < p → t (get_or s (w * r + f) 0) ≡ true

-- the entry behind the k-th that a list names, before which k are named; the first where k is 0
unfoldable pub behind_listed : List ℕ → ℕ → ℕ
behind_listed l zero = 0
behind_listed l (suc k) = get_or l k 0 + 1

-- l names the first c of those of the p entries whose word f passes the test, in order
pub record Listed (t : ℕ → Bool) (w p f : ℕ) (s l : List ℕ) (c : ℕ) : Type 0 where
  pub room : c ≤ length l
  pub next : (k : ℕ) → k < c → Until t w p f s (behind_listed l k) (get_or l k 0)
  pub within : (k : ℕ) → k < c → get_or l k 0 < p

-- of the first i entries c have x as their word f, and l names as many of them as it has room for
pub record Noted (w p f x : ℕ) (s : List ℕ) (i : ℕ) (l : List ℕ) (c : ℕ) : Type 0 where
  pub many : c + length (staying w i f (x ∷ []) s) ≡ i
  pub listed : Listed (eqb x) w p f s l (min c (length l))
  pub since : c ≤ length l → behind_listed l c ≤ i
  pub rest : c < length l → (j : ℕ) → behind_listed l c ≤ j → j < i → eqb x (get_or s (w * j + f) 0) ≡ false
