-- The keys that stand more often than a limit. Definitions only. Assumes nothing.
use Rattle.std.specs.Prelude.{◌≡◌, Bool, cond, not, List, [], ◌∷◌, map, ℕ, ◌/◌, ◌≤◌, ◌<◌, length, ltb}
use Rattle.lists.specs.Lists.{All, insert_key, keep}
use Rattle.lists.specs.Keys.{times}
use Rattle.lists.specs.Entries.{key_of, key_at}

-- the key in a code
abbrev pub key_in : ℕ → ℕ
key_in c = c / 33554432

-- the keys of l that pass a test, each once, ascending
unfoldable pub keys_passing : (ℕ → Bool) → List ℕ → List ℕ
keys_passing t [] = []
keys_passing t (k ∷ l) = cond (t k) (insert_key k (keys_passing t l)) (keys_passing t l)

-- "every key .. with more postings than the call's limit"
abbrev pub over : ℕ → List ℕ → ℕ → Bool
over limit l k = ltb limit (times k l)

unfoldable pub over_keys : ℕ → List ℕ → List ℕ
over_keys limit l = keys_passing (over limit l) l

-- after the keys l: the last key with its times, and how many keys are over the limit
pub record Counted (limit : ℕ) (l : List ℕ) (key run many : ℕ) : Type 0 where
  pub run_is : run ≡ times key l
  pub fresh : (k : ℕ) → All (λ y. y ≤ k) l → (k ≡ key → ⊥) → times k l ≡ 0
  pub many_is : many ≡ length (over_keys limit l)

-- the entries whose keys are not over the limit
abbrev pub keys_of : List (List ℕ) → List ℕ
keys_of es = map key_of es

unfoldable pub kept : ℕ → List (List ℕ) → List (List ℕ)
kept limit es = keep (λ e. not (over limit (keys_of es) (key_of e))) es

-- entries i to r - 1 have one key, and entry r another, unless it is entry n
pub record RunEnd (posts : List ℕ) (w i n r : ℕ) : Type 0 where
  pub some : i < r
  pub within : r ≤ n
  pub same : (t : ℕ) → i ≤ t → t < r → key_at posts w t ≡ key_at posts w i
  pub other : r < n → key_at posts w r ≡ key_at posts w i → ⊥
