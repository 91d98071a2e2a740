-- Words read as entries of w words each. Definitions only. Assumes nothing.
use Rattle.std.specs.Prelude.{◌≡◌, Bool, List, [], ◌∷◌, ◌++◌, ℕ, zero, suc, ◌+◌, ◌*◌, ◌-◌, length, get_or, take, drop, replicate, eqb, leb}
use Rattle.lists.specs.Lists.{All}
use Rattle.lists.specs.Every.{every}

-- the first n entries
unfoldable pub entries : ℕ → ℕ → List ℕ → List (List ℕ)
entries w zero s = []
entries w (suc n) s = take w s ∷ entries w n (drop w s)

-- entry i
abbrev pub entry_at : ℕ → ℕ → List ℕ → List ℕ
entry_at w i s = take w (drop (w * i) s)

-- an entry's key is its first word; that of entry i
abbrev pub key_of : List ℕ → ℕ
key_of e = get_or e 0 0

abbrev pub key_at : List ℕ → ℕ → ℕ → ℕ
key_at s w i = get_or s (w * i) 0

-- do the keys of the first n entries ascend?
unfoldable pub keys_ascend : List ℕ → ℕ → ℕ → Bool
keys_ascend s w n = every (n - 1) (λ i. leb (key_at s w i) (key_at s w (i + 1)))

-- each list has w elements
abbrev pub Wide : {A : Type 0} → ℕ → List (List A) → Type 0
Wide w l = All (λ e. length e ≡ w) l

-- is every word from place a on zero?
unfoldable pub zero_word : List ℕ → ℕ → ℕ → Bool
zero_word s a i = eqb (get_or s (a + i) 0) 0

unfoldable pub zero_from : List ℕ → ℕ → Bool
zero_from s a = every (length s - a) (zero_word s a)

-- zeros behind a list, up to n words
unfoldable pub padded : ℕ → List ℕ → List ℕ
padded n l = l ++ replicate (n - length l) 0
