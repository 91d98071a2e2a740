-- Words that a line gives, zeros behind them, beside words that are held. Definitions only. Assumes nothing.
use Rattle.std.specs.Prelude.{Bool, ◌&&◌, List, [], ◌∷◌, ◌++◌, ℕ, zero, suc, ◌+◌, ◌*◌, eqb, leb, length, get_or}
use Rattle.lists.specs.Every.{every}

-- the first n words of a line, zeros behind its last
unfoldable pub padded_to : ℕ → List ℕ → List ℕ
padded_to zero ws = []
padded_to (suc n) ws = padded_to n ws ++ get_or ws n 0 ∷ []

abbrev pub same_at : List ℕ → List ℕ → ℕ → Bool
same_at s ws i = eqb (get_or s i 0) (get_or ws i 0)

-- does a slice hold a line's words, and zeros behind them?
unfoldable pub holds : List ℕ → List ℕ → Bool
holds s ws = every (length s) (same_at s ws) && leb (length ws) (length s)

-- a number of two halves
abbrev pub pair_of : List ℕ → ℕ → ℕ
pair_of ws i = get_or ws (2 * i) 0 * 4294967296 + get_or ws (2 * i + 1) 0

-- do the eight words of an answer have a line's halves, and zeros behind them?
unfoldable pub holds_pairs : List ℕ → List ℕ → Bool
holds_pairs s ws = every 8 (λ i. eqb (get_or s i 0) (pair_of ws i)) && leb (length ws) 16
