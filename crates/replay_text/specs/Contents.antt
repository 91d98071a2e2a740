-- Lines that put words into a slice, or say what a slice or the answer holds. Definitions only. Assumes nothing.
use Rattle.std.specs.Prelude.{Bool, cond, ◌||◌, List, ℕ, eqb, length}
use Rattle.replay_text.specs.Words.{padded_to, holds, holds_pairs}

-- a slice after a line: a line with the slice's own letter puts its words, and zeros behind them
abbrev pub put_by : ℕ → ℕ → List ℕ → List ℕ → List ℕ
put_by own letter line s = cond (eqb letter own) (padded_to (length s) line) s

-- A, R, P, K: is it as the line says? r, p, k: there is nothing that could differ. No other letter is known.
abbrev pub as_said : ℕ → List ℕ → List ℕ → List ℕ → List ℕ → List ℕ → Bool
as_said letter line refs postings stopped answer =
    cond (eqb letter 65) (holds_pairs answer line)
    (cond (eqb letter 82) (holds refs line)
    (cond (eqb letter 80) (holds postings line)
    (cond (eqb letter 75) (holds stopped line)
    (eqb letter 114 || (eqb letter 112 || eqb letter 107)))))
