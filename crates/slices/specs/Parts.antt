-- Words copied into a list, and zeros. Definitions only. Assumes nothing.
use Rattle.std.specs.Prelude.{List, ◌++◌, ℕ, ◌-◌, take, drop, replicate}
use Rattle.std.proofs.Math.Seq.{paste}

-- d with n words of s, from `from` on, at `at`
unfoldable pub pasted : List ℕ → ℕ → List ℕ → ℕ → ℕ → List ℕ
pasted d at s from n = paste d at (drop from s) n

-- s with zeros from place a up to place b
unfoldable pub cleared : List ℕ → ℕ → ℕ → List ℕ
cleared s a b = take a s ++ (replicate (b - a) 0 ++ drop b s)
