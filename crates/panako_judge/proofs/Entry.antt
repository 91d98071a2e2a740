-- What the first gates said of the g votes from word a on. Assumes nothing.
use mathlib.Core.Path.{◌≡◌, sym, ap, ◌∙◌}
use mathlib.Core.Bool.{Bool}
use mathlib.Core.List.{List}
use Prim.Native.Nat.{ℕ, ◌+◌, ◌≤◌}
use lib.IntN.{ℤ}
use lib.ListN.{length}
use lib.Ieee.{Float}
use Rattle.gates.specs.Gates.{admits}
use Rattle.gates.specs.declared.Thresholds.{Thresholds}
use Rattle.panako_judge.specs.Judge.{thresholds_of}
use Rattle.panako_judge.specs.Candidates.{votes_in}
use Rattle.panako_judge.specs.declared.PanakoQuery.{PanakoQuery}
use Rattle.panako_judge.proofs.Words.{votes-length}

pub entry : (q : PanakoQuery) (s : List ℤ) (a g : ℕ) → a + g ≤ length s → (fps : Float) (k : Thresholds) → k ≡ thresholds_of q
    → (b : Bool) → b ≡ admits k.rate fps k.min_votes g → admits q.frames_per_sec fps q.cfg.min_votes (length (votes_in s a g)) ≡ b
entry q s a g h fps k ke b e =
    let f = rw ke at e in
    ap (λ (n : ℕ). admits q.frames_per_sec fps q.cfg.min_votes n) (votes-length s a g h) ∙ sym f
