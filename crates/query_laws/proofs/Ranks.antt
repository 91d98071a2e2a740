-- Laws of the best of ids below n. Assumes nothing.
use mathlib.Core.Path.{◌≡◌, sym, ap, ◌∙◌}
use mathlib.Core.Option.{Option, none}
use Prim.Native.Nat.{ℕ, suc, ◌≤◌, ◌<◌}
use native.Mathlib.Omega.{arith}
use Rattle.matching.specs.declared.MatchResult.{MatchResult}
use Rattle.model.specs.Query.{track_best, best_below}
use Rattle.model.proofs.Best.{best-ext, best-skip}

pub best_none : (f : ℕ → Option MatchResult) (n : ℕ) → ((j : ℕ) → f j ≡ none) → best_below n f ≡ none
unfolding best_below
best_none f n h = best-skip f 0 n (omega arith) (λ j k. h j)

-- a candidate behind all the others
pub best-more : (f g : ℕ → Option MatchResult) (n x : ℕ) → x < n → ((j : ℕ) → j < x → g j ≡ f j) → ((j : ℕ) → x ≤ j → f j ≡ none) → ((j : ℕ) → x < j → g j ≡ none)
    → best_below n g ≡ track_best (best_below n f) x (g x)
unfolding best_below
best-more f g n x lt same late later =
    best-skip g (suc x) n lt (λ j h. later j (omega arith))
    ∙ ap (λ (b : Option (ℕ × MatchResult)). track_best b x (g x)) (best-ext g f x same ∙ sym (best-skip f x n (omega arith) late))
