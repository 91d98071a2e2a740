-- The answer by the number of votes, counted up to one more than the room; and the scratch after it. Assumes nothing.
use mathlib.Core.Path.{◌≡◌, refl, sym, ap, ◌∙◌}
use mathlib.Core.List.{List}
use mathlib.Core.Option.{Option, none, some}
use Prim.Native.Nat.{ℕ, ◌+◌, ◌≤◌, ◌<◌, min}
use native.Mathlib.Omega.{arith}
use lib.IntN.{ℤ, pos}
use lib.ListN.{length, replicate}
use borrow.Author.Tests.{lt-ltb, le-ltb}
use Rattle.matching.specs.declared.MatchResult.{MatchResult}
use Rattle.model.specs.Calls.{Answer, refused, answer_of}
use Rattle.query_rank.specs.Answers.{scratch_after}
use Rattle.query_laws.specs.Candidates.{Reading, best_in, answer_in}

zeros-after : (o : Option (ℕ × MatchResult)) (s : List ℤ) → scratch_after (answer_of o) s ≡ replicate (length s) (pos 0)
zeros-after none s = refl
zeros-after (some b) s = refl

module _ {Vote : Type 0} (R : Reading Vote) (room : ℕ) (rs : List ℕ) (zs : List ℤ) (v : ℕ) (e : v ≡ min (room + 1) (length zs)) where
  -- more votes than there is room for: refused, and the scratch is left as it is
  pub too_many : (s : List ℤ) → room < v → (refused 8 ≡ answer_in R room rs zs) × (s ≡ scratch_after (answer_in R room rs zs) s)
  unfolding answer_in
  too_many s h = rw (lt-ltb room (length zs) (omega arith)) (refl, refl)

  pub all_fit : v ≤ room → length zs ≤ room
  all_fit h = omega arith

  accepted : v ≤ room → answer_in R room rs zs ≡ answer_of (best_in R rs zs)
  unfolding answer_in
  accepted h = rw (le-ltb room (length zs) (omega arith))

  -- otherwise the best is answered, and the scratch is zeroed
  pub answered : v ≤ room → (best : Option (ℕ × MatchResult)) (x : Answer) (s s' : List ℤ) (n : ℕ)
      → best ≡ best_in R rs zs → x ≡ answer_of best → n ≡ length s → s' ≡ replicate n (pos 0) → (x ≡ answer_in R room rs zs) × (s' ≡ scratch_after (answer_in R room rs zs) s)
  answered h best x s s' n eb ex en es =
      rw (accepted h) (ex ∙ ap answer_of eb, es ∙ ap (λ (k : ℕ). replicate k (pos 0)) en ∙ sym (zeros-after (best_in R rs zs) s))
