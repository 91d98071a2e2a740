-- A test of each number of a range. Assumes nothing.
use Prim.Native.Nat.{ℕ, ◌<◌}
use mathlib.Core.Path.{◌≡◌, sym, ◌∙◌}
use mathlib.Core.Bool.{Bool, true, false}
use native.Mathlib.Omega.{arith}
use native.Mathlib.Nat.{zero-add}
use lib.ListN.{length, get_or}
use Rattle.std.specs.Bool.{MatchBool}
use Rattle.std.specs.List.{AllWithin, HoldsAt, range_with_len}
use Rattle.std.proofs.lemmas.List.FromFn.{length-range_with_len, get_or-range_with_len}
use Rattle.lists.specs.Every.{every}
use Rattle.lists.proofs.Every.{every-make, every-fail}

-- the number at place k of the range
at : (n k : ℕ) → k < n → get_or (range_with_len 0 n) k 0 ≡ k
at n k h = get_or-range_with_len 0 n k 0 h ∙ zero-add k

-- what `all` answers
pub every-all : (t : ℕ → Bool) (n : ℕ) (r : Bool)
    → MatchBool r (AllWithin (λ i. t i ≡ true) (range_with_len 0 n) 0 (length (range_with_len 0 n))) ((k : ℕ) × (k < length (range_with_len 0 n)) × HoldsAt (λ i. t i ≡ false) (range_with_len 0 n) k)
    → r ≡ every n t
every-all t n true h = sym (every-make t n (λ k l. rw (at n k l) at (h k 0 (omega arith) (rw length-range_with_len l))))
every-all t n false h =
    let l : h.0 < n = rw length-range_with_len at h.1 in
    sym (every-fail t n h.0 l (rw (at n h.0 l) at (h.2 0)))
