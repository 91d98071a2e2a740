-- The refusals of a query, of either index, that come before its votes are counted. w is the width of a posting, v the words of scratch that a
-- vote takes; m is the store, n the length of the scratch, hs the words of the hashes; `beyond` says whether a setting is beyond its limit.
-- Definitions only. Assumes nothing.
use Rattle.std.specs.Prelude.{Bool, List, ℕ}
use Rattle.model.specs.Calls.{refusal, number_of, early_tests}
use Rattle.model.specs.Words.{Words}
use Rattle.model.specs.Run.{store_of}

unfoldable pub early_refusal : ℕ → ℕ → Words → ℕ → List ℕ → Bool → ℕ → ℕ
early_refusal w v m n hs beyond set = number_of (refusal (early_tests w v (store_of w m) n hs beyond set))
