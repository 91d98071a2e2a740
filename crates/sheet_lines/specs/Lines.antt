-- The lines of answers. Definitions only. Assumes nothing.
use Rattle.std.specs.Prelude.{Bool, true, false, cond, List, [], ◌∷◌, ◌++◌, ℕ, ℤ}
use Rattle.std.specs.Int.Signed.{non_neg}
use Rattle.matching.specs.declared.MatchResult.{MatchResult}
use Rattle.matching.specs.declared.TimeOffset.{TimeOffset}
use Rattle.model.specs.Calls.{Answer, built, stored, removed, count, best, nothing, refused}
use Rattle.sheet_text.specs.Bytes.{decimal, signed, float_bits, field, newline}

-- "place (E if frames < 0, else I)"
abbrev pub place : ℤ → ℕ
place frames = cond (non_neg frames) 73 69

-- 1 or 0
abbrev pub flag : Bool → ℕ
flag true = 49
flag false = 48

-- frames, ms, place
unfoldable pub offset_text : TimeOffset → List ℕ
offset_text t = field (signed t.frames) ++ field (signed t.ms) ++ field (place t.frames ∷ [])

-- "M: id, votes, score bits, prominence bits, frames, ms, place"
unfoldable pub match_text : ℕ → MatchResult → List ℕ
match_text id r =
    77 ∷ [] ++ field (decimal id) ++ field (decimal r.votes) ++ field (float_bits r.score) ++ field (float_bits r.prominence)
    ++ offset_text r.offset

-- "A: id stored." "D: id, 1 or 0." "N: none." "R and a number: refused." The id of a removal is its record's. The sheet asks neither for
-- a build nor for a count, which have no line of their own.
abbrev pub answer_text : ℕ → Answer → List ℕ
answer_text asked built = []
answer_text asked (stored id) = 65 ∷ [] ++ field (decimal id)
answer_text asked (removed b) = 68 ∷ [] ++ field (decimal asked) ++ field (flag b ∷ [])
answer_text asked (count n) = []
answer_text asked (best id r) = match_text id r
answer_text asked nothing = 78 ∷ []
answer_text asked (refused n) = 82 ∷ [] ++ field (decimal n)

abbrev pub answer_line : ℕ → Answer → List ℕ
answer_line asked a = answer_text asked a ++ newline
