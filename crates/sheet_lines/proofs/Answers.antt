-- An answer's line is one line: it ends at its last byte and nowhere before. Assumes nothing.
use mathlib.Core.Path.{◌≡◌, refl}
use mathlib.Core.Bool.{Bool, true, false, cond}
use mathlib.Core.List.{List, [], ◌∷◌, ◌++◌}
use Prim.Native.Nat.{ℕ}
use lib.IntN.{ℤ}
use lib.Signed.{non_neg}
use lib.Ieee.{binary32, to_bits}
use Rattle.matching.specs.declared.MatchResult.{MatchResult}
use Rattle.matching.specs.declared.TimeOffset.{TimeOffset}
use Rattle.model.specs.Calls.{Answer, built, stored, removed, count, best, nothing, refused}
use Rattle.sheet_text.specs.Bytes.{decimal, signed, float_bits, field, is_newline, Plain}
use Rattle.sheet_text.proofs.Newlines.{join-plain, decimal-plain, signed-plain, hex-plain}
use Rattle.sheet_lines.specs.Lines.{place, flag, offset_text, match_text, answer_text}

-- a field behind a text
more : (s t : List ℕ) → Plain s → Plain t → Plain (s ++ field t)
more s t a b = join-plain s (field t) a (refl, b)

place-plain : (z : ℤ) → is_newline (place z) ≡ false
place-plain z = by (non_neg z)
  where
    by : (b : Bool) → is_newline (cond b 73 69) ≡ false
    by true = refl
    by false = refl

flag-plain : (b : Bool) → is_newline (flag b) ≡ false
flag-plain true = refl
flag-plain false = refl

offset-plain : (t : TimeOffset) → Plain (offset_text t)
unfolding offset_text
offset-plain t =
    more (field (signed t.frames) ++ field (signed t.ms)) (place t.frames ∷ [])
    (more (field (signed t.frames)) (signed t.ms) (refl, signed-plain t.frames) (signed-plain t.ms))
    (place-plain t.frames, tt)

match-plain : (id : ℕ) (r : MatchResult) → Plain (match_text id r)
unfolding match_text
match-plain id r =
    let a = more (77 ∷ []) (decimal id) (refl, tt) (decimal-plain id) in
    let b = more (77 ∷ [] ++ field (decimal id)) (decimal r.votes) a (decimal-plain r.votes) in
    let c = more (77 ∷ [] ++ field (decimal id) ++ field (decimal r.votes)) (float_bits r.score) b (hex-plain 8 (to_bits binary32 r.score)) in
    let d =
    more (77 ∷ [] ++ field (decimal id) ++ field (decimal r.votes) ++ field (float_bits r.score)) (float_bits r.prominence) c
    (hex-plain 8 (to_bits binary32 r.prominence)) in
    join-plain (77 ∷ [] ++ field (decimal id) ++ field (decimal r.votes) ++ field (float_bits r.score) ++ field (float_bits r.prominence))
    (offset_text r.offset) d (offset-plain r.offset)

pub answer-plain : (asked : ℕ) (a : Answer) → Plain (answer_text asked a)
answer-plain asked built = tt
answer-plain asked (stored id) = more (65 ∷ []) (decimal id) (refl, tt) (decimal-plain id)
answer-plain asked (removed b) =
    more (68 ∷ [] ++ field (decimal asked)) (flag b ∷ []) (more (68 ∷ []) (decimal asked) (refl, tt) (decimal-plain asked)) (flag-plain b, tt)
answer-plain asked (count n) = tt
answer-plain asked (best id r) = match-plain id r
answer-plain asked nothing = (refl, tt)
answer-plain asked (refused n) = more (82 ∷ []) (decimal n) (refl, tt) (decimal-plain n)
