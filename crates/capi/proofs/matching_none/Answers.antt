-- The words of a result that is `NONE`. Assumes nothing.
use Rattle.std.proofs.Common.{◌≡◌, ◌∙◌, ℕ, [], ◌∷◌, w64, to_z, of_z}
use lib.Ieee.{binary32, to_bits}
use Rattle.matching.specs.declared.MatchResult.{MatchResult}
use Rattle.matching.specs.Results.{no_match}
use mir.Val.{bool_byte}
use Rattle.capi.specs.Codes.{twos_complement, no_match_words}
use Rattle.capi.proofs.matching_none.Goals as goal

none_words : (m : MatchResult) (match votes score prominence frames ms scale : ℕ) → m ≡ no_match → match ≡ bool_byte m.is_match → votes ≡ m.votes
    → score ≡ to_bits binary32 m.score → prominence ≡ to_bits binary32 m.prominence → frames ≡ twos_complement (to_z w64 (of_z w64 m.offset.frames))
    → ms ≡ twos_complement (to_z w64 (of_z w64 m.offset.ms)) → scale ≡ to_bits binary32 m.time_scale
    → match ∷ votes ∷ score ∷ prominence ∷ frames ∷ ms ∷ scale ∷ 0 ∷ [] ≡ no_match_words
unfolding to_bits
none_words m match votes score prominence frames ms scale e a v b c d f g = rw (a, v, b, c, d, f, g, e)

pub returns : goal.returns
returns c =
    none_words c.no_match-m.result _ _ _ _ _ _ _ c.no_match-m.ensures c.from.ensures c.from-2.ensures (c.from-3.ensures ∙ c.f32_to_bits.ensures)
    (c.from-4.ensures ∙ c.f32_to_bits-2.ensures) c.word_of.ensures c.word_of-2.ensures (c.from-5.ensures ∙ c.f32_to_bits-3.ensures)
