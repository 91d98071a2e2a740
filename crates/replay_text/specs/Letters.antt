-- The letters of lines on slices and the answer. Definitions only. Assumes nothing.
use Rattle.std.specs.Prelude.{◌≡◌, ℕ, Result, MatchResult, Bool, false, ◌||◌, eqb}
use Rattle.replay_text.specs.declared.contents.Contents.{Contents}
use Rattle.replay_text.specs.declared.contents.Contents.TheVariants.{Answer, References, Postings, Stopped, NewReferences, NewPostings, NewStopped}
use Rattle.replay_text.specs.declared.contents.UnknownLetter.{UnknownLetter}

abbrev pub letter_of : Contents → ℕ
letter_of Answer = 65
letter_of References = 82
letter_of Postings = 80
letter_of Stopped = 75
letter_of NewReferences = 114
letter_of NewPostings = 112
letter_of NewStopped = 107

-- is it a letter of such a line?
abbrev pub is_letter : ℕ → Bool
is_letter b = eqb b 65 || (eqb b 82 || (eqb b 80 || (eqb b 75 || (eqb b 114 || (eqb b 112 || eqb b 107)))))

-- the result is the line with this letter, or the letter, which no such line has
abbrev pub Decodes : ℕ → Result Contents UnknownLetter → Type 0
Decodes b r = MatchResult r (λ contents. letter_of contents ≡ b) (λ e. (e.0 ≡ b) × (is_letter b ≡ false))
