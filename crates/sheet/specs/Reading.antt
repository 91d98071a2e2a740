-- The program sheet: what it knows of a read, and what a turn then does. What is read, and what is written, no contract can say. Definitions only.
-- Assumes nothing.
use Rattle.std.specs.Prelude.{Result, Ok, Err, IfOk, IsErr, MatchResult, Option, ◌≡◌, ◌⊎◌, List, ℕ, ◌+◌, ◌≤◌, ◌<◌, take}
use Rattle.model.specs.Words.{Words}
use Rattle.sheet_text.specs.Put.{Put}
use Rattle.sheet_card.specs.declared.Progress.{Progress}
use Rattle.sheet_card.specs.Turns.{turn_of, body_length, version_fits, start_line, started}
use Rattle.sheet.specs.declared.Came.{Came}
use Rattle.sheet.specs.declared.Came.TheVariants.{All, Fewer}
use Rattle.sheet.specs.declared.Told.{Told}

-- where the bytes that came end
abbrev pub end_of : Came → ℕ
end_of (All n) = n
end_of (Fewer n) = n

-- all came, or fewer, where the input ended
abbrev pub Reaches : ℕ → Came → Type 0
Reaches end (All n) = n ≡ end
Reaches end (Fewer n) = n < end

-- the bytes from start to end were asked for, and those up to `end_of came` came
pub record Asked (start end : ℕ) (came : Came) : Type 0 where
  pub from : start ≤ end_of came
  pub reaches : Reaches end came

-- a text was put at the beginning of the line's buffer, and it is answered how far the card has then been read, or, where the text wasn't taken, an error
pub record Printed (line after text : List ℕ) (next : Option Progress) (r : Result (Option Progress) Told) : Type 0 where
  pub end : ℕ
  pub put : Put line after 0 end text
  pub answer : (r ≡ Ok next) ⊎ IsErr r

-- the version byte was asked for, and where it is wrong a fault's line is printed. Where the read failed the line's buffer is as it was.
pub record VersionRead (r : Result (Option Progress) Told) (bytes line after : List ℕ) : Type 0 where
  pub came : Result Came Told
  pub asked : IfOk came (Asked 0 1)
  pub answered : MatchResult came
      (λ c. let fits = version_fits (take (end_of c) bytes) in Printed line after (start_line fits) (started fits) r)
      (λ e. (after ≡ line) × (r ≡ Err e))

-- from store m to store n and from progress p: a record with its length field was asked for, its bytes stand at the beginning of `bytes`, and line, store
-- and progress are those of the turn on the bytes that came. Where the read failed the line's buffer and the store are as they were.
pub record TurnTaken (m n : Words) (p : Progress) (r : Result (Option Progress) Told) (bytes line after : List ℕ) : Type 0 where
  pub came : Result Came Told
  pub asked : IfOk came (Asked 0 (4 + body_length (take 4 bytes)))
  pub answered : MatchResult came
      (λ c. let t = turn_of m p (take (end_of c) bytes) in Printed line after t.line t.next r × (n ≡ t.store))
      (λ e. (after ≡ line) × (n ≡ m) × (r ≡ Err e))
