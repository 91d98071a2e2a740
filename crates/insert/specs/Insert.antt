-- What a call of insert answers and leaves. Definitions only. Assumes nothing.
use Rattle.std.specs.Prelude.{◌≡◌, Bool, true, false, ◌&&◌, List, ℕ, ◌-◌, ◌/◌, ◌≤◌, Result, Ok, Err, length, get_or, eqb}
use Rattle.refusals.specs.declared.Refusal.{Refusal}
use Rattle.refusals.specs.Numbers.{number_of}
use Rattle.model.specs.Fingerprints.{malformed, reference_most}
use Rattle.model.specs.Rows.{is_set}
use Rattle.model.specs.Calls.{Answer, stored, refused}
use Rattle.model.specs.Words.{Words, slices_listed, head_width, row_width}
use Rattle.model.specs.Soundness.{sound_words}

-- "Every answer is a case: .. stored with an id .. or refused with a number."
abbrev pub insertion_answer : Result ℕ Refusal → Answer
insertion_answer (Ok id) = stored id
insertion_answer (Err r) = refused (number_of r)

-- refusal 5: "v = 0 and n = R"
unfoldable pub no_row : List ℕ → Bool
no_row rs = eqb (get_or rs 1 0) 0 && eqb (get_or rs 0 0) ((length rs - head_width) / row_width)

-- refusals 1, 2, 3, 9 and 5 do not apply
pub record Ready (w : ℕ) (m : Words) (hashes : List ℕ) (set : ℕ) : Type 0 where
  pub wide : 3 ≤ w
  pub narrow : w ≤ 5
  pub is-listed : slices_listed w m ≡ true
  pub is-sound : sound_words w m ≡ true
  pub formed : malformed w reference_most hashes ≡ false
  pub of-set : is_set set ≡ true
  pub row-left : no_row m.references ≡ false
