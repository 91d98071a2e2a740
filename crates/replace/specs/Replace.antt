-- When a recording may be replaced, room aside. Definitions only. Assumes nothing.
use Rattle.std.specs.Prelude.{◌≡◌, true, false, List, ℕ, ◌≤◌, get_or}
use Rattle.model.specs.Fingerprints.{malformed, reference_most}
use Rattle.model.specs.Words.{Words, slices_listed}
use Rattle.model.specs.Soundness.{live_id, sound_words}

-- refusals 1, 2, 3 and 10 do not apply
pub record Replaceable (w : ℕ) (m : Words) (hashes : List ℕ) (id : ℕ) : Type 0 where
  pub wide : 3 ≤ w
  pub narrow : w ≤ 5
  pub is-listed : slices_listed w m ≡ true
  pub is-sound : sound_words w m ≡ true
  pub formed : malformed w reference_most hashes ≡ false
  pub live : live_id m.references (get_or m.references 0 0) id ≡ true
