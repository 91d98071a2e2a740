-- A build's answer as document 01's cases, its refusal, and its rows. Definitions only. Assumes nothing.
use Rattle.std.specs.Prelude.{List, ℕ, Result, Ok, Err, ⊤, length, get_or, take}
use Rattle.lists.specs.Lists.{sum}
use Rattle.build_ranges.specs.Codes.{tabulate}
use Rattle.build_entries.specs.Laid.{row_for}
use Rattle.model.specs.Fingerprints.{fingerprints_of, malformed_build}
use Rattle.model.specs.Calls.{Answer, built, refused, refusal, number_of, build_tests}
use Rattle.model.specs.Words.{Words, sizes_of}
use Rattle.model.specs.Run.{store_of}
use Rattle.refusals.specs.declared.Refusal.{Refusal}
use Rattle.refusals.specs.Numbers as refusals

-- "Every answer is a case: built, .. or refused with a number."
abbrev pub building_answer : Result ⊤ Refusal → Answer
building_answer (Ok u) = built
building_answer (Err r) = refused (refusals.number_of r)

-- why a build is refused: "The lowest number that applies is returned."
unfoldable pub build_refusal : ℕ → Words → ℕ → List ℕ → List ℕ → List ℕ → List ℕ → ℕ
build_refusal w m limit hashes lengths rates sets =
    number_of (refusal (build_tests (sizes_of w m) (store_of w m) (malformed_build w hashes lengths rates sets) limit (fingerprints_of w hashes lengths rates sets)))

-- the rows of all recordings
abbrev pub rows_for : List ℕ → ℕ → List ℕ → List ℕ → List ℕ → List (List ℕ)
rows_for hashes w lengths rates sets = tabulate (λ i. row_for hashes w (sum (take i lengths)) (get_or lengths i 0) (get_or rates i 0) (get_or sets i 0)) (length lengths)
