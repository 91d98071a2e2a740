-- The law of a turn that was taken: the card is then further read, or doesn't go on. Assumes nothing.
use Rattle.std.proofs.Common.{◌≡◌, sym, ◌∙◌, Result, Ok, Err, IsErr, MatchResult, Option, List, ℕ, ◌≤◌, ◌<◌, take, true, false}
use mathlib.Core.Logic.{⊎_elim}
use Rattle.model.specs.Words.{Words}
use Rattle.sheet_card.specs.declared.Progress.{Progress}
use Rattle.sheet_card.specs.Turns.{turn_of, limit}
use Rattle.sheet_card.proofs.Turns.{Next, next-turn}
use Rattle.sheet.specs.declared.Came.{Came}
use Rattle.sheet.specs.declared.Told.{Told}
use Rattle.sheet.specs.Reading.{end_of, Printed, TurnTaken}

no-error : {r : Result (Option Progress) Told} {q : Option Progress} → r ≡ Ok q → IsErr r → ⊥
no-error e f = let g : false ≡ true = rw e at f in cc

module _ (p : Progress) (h : p.records ≤ p.offset) (l : p.offset < limit) {r : Result (Option Progress) Told} {q : Option Progress} (e : r ≡ Ok q) where
  answered-next : (m n : Words) (bytes line after : List ℕ) (came : Result Came Told)
      → MatchResult came
      (λ c. let t = turn_of m p (take (end_of c) bytes) in Printed line after t.line t.next r × (n ≡ t.store))
      (λ x. (after ≡ line) × (n ≡ m) × (r ≡ Err x))
      → Next p q
  answered-next m n bytes line after (Ok c) a =
      ⊎_elim
      (λ f. let g : Ok q ≡ Ok (turn_of m p (take (end_of c) bytes)).next = sym e ∙ f in
      let k : q ≡ (turn_of m p (take (end_of c) bytes)).next = cc in
      next-turn m p (take (end_of c) bytes) h l q k)
      (λ f. absurd (no-error e f))
      a.0.answer
  answered-next m n bytes line after (Err x) a = let g : Ok q ≡ Err x = sym e ∙ a.2 in absurd (cc)

  pub taken_next : {m n : Words} {bytes line after : List ℕ} → TurnTaken m n p r bytes line after → Next p q
  taken_next {m} {n} {bytes} {line} {after} t = answered-next m n bytes line after t.came t.answered
