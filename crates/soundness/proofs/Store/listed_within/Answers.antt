-- `soundness::Store::listed_within` meets its contract. Assumes nothing.
use Rattle.std.proofs.Common.{sym, ◌∙◌}
use Rattle.std.proofs.lemmas.Result.{err_from_is_err_and}
use Rattle.soundness.proofs.Refusal.{scan-fails, scan-ends, scan-stops, scan-passes}
use Rattle.soundness.proofs.Store.listed_within.Goals.{then-not-ends-via-then-not-ends, then-not-ends-via-else-not-ends+then-not-stops_sound}
use Rattle.soundness.proofs.Store.listed_within.Goals as goal

pub returns-in_err-own-clause-number_value : goal.returns-in_err-own-clause-number_value
returns-in_err-own-clause-number_value c =
    let p = err_from_is_err_and c.from_residual.result c.from_residual.ensures.1 in
    rw (p.1, p.2) (scan-fails _ _ _ _ _ _ _ _ (sym c.are_sound.ensures ∙ c.if-not-are_sound.false) c.in_err-own.field-0.0 c.in_err-own.ensures.found)

pub returns-then-not-ends-clause-number_value : goal.returns-then-not-ends-clause-number_value
returns-then-not-ends-clause-number_value c =
    let a = c.args in
    let rows = sym c.are_sound.ensures ∙ c.if-not-are_sound.false in
    elim c.then-not-ends.branch [
      | then-not-ends-via-then-not-ends w ↦
          sym (scan-ends a.self.width a.self.refs.now a.c.rows a.c.vacant a.self.posts.now a.c.postings a.self.stops.now a.c.stopped rows c.in_ok-own.ensures.found (sym c.is_zero_from-ends.ensures ∙ w.if-not-ends.true))
      | then-not-ends-via-else-not-ends+then-not-stops_sound w ↦
          sym (scan-stops a.self.width a.self.refs.now a.c.rows a.c.vacant a.self.posts.now a.c.postings a.self.stops.now a.c.stopped rows c.in_ok-own.ensures.found (sym c.is_zero_from-ends.ensures ∙ w.if-not-ends.false) (sym w.stops_sound.ensures ∙ w.if-not-stops_sound.true))
    ]

pub returns-clause-number_value : goal.returns-clause-number_value
returns-clause-number_value c =
    let a = c.args in
    sym (scan-passes a.self.width a.self.refs.now a.c.rows a.c.vacant a.self.posts.now a.c.postings a.self.stops.now a.c.stopped (sym c.are_sound.ensures ∙ c.if-not-are_sound.false) c.in_ok-own.ensures.found (sym c.is_zero_from-ends.ensures ∙ c.if-not-ends.false) (sym c.stops_sound.ensures ∙ c.if-not-stops_sound.false))
