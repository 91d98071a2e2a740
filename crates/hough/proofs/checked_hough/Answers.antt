use mathlib.Core.Path.{refl, sym}
use Rattle.hough.specs.Limits.{checked_answer}
use Rattle.hough.proofs.Checks.{hough-of}
use Rattle.hough.proofs.checked_hough.Goals as goal

pub answer_of-requires : goal.answer_of-requires
answer_of-requires c = hough-of _ _ _ (sym c.if-hough_ok.ensures)

pub returns-then-hough_ok-clause-value : goal.returns-then-hough_ok-clause-value
unfolding checked_answer
returns-then-hough_ok-clause-value c = rw (sym c.if-hough_ok.ensures, c.answer_of.ensures.value) refl

pub returns-clause-value : goal.returns-clause-value
unfolding checked_answer
returns-clause-value c = rw (sym c.if-hough_ok.ensures) refl
