use Rattle.std.proofs.Common.{◌≡◌, ◌∙◌, length, pos, get_or, to_z, of_z, w64, true, false, sym, eqb-true, arith, rules}
use Rattle.std.proofs.Math.Seq.{take_all}
use Rattle.main_votes.proofs.Mains.{main-empty, main-whole}
use Rattle.main_votes.proofs.keep_main.Goals as goal

pub returns-then-is_empty : goal.returns-then-is_empty
returns-then-is_empty c =
    let a = c.args in
    (main-empty a.lead.low a.lead.bits a.least a.s.now (eqb-true (length a.s.now) 0 (sym c.if-is_empty.ensures)), omega arith)

pub returns-then-others-least : goal.returns-then-others-least
returns-then-others-least c =
    let a = c.args in
    let v : to_z w64 (of_z w64 (get_or a.s.now 0 (pos 0))) ≡ get_or a.s.now 0 (pos 0) = search rules in
    (c.keep_lead.ensures.0 ∙ main-whole a.lead.low a.lead.bits a.least a.s.now _ _ (rw v at c.of-x.ensures) c.count_lead.ensures.0 true c.if-others-least.true, c.keep_lead.ensures.1)

pub returns : goal.returns
returns c =
    let a = c.args in
    let v : to_z w64 (of_z w64 (get_or a.s.now 0 (pos 0))) ≡ get_or a.s.now 0 (pos 0) = search rules in
    let m = main-whole a.lead.low a.lead.bits a.least a.s.now _ _ (rw v at c.of-x.ensures) c.count_lead.ensures.0 false c.if-others-least.false in
    (take_all (length a.s.now) a.s.now (omega arith) ∙ m, omega arith)
