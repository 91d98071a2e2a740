-- `postings::Entries::others` meets its contract. Assumes nothing.
use Rattle.std.proofs.Common.{◌≡◌, ◌+◌, ◌*◌, ◌≤◌, not, cond, eqb, get_or, sym, arith, ◌∙◌}
use Rattle.postings.proofs.Compact.{others-none, others-more, flagged, flag-le}
use Rattle.postings.proofs.Entries.others.Goals as goal

pub loop-i-init : goal.loop-i-init
loop-i-init c = (sym (others-none _ _ _ _), omega arith)

pub loop-i-preserved : goal.loop-i-preserved
loop-i-preserved c =
    let s = c.args.self in
    let m = others-more s.width s.field c.args.x s.words.now c.loop-i.i s.within.field in
    let r : c.from-c.result ≡ cond (eqb c.args.x (get_or s.words.now (s.width * c.loop-i.i + s.field) 0)) 0 1 = c.from-c.ensures ∙ (flagged c.word.result c.args.x ∙ rw c.word.ensures) in
    let one : c.from-c.result ≤ 1 = rw c.from-c.ensures (flag-le (not (eqb c.word.result c.args.x))) in
    (omega (arith, r, m, c.loop-i.invariant.0), omega (arith, one, c.loop-i.invariant.1))
