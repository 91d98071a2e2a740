use Rattle.std.proofs.Common.{◌≡◌, ◌+◌, ap, ◌∙◌, to_z, of_z, w64, pos, get_or, arith, rules}
use Rattle.bins.specs.Codes.{code_in}
use Rattle.bins.proofs.Binning.{binning-none, binning-more}
use Rattle.bins.proofs.count_sorted.Goals as goal

pub loop-i-init : goal.loop-i-init
loop-i-init c = let a = c.args in binning-none a.f a.middle a.s.now a.a a.g a.at

pub loop-i-preserved : goal.loop-i-preserved
loop-i-preserved c =
    let a = c.args in
    let l = c.loop-i in
    let v : to_z w64 (of_z w64 (get_or l.s (a.a + l.i) (pos 0))) ≡ get_or l.s (a.a + l.i) (pos 0) = search rules in
    binning-more a.f a.middle a.s.now l.s a.a a.g a.at l.i l.n l.j c.requires.0 l.invariant (omega arith) _ (rw (c.lead.ensures.0, c.lead.ensures.1) at c.run_end.ensures)
    c.put_bin-j.new.s _ _ (c.code_of-x.ensures.0 ∙ ap (code_in a.f) v) c.put_bin-j.ensures.0 c.put_bin-j.ensures.1
