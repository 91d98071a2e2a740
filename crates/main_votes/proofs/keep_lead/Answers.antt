use Rattle.std.proofs.Common.{◌≡◌, pos, get_or, to_z, of_z, w64, arith, rules}
use Rattle.bins.proofs.Flags.{flag-is}
use Rattle.main_votes.proofs.Kept.{kept-none, kept_more}
use Rattle.main_votes.proofs.keep_lead.Goals as goal

pub loop-i-init : goal.loop-i-init
loop-i-init c = kept-none _ c.args.s.now

pub loop-i-preserved : goal.loop-i-preserved
loop-i-preserved c =
    let l = c.loop-i in
    let v : to_z w64 (of_z w64 (get_or l.s l.i (pos 0))) ≡ get_or l.s l.i (pos 0) = search rules in
    let e = rw (c.of.ensures, v, flag-is) at c.from-more.ensures in
    kept_more _ c.args.s.now l.s l.n l.i _ _ (omega arith) v e l.invariant
