use Rattle.std.proofs.Common.{◌≡◌, pos, get_or, to_z, of_z, w64, arith, rules}
use Rattle.maps.proofs.Tests.{when-le}
use Rattle.maps.proofs.Lists.{count-start, count-step}
use Rattle.bins.proofs.Flags.{flag-is}
use Rattle.main_votes.specs.Main.{has_lead}
use Rattle.main_votes.proofs.count_lead.Goals as goal

pub loop-word-init : goal.loop-word-init
loop-word-init c = (omega arith, count-start _ c.args.s.now)

pub loop-word-preserved : goal.loop-word-preserved
loop-word-preserved c =
    let a = c.args in
    let l = c.loop-word in
    let v : to_z w64 (of_z w64 (get_or a.s.now l.word-index (pos 0))) ≡ get_or a.s.now l.word-index (pos 0) = search rules in
    let e = rw (c.of.ensures, v, flag-is) at c.from-n.ensures in
    let b = when-le (has_lead a.lead.low a.lead.bits a.x (get_or a.s.now l.word-index (pos 0))) in
    (omega arith, count-step _ (pos 0) a.s.now l.word-index l.n _ (omega arith) l.invariant.1 e)
