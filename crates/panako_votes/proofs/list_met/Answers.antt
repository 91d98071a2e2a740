-- Assumes nothing.
use Rattle.std.proofs.Common.{◌≡◌, ltb, get_or, arith, rules}
use Rattle.maps.specs.Sums.{when}
use Rattle.panako_votes.proofs.Listing.{listed-none, listed-few, listed_more}
use Rattle.panako_votes.proofs.list_met.Goals as goal

pub loop-i-init : goal.loop-i-init
loop-i-init c = (listed-none c.args.starts.now c.args.ends.now c.args.which.now, omega arith)

pub loop-i-preserved : goal.loop-i-preserved
loop-i-preserved c =
    let l = c.loop-i in
    let met : c.from-k.result ≡ when (ltb (get_or c.args.starts.now l.i 0) (get_or c.args.ends.now l.i 0)) 1 = search rules in
    let more = listed_more c.args.starts.now c.args.ends.now l.which l.i l.k l.invariant.0 c.from-k.result (omega arith) met in
    (more, listed-few c.args.starts.now c.args.ends.now _ _ _ more)
