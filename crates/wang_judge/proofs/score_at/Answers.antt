-- The distinct positions that `bins` counts over places are those that the votes' counts tell of.
use Rattle.std.proofs.Common.{length, arith}
use Rattle.maps.proofs.Words.{word-is}
use Rattle.wang_judge.proofs.Peaks.{distinct-at}
use Rattle.wang_judge.proofs.score_at.Goals as goal

pub returns : goal.returns
returns c =
    let e = distinct-at c.args.q.q_max c.args.votes.now 0 (length c.args.votes.now) c.args.q.cfg.offset_tolerance_frames c.args.centre c.args.q.q_len (omega arith) c.requires.2 in
    let w = word-is c.args.centre c.ranges.centre in
    cc
