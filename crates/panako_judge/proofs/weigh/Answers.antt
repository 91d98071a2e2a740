-- The peak is the one that is seen; what the calls yield is what is seen of it.
use Rattle.std.proofs.Common.{◌≡◌, List, ℤ, ◌*◌, take, rules, refl, sym, ap, ◌∙◌}
use Rattle.matching.specs.Scores.{score_of}
use Rattle.hough.specs.Hough.{scale, peak_offset, prominence}
use Rattle.hough.specs.declared.Peak.{Peak}
use Rattle.gates.specs.Gates.{result_at}
use Rattle.panako_judge.specs.Judge.{Seen, seen_of, at_peak, time_scale_of, result_of}
use Rattle.panako_judge.proofs.Gates.{peak-found, prominence-found, score-found, result-found}
use Rattle.panako_judge.proofs.weigh.Goals as goal

pub returns : goal.returns
returns c =
    let q = c.args.q in
    let n = c.args.n in
    let l : List ℤ = take (3 * n) c.args.s.now in
    let seen : Seen = seen_of q l n in
    let p : Peak = c.panako_hough_peak-peak.result in
    let tol = c.tolerance-tol.result in
    let te = c.tolerance-tol.ensures in
    let pe = c.panako_hough_peak-peak.ensures.value in
    let e = rw c.thresholds.ensures at c.weigh.ensures in
    e (at_peak seen) (result_of q c.args.fps seen) (sym (ap (λ (x : Peak). x.votes) (peak-found q l n tol te p pe)))
    (λ x h. let k : x ≡ prominence l n tol p.votes p.at = search rules in prominence-found q l n tol te p pe x k)
    (λ x h. let k : x ≡ score_of p.votes q.q_len = search rules in score-found q l n tol te p pe x k)
    (λ x h.
    let k : x ≡ result_at (at_peak seen) (peak_offset l n q.cfg.offset_tolerance_frames p.at) c.args.fps (time_scale_of q.cfg (scale l p.at)) = search rules in
    k ∙ result-found q l n tol te p pe (at_peak seen) c.args.fps refl)
