-- `matching::frames_per_sec_compatible` meets its contract: `proofs/Rates.antt` has each way. Assumes nothing.
use Rattle.std.proofs.Common.{◌≡◌, true, false, ◌∙◌, ap₂}
use lib.Ieee.Positive.{positive}
use lib.Ieee.{binary32, sub}
use Rattle.floats.specs.Selection.{abs, maximum}
use Rattle.floats.proofs.Library.{signless-abs}
use Rattle.matching.proofs.Rates.{thousandth-is, agree-both, agree-not-first, agree-not-second}
use Rattle.matching.proofs.frames_per_sec_compatible.Goals as goal
use Rattle.matching.proofs.frames_per_sec_compatible.Goals.{else-is_rate-via-then-is_rate+else-is_rate-2, else-is_rate-via-else-is_rate}

pub returns-then-is_rate-2 : goal.returns-then-is_rate-2
returns-then-is_rate-2 c =
    let a = c.args.a in
    let b = c.args.b in
    let p : positive a ≡ true = cc in
    let q : positive b ≡ true = cc in
    let larger : c.max_f32-scale.result ≡ maximum (abs a) (abs b) =
    c.max_f32-scale.ensures ∙ ap₂ maximum (c.abs.ensures.value ∙ signless-abs a) (c.abs-then-is_rate-2.ensures.value ∙ signless-abs b) in
    let between : c.abs-then-is_rate-2-2.result ≡ abs (sub binary32 a b) = c.abs-then-is_rate-2-2.ensures.value ∙ signless-abs (sub binary32 a b) in
    rw thousandth-is (agree-both a b c.abs-then-is_rate-2-2.result c.max_f32-scale.result p q between larger)

pub returns : goal.returns
returns c =
    elim c.else-is_rate.branch [
      | else-is_rate-via-then-is_rate+else-is_rate-2 w ↦ (let q : positive c.args.b ≡ false = cc in agree-not-second c.args.a c.args.b q)
      | else-is_rate-via-else-is_rate w ↦ (let p : positive c.args.a ≡ false = cc in agree-not-first c.args.a c.args.b p)
    ]
