use mathlib.Core.Path.{◌≡◌, refl, sym, ap₂, ◌∙◌}
use Rattle.hough.specs.Hough.{dist, gap, offset}
use Rattle.hough.proofs.Places.{apart-is}
use Rattle.hough.proofs.Keyed.is_far.Goals as goal

pub returns : goal.returns
returns c =
    let b = c.args.self in
    let e : c.abs_diff-frames.result ≡ gap (offset b.s.now c.args.a) (offset b.s.now c.args.i)
    = c.abs_diff-frames.ensures ∙ ap₂ dist c.place.ensures.0 c.place-2.ensures.0 ∙ sym (apart-is b.s.now b.n b.bins c.args.a c.args.i c.requires.1 c.requires.2) in
    rw (e, c.abs_diff-scales.ensures ∙ ap₂ dist c.scale.ensures.0 c.scale-2.ensures.0) refl
