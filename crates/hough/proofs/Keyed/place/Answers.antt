use mathlib.Core.Path.{refl}
use mir.ValLaws.{to_z-of_z}
use mir.Syntax.{w64}
use Rattle.hough.specs.Keys.{place}
use Rattle.hough.proofs.Places.{place-small, place-fits, offset-small}
use Rattle.hough.proofs.Keyed.place.Goals as goal

pub returns : goal.returns
unfolding place
returns c =
    let b = c.args.self in
    let p = place-fits b.s.now b.n b.bins c.args.i c.requires in
    rw (to_z-of_z w64 _ (offset-small b.s.now b.n b.bins c.args.i c.requires), to_z-of_z w64 _ (place-small b.s.now b.n b.bins c.args.i c.requires)) (refl, p.1, p.2)
