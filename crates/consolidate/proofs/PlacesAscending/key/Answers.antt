use borrow.Author.Rules.{rules}
use mir.Syntax.{w64}
use mir.Val.{SFits}
use mir.ValLaws.{to_z-of_z}
use Rattle.consolidate.proofs.Spans.{place-small, place-fits}
use Rattle.consolidate.proofs.Peaks.{offset-fits}
use Rattle.consolidate.proofs.PlacesAscending.key.Goals as goal

pub overflow_cast-result : goal.overflow_cast-result
overflow_cast-result c =
    let b = c.args.self in
    let f : SFits w64 b.low = search rules in
    rw (to_z-of_z w64 _ (offset-fits b.s.now b.n c.args.i b.placed.bins c.requires), to_z-of_z w64 b.low f, to_z-of_z w64 _ (place-small b.s.now b.low b.n b.placed c.args.i c.requires))
    (b.placed.above c.args.i c.requires, place-fits b.s.now b.low b.n b.placed c.args.i c.requires)
