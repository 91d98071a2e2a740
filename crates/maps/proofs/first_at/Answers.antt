-- `maps::first_at` meets its contract. Assumes nothing.
use mathlib.Core.Path.{sym}
use Rattle.maps.proofs.Entries.{split-first}
use Rattle.maps.proofs.first_at.Goals as goal

pub returns : goal.returns
returns c =
    let a = c.args in
    sym (split-first a.posts.now a.w a.p a.key _ c.search.ensures)
