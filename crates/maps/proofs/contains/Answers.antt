-- `maps::contains` meets its contract. Assumes nothing.
use Rattle.std.proofs.Common.{take, ◌∙◌}
use Rattle.std.proofs.lemmas.List.Sorted.{searched}
use Rattle.maps.proofs.Members.{found-member, rising}
use Rattle.maps.proofs.contains.Goals as goal

pub returns : goal.returns
returns c =
    c.is_ok.ensures.value
    ∙ found-member c.args.s.now c.args.n c.args.key c.binary_search.result c.requires.0
    (searched (take c.args.n c.args.s.now) c.args.key c.binary_search.result c.binary_search.ensures.position (rising c.args.s.now c.args.n c.requires.1))
