-- `build_entries::Recordings::row` meets its contract. Assumes nothing.
use Rattle.std.proofs.Common.{cond, get_or, List, arith, ap, ◌∙◌}
use Rattle.model.specs.Fingerprints.{Hash}
use Rattle.model.specs.Rows.{has_rmax, largest_anchor}
use Rattle.build_entries.proofs.Rows.{part-hashes}
use Rattle.build_entries.proofs.Recordings.row.Goals as goal

pub returns : goal.returns
returns c =
    let a = c.args in
    (c.row_of.ensures.0, c.row_of.ensures.1 ∙ ap (λ (l : List Hash). cond (has_rmax a.self.arrivals.width) (largest_anchor l) 0) (part-hashes a.self.arrivals.hashes.now a.self.arrivals.width a.start (get_or a.self.arrivals.lengths.now a.i 0) (omega (arith, a.self.wide)) c.requires.1), c.row_of.ensures.2)
