-- The definition takes the same steps.
use lib.Ieee.{of_bits}
use Rattle.panako_vote.specs.Grids.{grid_of}
use Rattle.panako_vote.proofs.Limits.{grid-limited}
use Rattle.panako_vote.proofs.scale_grid.Goals as goal

pub returns-clause-value : goal.returns-clause-value
unfolding grid_of of_bits
returns-clause-value c =
    rw (c.scale_bin-unit_bin.ensures, c.saturating_sub-last_bin.ensures, c.scale_per_bin-scale_per_bin.ensures, c.f32_to_f64_with_nan-scale_max.ensures, c.f32_to_f64_with_nan-scale_min.ensures)

pub returns-clause-limited : goal.returns-clause-limited
returns-clause-limited c = (grid-limited _ c.args.cfg (returns-clause-value c)).1
