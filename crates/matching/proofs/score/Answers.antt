use Rattle.matching.specs.Scores.{score_of}
use Rattle.matching.proofs.score.Goals as goal

pub returns : goal.returns
unfolding score_of
returns c = rw (c.clamp_score.ensures, c.u64_to_f32-2.ensures, c.u64_to_f32.ensures, c.max.ensures)
