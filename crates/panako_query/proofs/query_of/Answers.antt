-- What every candidate is judged with, by its parts.
use Rattle.panako_query.proofs.Queries.{query-parts}
use Rattle.panako_query.proofs.query_of.Goals as goal

pub returns : goal.returns
returns c = query-parts (record { cfg = c.args.cfg; rate = c.args.frames_per_sec }) c.args.hashes.now c.normalize_config.result c.normalize_config.ensures
