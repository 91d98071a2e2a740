-- Demand 3 for PanakoIndex: what a new recording, a removal, or a corrected take, can do to the answers of a query. Definitions only. Assumes nothing.
--
-- In the audiologist's words it is what crate `wang`, specs/Demand3.antt, says of WangIndex.
--
-- The engineer's words for this are in crate `model`, specs/Claim.antt: `Claim` is one statement over any list of build, insert, remove,
-- replace, live_count and query calls, refused ones included, made one after the other on any three slices of words. What is live, held and
-- stopped is said by the store handed in, and then by the calls and their answers alone. `run panako` is what the contracts of
-- `PanakoIndex::build`, `insert`, `remove`, `replace`, `live_count` and `query` equal (src/lib.rt). proofs/Demand3.antt proves it.
use Rattle.model.specs.Claim.{Claim}
use Rattle.panako_judge.specs.Scheme.{panako}

abbrev pub PanakoClaim : Type 0
PanakoClaim = Claim panako
