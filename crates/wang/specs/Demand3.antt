-- Demand 3 for WangIndex: what a new recording, a removal, or a corrected take, can do to the answers of a query. Definitions only. Assumes nothing.
--
-- In the audiologist's words. Every row of your sheets was written under the list that the box named. In spring you add four lists. Play
-- an old recording of a session again, and the box names the list that it named before, or it names one of the four new lists; a new
-- one only because that list itself has a match that passes every gate and ranks above the old one (a higher score; at equal scores a
-- higher prominence; at equal prominences a lower number). It never moves a row from one old list to another, and never to "none". When
-- you take a list out, the rows that named other lists, or none, stay as they are. When you swap a list for a corrected take, in one call,
-- the list keeps its number, and it is as if you had taken it out and then added it: rows that named other lists, or none, name what they named, or
-- the corrected list, if it now ranks above. Two things are to be known with this. If the new
-- lists bring more votes than the box has room for, it refuses the query (R 8) and names nothing. And if a new list is so like the
-- old ones that a key of theirs now has more entries than the limit, that key is stopped, and rows that rested on it may read
-- differently; the store's count of stopped keys then has grown, and as long as it has not, no old row is touched. Where the lists of
-- infants and juniors stand on one card, each under its set, and the box is asked for the juniors' set, no infants' list is ever named, and
-- a new infants' list leaves every answer for the juniors as it was, to the bit, unless it stops a key of a juniors' list.
--
-- The engineer's words for this are in crate `model`, specs/Claim.antt: `Claim` is one statement over any list of build, insert, remove,
-- replace, live_count and query calls, refused ones included, made one after the other on any three slices of words. What is live, held and
-- stopped is said by the store handed in, and then by the calls and their answers alone. `run wang` is what the contracts of
-- `WangIndex::build`, `insert`, `remove`, `replace`, `live_count` and `query` equal (src/lib.rt). proofs/Demand3.antt proves it.
use Rattle.model.specs.Claim.{Claim}
use Rattle.wang_judge.specs.Scheme.{wang}

abbrev pub WangClaim : Type 0
WangClaim = Claim wang
