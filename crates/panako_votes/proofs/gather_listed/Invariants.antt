-- `panako_votes::gather_listed`: the votes of the first hashes listed are the first v words. Assumes nothing.
use Rattle.std.proofs.Common.{take}
use Rattle.panako_votes.proofs.Listing.{Walked}
use Rattle.panako_votes.proofs.gather_listed.Given as goal

abbrev pub invariant-loop-listed : goal.invariant-loop-listed
invariant-loop-listed l =
    Walked l.g l.voters.set l.voters.refs.now l.search.posts.now l.search.count l.search.hashes.now l.search.hash_count l.starts l.ends (take l.v l.s) l.v l.listed-index
