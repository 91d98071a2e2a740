-- `panako_votes::fits`: there are no more votes than postings met. Assumes nothing.
use Rattle.lists.specs.Entries.{entries}
use Rattle.query_search.specs.Voting.{voting}
use Rattle.panako_votes.proofs.Fitting.{met-fit}
use Rattle.panako_votes.proofs.fits.Goals as goal

pub returns-then-meet-room-clause-value : goal.returns-then-meet-room-clause-value
returns-then-meet-room-clause-value c =
    let a = c.args in
    met-fit a.g (voting a.voters.set a.voters.refs.now (entries 5 a.search.count a.search.posts.now)) (entries 4 a.search.hash_count a.search.hashes.now) a.room c.meet.result c.meet.ensures.value c.if-meet-room.true
