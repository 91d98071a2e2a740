-- The votes' words of a query that no refusal before 8 applies to, and its answer. Definitions only. Assumes nothing.
use Rattle.std.specs.Prelude.{List, ℕ, ℤ}
use Rattle.model.specs.Calls.{Answer}
use Rattle.panako_query.specs.declared.asked.Asked.{Asked}
use Rattle.panako_query.specs.Candidates.{words_in, answer_in}

abbrev pub words_of : Asked → List ℤ
words_of a = words_in a.voters.set a.q a.voters.refs.now a.search.posts.now a.search.hashes.now

-- where the scratch has room for so many votes
abbrev pub answer_to : Asked → ℕ → Answer
answer_to a room = answer_in a.voters.set a.q room a.voters.refs.now a.search.posts.now a.search.hashes.now
