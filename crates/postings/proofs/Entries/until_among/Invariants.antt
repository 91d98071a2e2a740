-- `postings::Entries::until_among` meets its contract. Assumes nothing.
use Rattle.lists.specs.Lists.{member}
use Rattle.postings.proofs.Search.{Passed}
use Rattle.postings.proofs.Entries.until_among.Given as goal

abbrev pub invariant-loop-i : goal.invariant-loop-i
invariant-loop-i l = Passed (λ x. member x l.xs) l.self.width l.self.count l.self.field l.self.words.now l.from l.i
