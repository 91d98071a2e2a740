-- `postings::Entries::until_word` meets its contract. Assumes nothing.
use Rattle.std.proofs.Common.{eqb}
use Rattle.postings.proofs.Search.{Passed}
use Rattle.postings.proofs.Entries.until_word.Given as goal

abbrev pub invariant-loop-i : goal.invariant-loop-i
invariant-loop-i l = Passed (eqb l.x) l.self.width l.self.count l.self.field l.self.words.now l.from l.i
