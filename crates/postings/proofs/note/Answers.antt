-- `postings::note` meets its contract. Assumes nothing.
use Rattle.std.proofs.Common.{sym}
use borrow.Author.Tests.{eq-eqb, ne_eqb}
use Rattle.postings.proofs.Listing.{noted_other, noted-put, noted-full}
use Rattle.postings.proofs.note.Goals.{then-c-list, else-c-list}
use Rattle.postings.proofs.note.Goals as goal

pub returns-then-posts-w-clause-by_index : goal.returns-then-posts-w-clause-by_index
returns-then-posts-w-clause-by_index c p h d =
    let a = c.args in
    noted_other a.w p a.f a.x a.posts.now a.i a.list.now a.c c.requires.0 h d (ne_eqb a.x _ (λ e. c.if-posts-w.true (sym e)))

pub returns-clause-by_index : goal.returns-clause-by_index
returns-clause-by_index c p h d =
    let a = c.args in
    let e = eq-eqb a.x _ (sym c.if-posts-w.false) in
    elim c.if-c-list.branch [
      | then-c-list t ↦ rw t.list-is (noted-put a.w p a.f a.x a.posts.now a.i a.list.now a.c c.requires.0 h d e t.if-c-list.true)
      | else-c-list t ↦ rw t.list-is (noted-full a.w p a.f a.x a.posts.now a.i a.list.now a.c c.requires.0 h d e t.if-c-list.false)
    ]
