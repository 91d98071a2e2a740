-- `wang_votes::gather_key`: the postings of the part are those under the key. Assumes nothing.
use Rattle.std.proofs.Common.{◌+◌, ◌++◌, List, ℕ, ℤ, ap, sym, ◌∙◌, take, length-take-le, arith}
use Rattle.wang_votes.proofs.Walks.{key-forward, key-within, first-ready, first-number, first-put, first-rows, part-long, part-number, part-words, part-rows, part-bits}
use Rattle.wang_votes.proofs.gather_key.Goals as goal

pub overflow_sub-n : goal.overflow_sub-n
overflow_sub-n c = let s = c.args.search.sought in key-forward c.args.voters.set c.args.voters.refs.now _ _ c.args.key s.postings s.ascend _ _ c.requires.0 c.requires.1

pub from_key-part-requires : goal.from_key-part-requires
from_key-part-requires c =
    let s = c.args.search.sought in
    (key-within c.args.voters.set c.args.voters.refs.now _ _ c.args.key s.postings s.ascend _ _ c.requires.0 c.requires.1, s.postings)

pub gather_first-requires : goal.gather_first-requires
gather_first-requires c =
    let s = c.args.search.sought in
    first-ready c.args.voters.set c.args.voters.refs.now _ _ c.args.key s.postings s.ascend _ _ c.requires.0 c.requires.1 _ c.from_key-part.ensures c.requires.2

pub first_votes-requires : goal.first_votes-requires
first_votes-requires c =
    let s = c.args.search.sought in
    first-rows c.args.voters.set _ _ _ c.args.key s.postings s.ascend _ _ c.requires.0 c.requires.1 c.requires.3 c.if-n-le1.true

pub returns-then-n-le1 : goal.returns-then-n-le1
returns-then-n-le1 c =
    let s = c.args.search.sought in (
      ap (λ (n : ℕ). c.args.at + n) (first-number _ _ _ _ c.args.key s.postings s.ascend _ _ c.requires.0 c.requires.1 _ c.from_key-part.ensures c.if-n-le1.true _ c.first_votes.ensures.0),
      first-put _ _ _ _ c.args.key s.postings s.ascend _ _ c.requires.0 c.requires.1 _ c.from_key-part.ensures c.if-n-le1.true _ c.first_votes.ensures.0
          c.args.hash.shift c.args.hash.position _ _ _ c.requires.4 c.gather_first.ensures,
    )

pub slice_bounds-gather_part-end : goal.slice_bounds-gather_part-end
slice_bounds-gather_part-end c =
    let s = c.args.search.sought in
    let n = part-long c.args.voters.set c.args.voters.refs.now _ _ c.args.key s.postings s.ascend _ _ c.requires.0 c.requires.1 _ c.part_of.ensures _ c.as_chunks.ensures.front in
    sym (length-take-le _ c.as_chunks.result.0.now (omega arith))

pub gather_part-requires : goal.gather_part-requires
gather_part-requires c =
    let s = c.args.search.sought in
    let n = part-number c.args.voters.set c.args.voters.refs.now _ _ c.args.key s.postings s.ascend _ _ c.requires.0 c.requires.1 _ c.part_of.ensures _ c.as_chunks.ensures.front c.args.hash.shift c.args.hash.position in (
      omega arith,
      (
        omega arith,
        omega arith,
        part-rows c.args.voters.set c.args.voters.refs.now _ _ c.args.key s.postings s.ascend _ _ c.requires.0 c.requires.1 _ c.part_of.ensures _ c.as_chunks.ensures.front c.requires.3,
        part-bits c.args.voters.set c.args.voters.refs.now _ _ c.args.key s.postings s.ascend _ _ c.requires.0 c.requires.1 _ c.part_of.ensures _ c.as_chunks.ensures.front c.requires.2,
        omega (arith, n, c.requires.4),
      ),
    )

pub returns : goal.returns
returns c =
    let s = c.args.search.sought in (
      c.gather_part.ensures.0 ∙ ap (λ (n : ℕ). c.args.at + n)
          (part-number c.args.voters.set c.args.voters.refs.now _ _ c.args.key s.postings s.ascend _ _ c.requires.0 c.requires.1 _ c.part_of.ensures _ c.as_chunks.ensures.front c.args.hash.shift c.args.hash.position),
      c.gather_part.ensures.1 ∙ ap (λ (l : List ℤ). take c.args.at c.args.s.now ++ l)
          (part-words c.args.voters.set c.args.voters.refs.now _ _ c.args.key s.postings s.ascend _ _ c.requires.0 c.requires.1 _ c.part_of.ensures _ c.as_chunks.ensures.front c.args.hash.shift c.args.hash.position),
    )
