-- Assumes nothing.
use Rattle.std.proofs.Common.{ℤ, ◌+◌, ◌++◌, List, length, get_or, take, refl, ap, ◌∙◌, arith}
use Rattle.panako_vote.specs.declared.Span.{Span}
use Rattle.panako_votes.proofs.Walks.{before-all, part-rows, part-bits, part-words}
use Rattle.panako_votes.proofs.Listing.{walked_none, walked-room, walked_more, walked_all}
use Rattle.panako_votes.proofs.gather_listed.Goals as goal

pub loop-listed-init : goal.loop-listed-init
loop-listed-init c =
    let s = c.args.search in
    walked_none c.args.g c.args.voters.set c.args.voters.refs.now s.posts.now s.count s.hashes.now s.hash_count c.args.starts.now c.args.ends.now _ refl

pub gather_part-v-requires : goal.gather_part-v-requires
gather_part-v-requires c =
    let s = c.args.search in
    let set = c.args.voters.set in
    let refs = c.args.voters.refs.now in
    let i = get_or c.args.which.now c.loop-listed.listed-index 0 in
    let span = c.span_at.result in
    let words = part-words c.args.g set refs s.posts.now s.count s.hashes.now s.sought.postings i span.anchor span.end _ c.part_of-part.ensures _ c.as_chunks.ensures.front
    (ap (λ (x : Span). x.anchor) c.span_at.ensures) (ap (λ (x : Span). x.end) c.span_at.ensures) in
    let room = walked-room c.args.g set refs s.posts.now s.count s.hashes.now s.hash_count c.args.starts.now c.args.ends.now s.sought c.requires.1 c.requires.2 c.args.which.now _ c.requires.5
    _ c.loop-listed.v c.loop-listed.listed-index c.loop-listed.invariant (omega arith) in (
      omega arith,
      (
        omega arith,
        omega arith,
        part-rows c.args.g set refs s.posts.now s.count s.hashes.now s.sought.postings i span.anchor span.end _ c.part_of-part.ensures _ c.as_chunks.ensures.front c.requires.0.rowed,
        part-bits c.args.g set refs s.posts.now s.count s.hashes.now s.sought.postings i span.anchor span.end _ c.part_of-part.ensures _ c.as_chunks.ensures.front c.requires.0.ids,
        omega (arith, ap length words, room, ap length (before-all c.args.g set refs s.posts.now s.count s.hashes.now s.hash_count), c.requires.6, c.loop-listed.auto.s),
      ),
    )

pub loop-listed-preserved : goal.loop-listed-preserved
loop-listed-preserved c =
    let s = c.args.search in
    let set = c.args.voters.set in
    let refs = c.args.voters.refs.now in
    let i = get_or c.args.which.now c.loop-listed.listed-index 0 in
    let span = c.span_at.result in
    let words = part-words c.args.g set refs s.posts.now s.count s.hashes.now s.sought.postings i span.anchor span.end _ c.part_of-part.ensures _ c.as_chunks.ensures.front
    (ap (λ (x : Span). x.anchor) c.span_at.ensures) (ap (λ (x : Span). x.end) c.span_at.ensures) in
    walked_more c.args.g set refs s.posts.now s.count s.hashes.now s.hash_count c.args.starts.now c.args.ends.now s.sought c.requires.1 c.requires.2 c.args.which.now _ c.requires.5
    _ c.loop-listed.v c.loop-listed.listed-index c.loop-listed.invariant (omega arith) _ _
    (c.gather_part-v.ensures.0 ∙ ap (λ (l : List ℤ). c.loop-listed.v + length l) words)
    (c.gather_part-v.ensures.1 ∙ ap (λ (l : List ℤ). take c.loop-listed.v c.loop-listed.s ++ l) words)

pub returns : goal.returns
returns c =
    let s = c.args.search in
    let set = c.args.voters.set in
    let refs = c.args.voters.refs.now in
    let w = c.loop-listed.invariant in
    let all = walked_all c.args.g set refs s.posts.now s.count s.hashes.now s.hash_count c.args.starts.now c.args.ends.now s.sought c.requires.1 c.requires.2 c.args.which.now _ c.requires.5
    _ c.loop-listed.v c.loop-listed.listed-index w (omega arith)
    ∙ before-all c.args.g set refs s.posts.now s.count s.hashes.now s.hash_count in
    (w.many ∙ ap length all, w.put ∙ all)
