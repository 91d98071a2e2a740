-- `build_entries::lay_ranks` meets its contract. Assumes nothing.
use Rattle.std.proofs.Common.{◌≡◌, List, ℕ, ◌+◌, ◌*◌, ◌-◌, ◌≤◌, ◌<◌, length, get_or, take, drop, arith, refl, sym, ◌∙◌}
use lib.ListN.{length-drop}
use lib.Seq.{get_or-take, get_or-drop, length-take-le}
use Rattle.lists.specs.Lists.{All}
use Rattle.lists.proofs.Keep.{all-at}
use Rattle.build_sort.specs.Digits.{Readable}
use Rattle.build_entries.specs.Laid.{entry_by, SameFrom}
use Rattle.build_entries.proofs.Prefix.{lay-none, lay-more, words_of, entry-ends}
use Rattle.build_entries.proofs.lay_ranks.Goals as goal

module _ (w m : ℕ) (old : List ℕ) (some : 2 ≤ w) (whole : w * m ≤ length old) where
  room : (w - 1) * m + m ≤ length old
  room = omega (arith, words_of w m (omega arith), whole)

  many : length (take m (drop ((w - 1) * m) old)) ≡ m
  many = length-take-le m (drop ((w - 1) * m) old) (rw length-drop (omega (arith, room)))

  module _ (posts : List ℕ) (t : ℕ) (l : t < m) (same : SameFrom ((w - 1) * m + t) old posts) where
    -- the rank that is read
    rank_is : get_or posts ((w - 1) * m + t) 0 ≡ get_or (take m (drop ((w - 1) * m) old)) t 0
    rank_is = same ((w - 1) * m + t) (omega arith) ∙ sym (get_or-drop ((w - 1) * m) old t 0) ∙ sym (get_or-take m (drop ((w - 1) * m) old) t 0 l)

    readable : (words starts : List ℕ) → All (Readable words (w - 1) starts) (take m (drop ((w - 1) * m) old)) → Readable words (w - 1) starts (get_or posts ((w - 1) * m + t) 0)
    readable words starts h = rw rank_is (all-at (Readable words (w - 1) starts) (take m (drop ((w - 1) * m) old)) 0 h t (omega (arith, many)))

pub loop-t-init : goal.loop-t-init
loop-t-init c =
    let a = c.args in
    (λ i h. refl, lay-none (entry_by a.hashes.now a.w a.starts.now) a.w (take a.m (drop ((a.w - 1) * a.m) a.posts.now)) a.posts.now)

pub place-requires : goal.place-requires
place-requires c =
    let a = c.args in
    let r = readable a.w a.m a.posts.now c.requires.0 c.requires.1 c.loop-t.posts c.loop-t.t c.loop-t-test.true c.loop-t.invariant.0 a.hashes.now a.starts.now c.requires.2 in
    (r.id, r.small)

pub lay_entry-requires : goal.lay_entry-requires
lay_entry-requires c =
    let a = c.args in
    let r = readable a.w a.m a.posts.now c.requires.0 c.requires.1 c.loop-t.posts c.loop-t.t c.loop-t-test.true c.loop-t.invariant.0 a.hashes.now a.starts.now c.requires.2 in
    (c.requires.0, omega (arith, entry-ends a.w a.m c.loop-t.t (omega (arith, c.requires.0)) c.loop-t-test.true, room a.w a.m a.posts.now c.requires.0 c.requires.1), rw c.place.ensures r.place)

pub loop-t-preserved : goal.loop-t-preserved
loop-t-preserved c =
    let a = c.args in
    let l = c.loop-t in
    let g = c.lay_entry in
    let e = rank_is a.w a.m a.posts.now c.requires.0 c.requires.1 l.posts l.t c.loop-t-test.true l.invariant.0 in
    let n = many a.w a.m a.posts.now c.requires.0 c.requires.1 in
    let ends = entry-ends a.w a.m l.t (omega (arith, c.requires.0)) c.loop-t-test.true in (
      λ i h. g.ensures.1 i (omega (arith, ends)) ∙ l.invariant.0 i (omega arith),
      lay-more (entry_by a.hashes.now a.w a.starts.now) a.w (take a.m (drop ((a.w - 1) * a.m) a.posts.now)) l.posts g.new.posts l.t (omega (arith, n)) l.invariant.1 (rw (c.place.ensures, e) at g.ensures.0),
    )
