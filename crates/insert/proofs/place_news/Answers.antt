-- `insert::place_news` meets its contract. Assumes nothing.
use Rattle.std.proofs.Common.{◌+◌, ◌*◌, ◌∙◌, sym, arith, length}
use native.Mathlib.Nat.{le_trans, mul-le-mul_left}
use Rattle.std.proofs.Math.Seq.{take-length}
use Rattle.std.proofs.lemmas.List.{length-take-le}
use Rattle.maps.proofs.Entries.{scale-le}
use Rattle.postings.proofs.Listing.{listed-none}
use Rattle.insert.proofs.Placed.{merges, room-for-news}
use Rattle.insert.proofs.place_news.Goals as goal

pub write_news-r-requires : goal.write_news-r-requires
write_news-r-requires c =
    let s = c.args in
    let P = c.requires.0 in
    record {
      le_v = (omega (arith, P.wide), P.places, room-for-news s.w (length s.order.now) _ P.wide P.narrow P.few c.requires.1);
      ascending = rw (take-length s.overs.now) at P.overs-ascend;
    }

pub retain-q-requires : goal.retain-q-requires
retain-q-requires c =
    let s = c.args in
    let P = c.requires.0 in
    record {
      within = record { field = omega (arith, P.wide); room = le_trans (mul-le-mul_left s.w (omega arith)) P.room; start = omega arith };
      ascending = rw (take-length s.overs.now) at P.overs-ascend;
      listed = listed-none _ _ _ _ _ _;
    }

pub overflow_mul-w : goal.overflow_mul-w
overflow_mul-w c =
    let s = c.args in
    let M = merges s.w s.p s.posts.now s.hashes.now s.order.now (length s.order.now) s.overs.now (length s.overs.now) s.id c.requires.0 c.retain-q.new.posts c.write_news-r.new.news (take-length s.overs.now) c.retain-q.ensures.value c.retain-q.ensures.posts_after c.write_news-r.ensures.value (omega (arith, c.write_news-r.auto.news, c.requires.1)) c.write_news-r.ensures.news_after in
    omega (arith, M.1, c.write_news-r.auto.news, c.well_formed)

pub slice_bounds-merge_in-end : goal.slice_bounds-merge_in-end
slice_bounds-merge_in-end c =
    let s = c.args in
    let M = merges s.w s.p s.posts.now s.hashes.now s.order.now (length s.order.now) s.overs.now (length s.overs.now) s.id c.requires.0 c.retain-q.new.posts c.write_news-r.new.news (take-length s.overs.now) c.retain-q.ensures.value c.retain-q.ensures.posts_after c.write_news-r.ensures.value (omega (arith, c.write_news-r.auto.news, c.requires.1)) c.write_news-r.ensures.news_after in
    M.1

pub slice_bounds-merge_in-end-2 : goal.slice_bounds-merge_in-end-2
slice_bounds-merge_in-end-2 c =
    let s = c.args in
    let M = merges s.w s.p s.posts.now s.hashes.now s.order.now (length s.order.now) s.overs.now (length s.overs.now) s.id c.requires.0 c.retain-q.new.posts c.write_news-r.new.news (take-length s.overs.now) c.retain-q.ensures.value c.retain-q.ensures.posts_after c.write_news-r.ensures.value (omega (arith, c.write_news-r.auto.news, c.requires.1)) c.write_news-r.ensures.news_after in
    sym (length-take-le (s.w * c.write_news-r.result) c.write_news-r.new.news M.1)

pub merge_in-requires-clause-le_w : goal.merge_in-requires-clause-le_w
merge_in-requires-clause-le_w c =
    let s = c.args in
    let M = merges s.w s.p s.posts.now s.hashes.now s.order.now (length s.order.now) s.overs.now (length s.overs.now) s.id c.requires.0 c.retain-q.new.posts c.write_news-r.new.news (take-length s.overs.now) c.retain-q.ensures.value c.retain-q.ensures.posts_after c.write_news-r.ensures.value (omega (arith, c.write_news-r.auto.news, c.requires.1)) c.write_news-r.ensures.news_after in
    (omega (arith, c.requires.0.wide), M.0.room)

pub merge_in-requires-clause-p_value : goal.merge_in-requires-clause-p_value
merge_in-requires-clause-p_value c =
    let s = c.args in
    let M = merges s.w s.p s.posts.now s.hashes.now s.order.now (length s.order.now) s.overs.now (length s.overs.now) s.id c.requires.0 c.retain-q.new.posts c.write_news-r.new.news (take-length s.overs.now) c.retain-q.ensures.value c.retain-q.ensures.posts_after c.write_news-r.ensures.value (omega (arith, c.write_news-r.auto.news, c.requires.1)) c.write_news-r.ensures.news_after in
    (M.0.ascend, M.0.news-ascend)

pub overflow_add-result : goal.overflow_add-result
overflow_add-result c =
    let s = c.args in
    let M = merges s.w s.p s.posts.now s.hashes.now s.order.now (length s.order.now) s.overs.now (length s.overs.now) s.id c.requires.0 c.retain-q.new.posts c.write_news-r.new.news (take-length s.overs.now) c.retain-q.ensures.value c.retain-q.ensures.posts_after c.write_news-r.ensures.value (omega (arith, c.write_news-r.auto.news, c.requires.1)) c.write_news-r.ensures.news_after in
    omega (arith, M.0.small, M.2, c.requires.0.room, scale-le s.w (s.p + length s.order.now) (omega (arith, c.requires.0.wide)), c.well_formed)

pub returns-clause-value : goal.returns-clause-value
returns-clause-value c =
    let s = c.args in
    let M = merges s.w s.p s.posts.now s.hashes.now s.order.now (length s.order.now) s.overs.now (length s.overs.now) s.id c.requires.0 c.retain-q.new.posts c.write_news-r.new.news (take-length s.overs.now) c.retain-q.ensures.value c.retain-q.ensures.posts_after c.write_news-r.ensures.value (omega (arith, c.write_news-r.auto.news, c.requires.1)) c.write_news-r.ensures.news_after in
    rw M.2 at M.0.many

pub returns-clause-posts_after : goal.returns-clause-posts_after
returns-clause-posts_after c =
    let s = c.args in
    let M = merges s.w s.p s.posts.now s.hashes.now s.order.now (length s.order.now) s.overs.now (length s.overs.now) s.id c.requires.0 c.retain-q.new.posts c.write_news-r.new.news (take-length s.overs.now) c.retain-q.ensures.value c.retain-q.ensures.posts_after c.write_news-r.ensures.value (omega (arith, c.write_news-r.auto.news, c.requires.1)) c.write_news-r.ensures.news_after in
    c.merge_in.ensures ∙ M.0.result
