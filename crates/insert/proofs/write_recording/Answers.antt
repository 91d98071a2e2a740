-- `insert::write_recording` meets its contract. Assumes nothing.
use Rattle.std.proofs.Common.{ℕ, ◌+◌, ◌∙◌, ap, length, get_or, take}
use Rattle.lists.specs.Lists.{flat}
use Rattle.lists.specs.Keys.{place_all}
use Rattle.lists.specs.Entries.{padded}
use Rattle.insert.specs.Writing.{id_in}
use Rattle.insert.proofs.Wrote.{id-from, recorded-all, placed-from, recording-from}
use Rattle.insert.proofs.write_recording.Goals as goal

pub put_recording-requires : goal.put_recording-requires
put_recording-requires c =
    let s = c.args in
    let id-is = id-from s.refs.now c.header-h.result c.new_id-id.result c.header-h.ensures c.new_id-id.ensures in
    recording-from s.w s.refs.now s.posts.now s.stops.now s.hashes.now s.order.now (length s.order.now) s.overs.now (length s.overs.now) c.requires.0 c.header-h.result c.header-h.ensures c.new_id-id.result c.place_news-q.result id-is c.place_news-q.ensures.value

pub returns : goal.returns
returns c =
    let s = c.args in
    let id-is = id-from s.refs.now c.header-h.result c.new_id-id.result c.header-h.ensures c.new_id-id.ensures in
    let placed = placed-from s.w s.refs.now s.posts.now s.stops.now s.hashes.now s.order.now (length s.order.now) s.overs.now (length s.overs.now) c.requires.0 c.header-h.result c.header-h.ensures c.new_id-id.result id-is in
    record {
      value = id-is;
      refs_after =
          c.put_recording.ensures ∙ recorded-all s.refs.now c.header-h.result.rows (get_or s.refs.now 0 0) c.header-h.result.vacant (get_or s.refs.now 1 0)
          c.new_id-id.result (id_in s.refs.now) _ _ _ _ _ _ c.place_news-q.result _ (c.header-h.result.stopped + length s.overs.now) (get_or s.refs.now 3 0 + length s.overs.now)
          c.header-h.ensures.rows c.header-h.ensures.vacant id-is c.row_of-row.ensures.0 c.row_of-row.ensures.1 c.row_of-row.ensures.2
          (c.place_news-q.ensures.value ∙ ap length placed) (ap (λ (k : ℕ). k + length s.overs.now) c.header-h.ensures.stopped);
      posts_after = c.place_news-q.ensures.posts_after ∙ ap (λ es. padded (length s.posts.now) (flat es)) placed;
      stops_after = c.stop_keys.ensures ∙ ap (λ (k : ℕ). padded (length s.stops.now) (place_all (λ x. x) (take (length s.overs.now) s.overs.now) (take k s.stops.now))) c.header-h.ensures.stopped;
    }
