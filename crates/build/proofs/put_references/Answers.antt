-- `build::put_references` meets its contract. Assumes nothing.
use Rattle.std.proofs.Common.{List, ◌∷◌, ◌++◌, ℕ, ◌+◌, ◌*◌, length, take, ap, ◌∙◌}
use Rattle.lists.specs.Lists.{flat}
use Rattle.model.specs.Words.{head_width, row_width}
use Rattle.rows.specs.References.{header_put}
use Rattle.build.specs.Answers.{rows_for}
use Rattle.build.proofs.Accepted.{padded-is}
use Rattle.build.proofs.put_references.Goals as goal

pub returns : goal.returns
unfolding header_put
returns c =
    let a = c.args in
    let g = c.put_rows in
    let h = c.put_header in
    let rows : List ℕ = flat (rows_for a.recordings.arrivals.hashes.now a.recordings.arrivals.width a.recordings.arrivals.lengths.now a.recordings.rates.now a.recordings.sets.now) in
    let n : ℕ = length a.recordings.arrivals.lengths.now in
    c.clear_from.ensures ∙ padded-is (length a.refs.now) (head_width + row_width * n) g.new.refs (n ∷ 0 ∷ a.left.postings ∷ a.left.stopped ∷ rows) (g.auto.refs ∙ h.auto.refs) c.requires.0
    (g.ensures ∙ ap (λ (l : List ℕ). take head_width l ++ rows) h.ensures)
