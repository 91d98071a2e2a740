-- The definition takes the same steps, `proofs/Units.antt` has the pairs of equal spans, and `proofs/Bounds.antt` the bounds.
use Rattle.std.proofs.Common.{sym, ◌∙◌, w64, rules}
use mir.ValLaws.{to_z-of_z}
use Rattle.panako_vote.proofs.Pairs.{votes, no-vote}
use Rattle.panako_vote.proofs.Units.{unit-is}
use Rattle.panako_vote.proofs.Bounds.{offset-inside, with-bounds}
use Rattle.panako_vote.proofs.pair_vote.Goals as goal

pub returns-then-is_unit-clause-value : goal.returns-then-is_unit-clause-value
returns-then-is_unit-clause-value c =
    let a = c.args in
    c.unit_vote.ensures ∙ unit-is a.g c.requires a.q.anchor a.q.end a.r.anchor a.r.end (search rules) (search rules) (search rules) (sym c.is_unit.ensures ∙ c.if-is_unit.true)

pub returns-then-is_unit-clause-bounded : goal.returns-then-is_unit-clause-bounded
returns-then-is_unit-clause-bounded c =
    let a = c.args in
    (with-bounds a.g c.requires _ a.q.anchor a.q.end a.r.anchor a.r.end (search rules) (search rules) (search rules) (search rules) (returns-then-is_unit-clause-value c)).1

pub round_small_to_i64-offset-requires : goal.round_small_to_i64-offset-requires
round_small_to_i64-offset-requires c =
    let a = c.args in
    let p = offset-inside a.g c.requires a.q.anchor a.q.end a.r.anchor a.r.end (search rules) (search rules) (search rules) (search rules)
    c.pair_scale-s.result c.pair_scale-s.ensures (sym c.has_vote.ensures ∙ c.if-has_vote.true) in
    record { fact_1 = p.0; fact_2 = p.1 }

pub returns-then-has_vote-clause-value : goal.returns-then-has_vote-clause-value
returns-then-has_vote-clause-value c =
    let a = c.args in
    let offset = to_z-of_z w64 c.round_small_to_i64-offset.result (record { sfits = c.round_small_to_i64-offset.type_inv }) ∙ c.round_small_to_i64-offset.ensures in
    rw (c.scale_bin-bin.ensures, offset, c.pair_scale-s.ensures) (votes a.g a.q.anchor a.q.end a.r.anchor a.r.end (sym c.has_vote.ensures ∙ c.if-has_vote.true))

pub returns-then-has_vote-clause-bounded : goal.returns-then-has_vote-clause-bounded
returns-then-has_vote-clause-bounded c =
    let a = c.args in
    (with-bounds a.g c.requires _ a.q.anchor a.q.end a.r.anchor a.r.end (search rules) (search rules) (search rules) (search rules) (returns-then-has_vote-clause-value c)).1

pub returns : goal.returns
returns c = record { value = no-vote _ (sym c.has_vote.ensures ∙ c.if-has_vote.false); bounded = tt }
