-- `sheet_card::turn` meets its contract. Assumes nothing.
use Rattle.std.proofs.Common.{sym, ap, ◌∙◌, List, ℕ, length, get_or, arith}
use Rattle.sheet_text.proofs.Puts.{as-text}
use Rattle.sheet_kinds.specs.Kinds.{good_length}
use Rattle.soundness.specs.Scan.{words}
use Rattle.sheet_records.specs.Step.{step_of}
use Rattle.sheet_records.proofs.Steps.{stepped-as}
use Rattle.sheet_card.specs.Turns.{Outcome, going, advanced}
use Rattle.sheet_card.proofs.Reading.{whole_is, record-good, record-short, part-is}
use Rattle.sheet_card.proofs.Turns.{turn-record, turn_last}
use Rattle.sheet_card.proofs.turn.Goals as goal

-- no whole record was read
pub returns-then-not-is_whole-clause-put : goal.returns-then-not-is_whole-clause-put
returns-then-not-is_whole-clause-put c =
    let e = turn_last (words c.args.refs.now c.args.postings.now c.args.stopped.now) c.args.p c.args.bytes.now (sym c.is_whole.ensures ∙ c.if-not-is_whole.true) in
    as-text c.put_last-end.ensures.put (sym (ap (λ (o : Outcome). o.line) e))

pub returns-then-not-is_whole-clause-stopped_value : goal.returns-then-not-is_whole-clause-stopped_value
returns-then-not-is_whole-clause-stopped_value c =
    let e = turn_last (words c.args.refs.now c.args.postings.now c.args.stopped.now) c.args.p c.args.bytes.now (sym c.is_whole.ensures ∙ c.if-not-is_whole.true) in
    sym (ap (λ (o : Outcome). o.store) e)

pub returns-then-not-is_whole-clause-next_value : goal.returns-then-not-is_whole-clause-next_value
returns-then-not-is_whole-clause-next_value c =
    let e = turn_last (words c.args.refs.now c.args.postings.now c.args.stopped.now) c.args.p c.args.bytes.now (sym c.is_whole.ensures ∙ c.if-not-is_whole.true) in
    sym (ap (λ (o : Outcome). o.next) e)

-- a whole record was read
pub length_at-len-requires : goal.length_at-len-requires
length_at-len-requires c =
    let w = whole_is c.args.bytes.now (sym c.is_whole.ensures ∙ c.if-not-is_whole.false) in omega (arith, w.begins)

pub slice_bounds-step-end : goal.slice_bounds-step-end
slice_bounds-step-end c =
    let w = whole_is c.args.bytes.now (sym c.is_whole.ensures ∙ c.if-not-is_whole.false) in omega (arith, w.reaches, c.length_at-len.ensures.value)

pub step-end-requires-clause-bytes_value : goal.step-end-requires-clause-bytes_value
step-end-requires-clause-bytes_value c =
    let s = c.args.bytes.now in
    let w = whole_is s (sym c.is_whole.ensures ∙ c.if-not-is_whole.false) in
    let e = part-is s c.length_at-len.result c.length_at-len.ensures.value in
    (ap (λ (r : List ℕ). good_length (length r) (get_or r 0 0)) e ∙ record-good s w, c.requires.line_most_in_bounds.0)

pub advance-requires : goal.advance-requires
advance-requires c =
    let s = c.args.bytes.now in
    let w = whole_is s (sym c.is_whole.ensures ∙ c.if-not-is_whole.false) in
    (c.requires.line_most_in_bounds.1, c.requires.line_most_in_bounds.2, omega (arith, record-short s w, c.length_at-len.ensures.value))

pub returns-clause-put : goal.returns-clause-put
returns-clause-put c =
    let s = c.args.bytes.now in
    let m = words c.args.refs.now c.args.postings.now c.args.stopped.now in
    let e = turn-record m c.args.p s (sym c.is_whole.ensures ∙ c.if-not-is_whole.false) in
    let k = ap (λ (r : List ℕ). step_of m r) (part-is s c.length_at-len.result c.length_at-len.ensures.value) in
    as-text (stepped-as c.step-end.ensures.stepped k).line (sym (ap (λ (o : Outcome). o.line) e))

pub returns-clause-stopped_value : goal.returns-clause-stopped_value
returns-clause-stopped_value c =
    let s = c.args.bytes.now in
    let m = words c.args.refs.now c.args.postings.now c.args.stopped.now in
    let e = turn-record m c.args.p s (sym c.is_whole.ensures ∙ c.if-not-is_whole.false) in
    let k = ap (λ (r : List ℕ). step_of m r) (part-is s c.length_at-len.result c.length_at-len.ensures.value) in
    (stepped-as c.step-end.ensures.stepped k).store ∙ sym (ap (λ (o : Outcome). o.store) e)

pub returns-clause-next_value : goal.returns-clause-next_value
returns-clause-next_value c =
    let s = c.args.bytes.now in
    let e = turn-record (words c.args.refs.now c.args.postings.now c.args.stopped.now) c.args.p s (sym c.is_whole.ensures ∙ c.if-not-is_whole.false) in
    c.advance.ensures ∙ ap (λ (n : ℕ). going (advanced c.args.p n)) c.length_at-len.ensures.value ∙ sym (ap (λ (o : Outcome). o.next) e)
