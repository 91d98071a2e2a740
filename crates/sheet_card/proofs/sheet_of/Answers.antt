-- `sheet_card::sheet_of` meets its contract. Assumes nothing.
use Rattle.std.proofs.Common.{sym, ◌∙◌, arith}
use Rattle.soundness.specs.Scan.{words}
use Rattle.sheet_card.proofs.Held.{header-room, start-room, start-going, sheet-put, first_byte}
use Rattle.sheet_card.proofs.sheet_of.Goals as goal

pub put_header-head-requires : goal.put_header-head-requires
put_header-head-requires c = header-room c.args.card.now c.args.out.now (sym c.has_room.ensures ∙ c.if-not-has_room.false)

pub begin-s-requires : goal.begin-s-requires
begin-s-requires c =
    let h = c.put_header-head.ensures in
    start-room c.args.card.now c.args.out.now (sym c.has_room.ensures ∙ c.if-not-has_room.false) h.upper_bound h.put

pub put_turns-requires : goal.put_turns-requires
put_turns-requires c =
    let h = c.put_header-head.ensures in
    let b = c.begin-s.ensures in (
      start-going c.args.card.now c.args.out.now (sym c.has_room.ensures ∙ c.if-not-has_room.false) _ _ _ _ _ _
          (first_byte c.args.card.now c.min-n.result (omega arith)) b.put b.next_value h.upper_bound h.put.kept,
      c.zero_scratch-scratch.ensures,
    )

pub returns-clause-put : goal.returns-clause-put
returns-clause-put c =
    let b = c.begin-s.ensures in
    sheet-put c.args.card.now c.args.out.now (sym c.has_room.ensures ∙ c.if-not-has_room.false) _ _ _ _ _ _
    (first_byte c.args.card.now c.min-n.result (omega arith)) b.put b.next_value (omega arith)
    (λ i. words (c.zero_references-refs.ensures i) (c.zero_postings-postings.ensures i) (c.zero_stopped-stopped.ensures i))
    c.put_header-head.ensures.put c.put_turns.ensures
