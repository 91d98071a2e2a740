-- `sheet_records::step` meets its contract. Assumes nothing.
use Rattle.std.proofs.Common.{arith, ◌∙◌, length, get_or, length-take-le}
use Rattle.soundness.specs.Scan.{words}
use Rattle.sheet_kinds.specs.Bytes.{row_of}
use Rattle.sheet_kinds.proofs.Lengths.{good-by, good-long, good-words}
use Rattle.sheet_records.proofs.Steps.{stepped-as, step-by-kind, no_step}
use Rattle.sheet_records.proofs.step.Goals as goal

pub read_fields-n-requires : goal.read_fields-n-requires
read_fields-n-requires c =
    let l = good-long (length c.args.bytes.now) (get_or c.args.bytes.now 0 0) c.requires.bytes_value.0 in (l.some_byte, omega (arith, l.short))

pub bounds-bytes-0 : goal.bounds-bytes-0
bounds-bytes-0 c = let l = good-long (length c.args.bytes.now) (get_or c.args.bytes.now 0 0) c.requires.bytes_value.0 in omega (arith, l.some_byte)

pub run_record-requires-clause-kind_value : goal.run_record-requires-clause-kind_value
run_record-requires-clause-kind_value c =
    let r = c.read_fields-n in
    let b = get_or c.args.bytes.now 0 0 in
    let g = c.requires.bytes_value in
    let e = length-take-le r.result r.new.words r.ensures.upper_bound in
    (good-by _ b (row_of c.in-Ok.kind) c.in-Ok.ensures ∙ good-words (length c.args.bytes.now) b _ g.0 (e ∙ r.ensures.value), g.1)

pub returns-in-Ok-clause-stepped : goal.returns-in-Ok-clause-stepped
returns-in-Ok-clause-stepped c =
    let a = c.args in
    stepped-as c.run_record.ensures.stepped
    (step-by-kind (words a.refs.now a.postings.now a.stopped.now) a.bytes.now _ (row_of c.in-Ok.kind) c.read_fields-n.ensures.words_after c.in-Ok.ensures)

pub returns-in-Err-clause-stepped : goal.returns-in-Err-clause-stepped
returns-in-Err-clause-stepped c =
    let a = c.args in no_step a.line.now a.bytes.now a.at (words a.refs.now a.postings.now a.stopped.now) c.in-Err.ensures.1
