-- `sheet_text::fields::read_fields` meets its contract. Assumes nothing.
use Rattle.std.proofs.Common.{arith}
use Rattle.sheet_text.proofs.Decoding.{fields-none, fields-more, fields-all}
use Rattle.sheet_text.proofs.fields.read_fields.Goals as goal

pub loop-i-init : goal.loop-i-init
loop-i-init c = fields-none c.args.bytes.now c.args.words.now

pub loop-i-preserved : goal.loop-i-preserved
loop-i-preserved c =
    fields-more c.args.bytes.now c.loop-i.words c.loop-i.i c.word_at.result (omega arith) c.word_at.ensures c.loop-i.invariant

pub returns-clause-words_after : goal.returns-clause-words_after
returns-clause-words_after c = fields-all c.args.bytes.now c.loop-i.words c.loop-i.i (omega arith) c.loop-i.invariant
