-- `soundness::UsedPostings::listed` meets its contract. Assumes nothing.
use Rattle.std.proofs.Common.{sym, ◌∙◌, arith}
use Rattle.lists.proofs.Every.{every-none, every_more}
use Rattle.postings.proofs.Listing.{noted-none}
use Rattle.soundness.proofs.Postings.{ascended-none, ascended-more, pass-descends, pass-fails}
use Rattle.soundness.proofs.UsedPostings.listed.Goals.{then-key-last-via-then-key-last, then-key-last-via-else-key-last+then-not-is_fine}
use Rattle.soundness.proofs.UsedPostings.listed.Goals as goal

pub loop-i-init : goal.loop-i-init
loop-i-init c = (ascended-none _ _, every-none _, omega arith, noted-none _ _ _ _ _ _)

pub returns-then-key-last : goal.returns-then-key-last
returns-then-key-last c = elim c.then-key-last.branch [
  | then-key-last-via-then-key-last w ↦
      let e = pass-descends c.args.self.width c.args.rows.refs.now c.args.rows.count c.args.self.words.now c.args.self.count _ _ c.loop-i.invariant.0 c.loop-i-test.true w.if-key-last.true in
      record { found = rw e; noted = tt }
  | then-key-last-via-else-key-last+then-not-is_fine w ↦
      let e = pass-fails c.args.self.width c.args.rows.refs.now c.args.rows.count c.args.self.words.now c.args.self.count _ _ c.loop-i.invariant.0 c.loop-i-test.true (sym w.is_fine.ensures ∙ w.if-not-is_fine.true) in
      record { found = rw e; noted = tt }
]

pub loop-i-preserved : goal.loop-i-preserved
loop-i-preserved c = (
  ascended-more _ _ _ _ c.loop-i.invariant.0 c.if-key-last.false,
  every_more _ _ c.loop-i.invariant.1 (sym c.is_fine.ensures ∙ c.if-not-is_fine.false),
  c.note-own.ensures.upper_bound,
  c.note-own.ensures.by_index c.args.self.count c.loop-i-test.true c.loop-i.invariant.3,
)
