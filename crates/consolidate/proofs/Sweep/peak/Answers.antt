use native.Mathlib.Omega.{arith}
use mir.Syntax.{w64}
use mir.Val.{SFits}
use mir.ValLaws.{to_z-of_z}
use Rattle.signed.proofs.Sizes.{fits-abs}
use Rattle.consolidate.proofs.Peaks.{swept-best, swept-sums, answer}
use Rattle.consolidate.proofs.Sweep.peak.Goals as goal

pub returns : goal.returns
returns c =
    let f : SFits w64 c.centre_at-centre.result = record { sfits = c.centre_at-centre.type_inv } in
    let g : SFits w64 c.unwrap_or.result = record { sfits = c.unwrap_or.type_inv } in
    let S = c.sweep-st.ensures.0 in
    let at = c.sweep-st.ensures.1 in
    let h : SFits w64 c.args.self.bins.low = fits-abs c.args.self.bins.low (omega (arith, c.requires.1)) in
    rw (to_z-of_z w64 c.unwrap_or.result g, c.unwrap_or.ensures, to_z-of_z w64 c.centre_at-centre.result f, c.centre_at-centre.ensures, c.mode_offset-mode.ensures, to_z-of_z w64 c.args.self.bins.low h)
    (answer _ _ _ _ _ c.sweep-st.result _ _ _ _ c.args.self.bins.placed c.requires.0 (swept-best S at) (swept-sums S at) (rw c.saturating_sub.ensures at c.advance-from.ensures) c.advance-to.ensures)
