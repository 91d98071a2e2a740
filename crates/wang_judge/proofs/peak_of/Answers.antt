-- The ends of the sweep as words, and the bins as a slice of their own.
use Rattle.std.proofs.Common.{◌≡◌, List, ℕ, ℤ, ◌-◌, ◌^◌, ◌<◌, pos, neg_ℤ, ◌-ℤ◌, length, take, drop, arith, ◌∙◌}
use lib.IntN.{+ℤ_idl}
use lib.ListN.{length-drop}
use lib.Seq.{take_all}
use mir.Syntax.{w64}
use mir.Val.{SFits, to_z}
use Rattle.signed.proofs.Sizes.{fits-abs, abs-sub}
use Rattle.maps.proofs.Words.{word, word-is, number_is}
use Rattle.wang_judge.proofs.peak_of.Goals as goal

low_fits : (top : ℕ) → top < 2 ^ 32 → SFits w64 (pos 0 -ℤ pos top)
low_fits top h = fits-abs (pos 0 -ℤ pos top) (omega (arith, abs-sub (pos 0) (pos top)))

low-is : (top : ℕ) → top < 2 ^ 32 → word (pos 0 -ℤ to_z w64 top) ≡ neg_ℤ (pos top)
low-is top h = rw (number_is top (omega arith)) (word-is (pos 0 -ℤ pos top) (low_fits top h) ∙ +ℤ_idl (neg_ℤ (pos top)))

part-is : (l : List ℤ) (at : ℕ) → take (length l - at) (drop at l) ≡ drop at l
part-is l at = take_all (length l - at) (drop at l) (omega (arith, length-drop at l))

pub sparse_wang_box_peak-requires : goal.sparse_wang_box_peak-requires
sparse_wang_box_peak-requires c =
    let a = c.args in
    rw (c.from-low.ensures, c.from.ensures, low-is a.q_max c.ranges.q_max.fits, number_is a.r_max (omega arith), part-is a.s.now a.at) c.requires.1
