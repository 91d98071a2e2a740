-- The occupied bins are such as the Hough walk takes. Assumes nothing.
use mathlib.Core.Path.{◌≡◌, ap, ◌∙◌}
use mathlib.Core.Bool.{true}
use mathlib.Core.List.{List}
use Prim.Native.Nat.{ℕ, ◌+◌, ◌*◌, ◌/◌, ◌%◌, ◌^◌, ◌≤◌, ◌<◌}
use native.Mathlib.Omega.{arith}
use lib.IntN.{ℤ, pos, nat_abs}
use lib.ListN.{length, get_or}
use Rattle.lists.specs.Lists.{All}
use Rattle.lists.proofs.Keep.{all-at}
use Rattle.maps.proofs.Sums.{sum-cong}
use Rattle.maps.proofs.Tests.{holds}
use Rattle.signed.proofs.Sizes.{sub-dist}
use Rattle.hough.specs.Hough.{scale, votes}
use Rattle.hough.specs.Limits.{Bins}
use Rattle.panako_vote.specs.Words.{middle, vote_of_code}
use Rattle.panako_judge.specs.Candidates.{panako_form}
use Rattle.bins.specs.Codes.{occupied, how_often, bins_of}
use Rattle.bins.proofs.Occupied.{length-counts, occupied-all, occupied-few, key, keys-up, keys-held, bins-length, bins-at}
use Rattle.panako_judge.proofs.Order.{codes-before}

offset-close : (k : ℕ) → nat_abs (vote_of_code k).offset ≤ 2 ^ 39
offset-close k = omega (arith, sub-dist (k % 2 ^ 40) middle)

-- ---- the bins of codes that have 52 bits

module _ (ks : List ℕ) where
  abbrev bins : List ℤ
  bins = bins_of panako_form middle ks

  module _ (i : ℕ) (h : i < length (occupied ks)) where
    scale_at : get_or bins (3 * i) (pos 0) ≡ pos (key ks i / 2 ^ 40)
    scale_at = let e : 3 * i ≡ 3 * i + 0 = omega arith in ap (λ (k : ℕ). get_or bins k (pos 0)) e ∙ bins-at panako_form middle ks i 0 h (omega arith)

    offset_at : get_or bins (3 * i + 1) (pos 0) ≡ (vote_of_code (key ks i)).offset
    offset_at = bins-at panako_form middle ks i 1 h (omega arith)

    count_at : get_or bins (3 * i + 2) (pos 0) ≡ pos (how_often ks (key ks i))
    count_at = bins-at panako_form middle ks i 2 h (omega arith)

    scale-is : scale bins i ≡ key ks i / 2 ^ 40
    scale-is = ap nat_abs scale_at

    votes-are : votes bins i ≡ how_often ks (key ks i)
    votes-are = ap nat_abs count_at

  pub bins-taken : All (λ k. k < 2 ^ 52) ks → length ks ≤ 1000000 → Bins bins (length (occupied ks))
  bins-taken small few =
      record {
        few = omega (arith, occupied-few ks);
        room = omega (arith, bins-length panako_form middle ks);
        scaled = λ i h. rw (scale_at i h) tt;
        scales = λ i h. omega (arith, scale-is i h, all-at (λ k. k < 2 ^ 52) (occupied ks) 0 (occupied-all (λ k. k < 2 ^ 52) ks small) i h);
        close = λ i h. rw (offset_at i h) (offset-close (key ks i));
        counted = λ i h. rw (count_at i h) tt;
        ascend = λ i h. rw (offset_at i (omega arith), offset_at (i + 1) h, scale-is i (omega arith), scale-is (i + 1) h) (holds (codes-before (key ks i) (key ks (i + 1)) (keys-up ks i (i + 1) (omega arith) h)));
        sum = omega (arith, sum-cong (votes bins) (λ i. how_often ks (key ks i)) (length (occupied ks)) votes-are, keys-held ks (2 ^ 52) small (λ k. true), length-counts ks);
      }
