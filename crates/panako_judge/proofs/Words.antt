-- The votes in the words of the scratch, and the part of it that holds their bins. Assumes nothing.
use mathlib.Core.Path.{◌≡◌, refl, sym, ap, ◌∙◌}
use mathlib.Core.Bool.{true, cond}
use mathlib.Core.List.{List, map}
use Prim.Native.Nat.{ℕ, ◌+◌, ◌*◌, ◌^◌, ◌≤◌, ◌<◌}
use native.Mathlib.Omega.{arith}
use lib.IntN.{ℤ}
use lib.ListN.{length, take, drop, length-drop}
use lib.Seq.{length-take-le}
use lib.Ieee.{Float}
use Rattle.lists.proofs.Tests.{test}
use Rattle.lists.proofs.Keep.{map-map}
use Rattle.maps.specs.Words.{SameOutside}
use Rattle.maps.proofs.Words.{outside-none}
use Rattle.bins.specs.Codes.{code_in, codes_in, occupied, bins_of, stored}
use Rattle.bins.proofs.Stored.{stored-length, stored-before, stored-outside, stored-read}
use Rattle.bins.proofs.Occupied.{occupied-few, occupied-some, bins-length}
use Rattle.bins.proofs.Binning.{codes-length, codes-each}
use Rattle.few_bins.specs.Tally.{is_few, few_of}
use Rattle.hough.specs.Limits.{Bins}
use Rattle.std.specs.Prelude as code
use Rattle.std.specs.Prelude.{Option}
use Rattle.matching.specs.declared.MatchResult.{MatchResult}
use Rattle.gates.proofs.Passing.{Weighed}
use Rattle.panako_judge.specs.Judge as votes
use Rattle.panako_vote.specs.Words.{middle, vote_of_code}
use Rattle.panako_judge.specs.Judge.{bin_count, seen_of, thresholds_of, at_peak, result_of}
use Rattle.panako_judge.specs.Candidates.{panako_form, vote_in, votes_in, Binned}
use Rattle.panako_judge.specs.declared.PanakoQuery.{PanakoQuery}
use Rattle.panako_judge.proofs.Occupied.{count-codes, bins-codes}
use Rattle.panako_judge.proofs.Binned.{bins-taken}

module _ (s : List ℤ) (a g : ℕ) (fits : a + g ≤ length s) where
  pub votes-length : length (votes_in s a g) ≡ g
  votes-length = lib.ListN.length-map (take g (drop a s)) vote_in ∙ length-take-le g (drop a s) (omega (arith, length-drop a s))

  -- they are those of the words' codes, and so are their bins
  by_codes : votes_in s a g ≡ map vote_of_code (codes_in panako_form s a g)
  by_codes = sym (map-map vote_of_code (code_in panako_form) (take g (drop a s)))

  bins-by-codes : votes.hough_bins (votes_in s a g) ≡ bins_of panako_form middle (codes_in panako_form s a g)
  bins-by-codes = ap votes.hough_bins by_codes ∙ bins-codes (codes_in panako_form s a g)

  count-by-codes : bin_count (votes_in s a g) ≡ length (occupied (codes_in panako_form s a g))
  count-by-codes = ap bin_count by_codes ∙ count-codes (codes_in panako_form s a g)

  -- n bins of theirs, as words
  module _ (n : ℕ) (l : List ℤ) (number : n ≡ bin_count (votes_in s a g)) (words : l ≡ votes.hough_bins (votes_in s a g)) where
    pub bins-good : g ≤ 1000000 → Bins l n
    bins-good few =
        rw (words, number, bins-by-codes, count-by-codes)
        (bins-taken (codes_in panako_form s a g) (codes-each panako_form s a g fits (λ k. k < 2 ^ 52) (λ t h. omega arith)) (omega (arith, codes-length panako_form s a g fits)))

    pub bins-some : 0 < g → 0 < n
    bins-some some = omega (arith, number, count-by-codes, occupied-some (codes_in panako_form s a g) (omega (arith, codes-length panako_form s a g fits)))

    -- what the gates say of them
    pub weighed-bins : (q : PanakoQuery) (fps : Float) (v : Option MatchResult)
        → Weighed (thresholds_of q) (at_peak (seen_of q l n)) (result_of q fps (seen_of q l n)) v
        → Weighed (thresholds_of q) (at_peak (seen_of q (votes.hough_bins (votes_in s a g)) (bin_count (votes_in s a g)))) (result_of q fps (seen_of q (votes.hough_bins (votes_in s a g)) (bin_count (votes_in s a g)))) v
    weighed-bins q fps v w = rw (words, number) at w

  -- from `at` on, where there is room, their n bins were stored
  module _ (at n : ℕ) (l : List ℤ) (room : at + 4 * g ≤ length s) (number : n ≡ length (occupied (codes_in panako_form s a g))) (written : l ≡ stored s at (bins_of panako_form middle (codes_in panako_form s a g))) where
    pub bins-few : n ≤ g
    bins-few = omega (arith, occupied-few (codes_in panako_form s a g), codes-length panako_form s a g fits)

    pub bins-number : n ≡ bin_count (votes_in s a g)
    bins-number = number ∙ sym count-by-codes

    pub bins-outside : SameOutside s l at (at + 4 * g)
    bins-outside = rw written (stored-outside s s at (at + 4 * g) at (bins_of panako_form middle (codes_in panako_form s a g)) (outside-none s at (at + 4 * g)) (omega arith) (omega (arith, bins-length panako_form middle (codes_in panako_form s a g), bins-few)))

    -- the part that holds them
    part-words : take (3 * n) (drop at l) ≡ bins_of panako_form middle (codes_in panako_form s a g)
    part-words =
        let bins = bins_of panako_form middle (codes_in panako_form s a g) in
        let k = bins-length panako_form middle (codes_in panako_form s a g) in
        let e : 3 * n ≡ length bins = omega (arith, k, number) in
        rw (e, written) (stored-read s at bins (omega (arith, k, number, bins-few)))

    pub part-is : take (3 * n) (drop at l) ≡ votes.hough_bins (votes_in s a g)
    part-is = part-words ∙ sym bins-by-codes

    -- behind the votes: they are as they were, and the bins stand there
    pub few-binned : a ≡ 0 → g ≤ at → (take g l ≡ take g s) × Binned l g at n
    few-binned e before =
        let kept : take g l ≡ take g s = rw written (stored-before s at (bins_of panako_form middle (codes_in panako_form s a g)) g before) in
        let same : votes_in l 0 g ≡ votes_in s a g = rw e (ap (map vote_in) kept) in (
          kept,
          record {
            before = before;
            room = omega (arith, bins-few, ap length written, stored-length s at (bins_of panako_form middle (codes_in panako_form s a g)));
            number = bins-number ∙ ap bin_count (sym same);
            bins = part-is ∙ ap votes.hough_bins (sym same);
          },
        )

-- what `count_few` says of the first g votes, whether it counted them or not
module _ (s l : List ℤ) (g at : ℕ) (r : code.Option ℕ) (before : g ≤ at) (room : at + 4 * g ≤ length s) (told : r ≡ few_of (length (occupied (codes_in panako_form s 0 g))))
    (left : l ≡ cond (is_few (length (occupied (codes_in panako_form s 0 g)))) (stored s at (bins_of panako_form middle (codes_in panako_form s 0 g))) s) where
  binned : is_few (length (occupied (codes_in panako_form s 0 g))) ≡ true → (take g l ≡ take g s) × Binned l g at (length (occupied (codes_in panako_form s 0 g)))
  binned t = few-binned s 0 g (omega arith) at (length (occupied (codes_in panako_form s 0 g))) l room refl (rw t at left) refl before

  pub few-number : r ≡ few_of (bin_count (votes_in s 0 g))
  few-number = told ∙ ap few_of (sym (count-by-codes s 0 g (omega arith)))

  pub few-counted : code.IfSome r (λ n. Binned l g at n) × (take g l ≡ take g s)
  few-counted = test (is_few (length (occupied (codes_in panako_form s 0 g))))
      (λ t. let e : r ≡ code.Some (length (occupied (codes_in panako_form s 0 g))) = told ∙ rw t refl in (rw e (binned t).1, (binned t).0))
      (λ f. let z : r ≡ code.None = told ∙ rw f refl in let e : l ≡ s = rw f at left in (rw z tt, ap (take g) e))
