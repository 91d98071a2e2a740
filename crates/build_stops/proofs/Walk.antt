-- Laws of a walk over all codes in ascending order, a range at a time. Assumes nothing.
use mathlib.Core.Path.{◌≡◌, sym, ap, ◌∙◌}
use mathlib.Core.Bool.{false, ◌&&◌}
use mathlib.Core.List.{List, [], ◌∷◌, ◌++◌, map}
use mathlib.Core.Logic.{⊎_elim}
use Prim.Native.Nat.{ℕ, ◌+◌, ◌*◌, ◌/◌, ◌≤◌, ◌<◌}
use native.Mathlib.Nat.{mul_comm, le-div_iff_mul-le}
use native.Mathlib.Omega.{arith}
use lib.ListN.{length, length-append, length-map}
use lib.Dec.{leb, ltb}
use borrow.Author.Tests.{lt-ltb, ltb-false}
use Rattle.lists.specs.Lists.{keep, All, sum}
use Rattle.lists.specs.Keys.{Sorted}
use Rattle.lists.proofs.Tests.{le-or-lt}
use Rattle.lists.proofs.Keep.{all-imp, all_map, length-keep}
use Rattle.lists.proofs.Place.{sorted-keep, sorted-map}
use Rattle.sorting.specs.Order.{sort}
use Rattle.sorting.proofs.Order.{length-sort}
use Rattle.build_ranges.specs.Codes.{ranks_from, hash_code, codes, in_order, within, top, Fit}
use Rattle.build_ranges.specs.Batches.{least, most_batches}
use Rattle.build_ranges.proofs.Ranks.{length-ranks, ranks-small}
use Rattle.build_ranges.proofs.Sorts.{all-sort, sorted_sort, keep-ranges, keep-below}
use Rattle.build_stops.specs.Over.{key_in}

sum-short : (ls : List ℕ) → All (λ n. n ≤ 8192) ls → sum ls ≤ 8192 * length ls
unfolding sum
sum-short [] a = omega arith
sum-short (n ∷ ls) a = let ih = sum-short ls a.1 in let h = a.0 in omega arith

pub sum-few : (words : List ℕ) (v : ℕ) (lengths : List ℕ) → Fit words v lengths → sum lengths ≤ 33554432
sum-few words v lengths fit = let few = fit.recordings in omega (arith, sum-short lengths fit.short)

pub sum-hashes : (words : List ℕ) (v : ℕ) (lengths : List ℕ) → Fit words v lengths → sum lengths ≤ length words / v
sum-hashes words v lengths fit = (le-div_iff_mul-le {k = v} {x = sum lengths} fit.some).1 (rw (mul_comm (sum lengths) v) fit.whole)

-- each batch but the last has `least` codes or more, so after as many batches as m hashes can be, none is left
pub batches-end : (m turns lo k : ℕ) → most_batches m ≤ turns → (lo < top → least * turns ≤ k) → k ≤ m → top ≤ lo
unfolding most_batches
batches-end m turns lo k most bound few = ⊎_elim (λ (h : top ≤ lo). h) (λ (h : lo < top). absurd (omega (arith, bound h))) (le-or-lt top lo)

module _ (words : List ℕ) (v : ℕ) (lengths : List ℕ) where
  abbrev pub W : List ℕ
  W = in_order words v lengths

  pub sorted-codes : Sorted (λ x. x) (in_order words v lengths)
  unfolding in_order
  sorted-codes = sorted_sort (codes words v lengths)

  pub length-codes : length (in_order words v lengths) ≡ sum lengths
  unfolding in_order codes
  length-codes = length-sort leb (codes words v lengths) ∙ length-map (ranks_from 0 lengths) (hash_code words v lengths) ∙ length-ranks 0 lengths

  -- the codes below lo
  abbrev pub done : ℕ → List ℕ
  done lo = keep (λ x. ltb x lo) (in_order words v lengths)

  pub done_more : (lo hi : ℕ) → lo ≤ hi → done hi ≡ done lo ++ keep (within lo hi) (in_order words v lengths)
  done_more lo hi h = keep-ranges lo hi h (in_order words v lengths) sorted-codes

  pub done-length : (lo hi n : ℕ) → lo ≤ hi → n ≡ length (keep (within lo hi) (in_order words v lengths)) → length (done hi) ≡ length (done lo) + n
  done-length lo hi n h e = ap length (done_more lo hi h) ∙ length-append (done lo) (keep (within lo hi) (in_order words v lengths)) ∙ ap (λ k. length (done lo) + k) (sym e)

  pub done-few : (lo : ℕ) → length (done lo) ≤ sum lengths
  done-few lo = omega (arith, length-codes, length-keep (λ x. ltb x lo) (in_order words v lengths))

  pub done_none : done 0 ≡ []
  done_none = Rattle.lists.proofs.Keep.keep-none (λ x. ltb x 0) (in_order words v lengths) (Rattle.lists.proofs.Keep.all_of (λ x. ltb x 0 ≡ mathlib.Core.Bool.false) (λ x. borrow.Author.Tests.le-ltb x 0 (omega arith)) (in_order words v lengths))

  -- the keys of the codes ascend
  pub sorted-keys : (lo : ℕ) → Sorted (λ k. k) (map key_in (done lo))
  sorted-keys lo = sorted-map (λ k. k) key_in (done lo) (mono (done lo) (sorted-keep (λ x. x) (λ x. ltb x lo) (in_order words v lengths) sorted-codes))
    where
      mono : (l : List ℕ) → Sorted (λ x. x) l → Sorted key_in l
      mono [] h = tt
      mono (x ∷ l) h = (all-imp (λ y. x ≤ y) (λ y. key_in x ≤ key_in y) (λ y g. omega arith) l h.0, mono l h.1)

  module _ (fit : Fit words v lengths) where
    codes-small : All (λ c. c < top) (codes words v lengths)
    unfolding codes hash_code
    codes-small = all_map (hash_code words v lengths) (λ c. c < top) (ranks_from 0 lengths)
        (all-imp (λ r. r < 33554432) (λ r. hash_code words v lengths r < top) (λ r h. omega (arith, fit.keys (v * Rattle.build_ranges.specs.Codes.hash_place lengths r))) (ranks_from 0 lengths) (ranks-small words v lengths fit))

    pub done_all : (lo : ℕ) → top ≤ lo → done lo ≡ in_order words v lengths
    unfolding in_order
    done_all lo h = keep-below lo (sort leb (codes words v lengths)) (all-imp (λ c. c < top) (λ c. c < lo) (λ c l. omega arith) (sort leb (codes words v lengths)) (all-sort (λ c. c < top) (codes words v lengths) codes-small))
