-- Few keys are over a limit: each of them stands more often than it. Assumes nothing.
use mathlib.Core.Path.{◌≡◌, refl, sym, ap, ◌∙◌}
use mathlib.Core.Bool.{false, not}
use mathlib.Core.List.{List, [], ◌∷◌, map}
use Prim.Native.Nat.{ℕ, suc, ◌+◌, ◌*◌, ◌/◌, ◌≤◌, ◌<◌}
use native.Mathlib.Nat.{mul-zero, mul-suc, mul_comm, le-div_iff_mul-le}
use native.Mathlib.Omega.{arith}
use lib.ListN.{length, length-map}
use lib.Dec.{eqb, ltb}
use borrow.Author.Tests.{ltb-true, le-ltb, ne_eqb}
use Rattle.lists.specs.Lists.{keep, All, sum}
use Rattle.lists.specs.Keys.{Ascending, times}
use Rattle.lists.proofs.Tests.{test}
use Rattle.lists.proofs.Keep.{all-imp, all_both, all-of-key}
use Rattle.build_ranges.specs.Codes.{in_order, Fit}
use Rattle.build_stops.specs.Over.{key_in, over_keys}
use Rattle.build_stops.proofs.Over.{member-over, ascending-over}
use Rattle.build_stops.proofs.Walk.{sum-hashes, length-codes}

-- the keys other than k
abbrev others : ℕ → List ℕ → List ℕ
others k l = keep (λ x. not (eqb x k)) l

split_off : (k : ℕ) (l : List ℕ) → length l ≡ times k l + length (others k l)
unfolding keep
split_off k [] = refl
split_off k (x ∷ l) = let ih = split_off k l in test (eqb x k) (λ e. rw e (omega arith)) (λ e. rw e (omega arith))

times-others : (k j : ℕ) (l : List ℕ) → k < j → times j (others k l) ≡ times j l
unfolding keep
times-others k j [] h = refl
times-others k j (x ∷ l) h =
    let ih = times-others k j l h in
    test (eqb x k)
    (λ e. let ne : eqb x j ≡ false = ne_eqb x j (λ d. omega (arith, borrow.Author.Tests.eqb-true x k e)) in rw (e, ne) ih)
    (λ e. rw e (test (eqb x j) (λ d. rw d (ap suc ih)) (λ d. rw d ih)))

few : (limit : ℕ) (S l : List ℕ) → Ascending (λ k. k) S → All (λ k. limit < times k l) S → (limit + 1) * length S ≤ length l
few limit [] l h a = rw mul-zero (omega arith)
few limit (k ∷ S) l h a =
    let rest : All (λ j. limit < times j (others k l)) S =
    all-imp (λ j. (k < j) × (limit < times j l)) (λ j. limit < times j (others k l)) (λ j g. rw (times-others k j l g.0) g.1) S (all_both (λ j. k < j) (λ j. limit < times j l) S h.0 a.1) in
    let ih = few limit S (others k l) h.1 rest in
    rw mul-suc (omega (arith, split_off k l, a.0))

-- "more postings than the call's limit" each
pub over-few : (limit : ℕ) (l : List ℕ) → (limit + 1) * length (over_keys limit l) ≤ length l
over-few limit l = few limit (over_keys limit l) l (ascending-over limit l)
    (all-of-key (λ k. k) (λ k. limit < times k l) (over_keys limit l) (λ k m. ltb-true limit (times k l) (sym (member-over limit l k) ∙ m)))

-- so where there is room for as many, there is room
pub over-room : (words : List ℕ) (v : ℕ) (lengths : List ℕ) (limit room : ℕ) → Fit words v lengths → length words / v / (limit + 1) ≤ room
    → ltb room (length (over_keys limit (map key_in (in_order words v lengths)))) ≡ false
over-room words v lengths limit room fit h =
    let keys : List ℕ = map key_in (in_order words v lengths) in
    let many : length keys ≡ sum lengths = length-map (in_order words v lengths) key_in ∙ length-codes words v lengths in
    let n = length (over_keys limit keys) in
    let s = sum-hashes words v lengths fit in
    let k : n ≤ length words / v / (limit + 1) = (le-div_iff_mul-le {k = limit + 1} {x = n} (omega arith)).1 (rw (mul_comm n (limit + 1)) (omega (arith, over-few limit keys))) in
    le-ltb room n (omega arith)
