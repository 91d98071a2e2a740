-- "the first v vacant entries name each once": of a sound index, every dead id is a vacant entry, and no two entries are the same. Assumes nothing.
use mathlib.Core.Path.{◌≡◌, refl, ◌∙◌}
use mathlib.Core.Bool.{Bool, true, false, not, ◌&&◌, and-true, and-false}
use mathlib.Core.Option.{none}
use Prim.Native.Nat.{ℕ, ◌+◌, ◌≤◌, ◌<◌}
use native.Mathlib.Omega.{arith}
use lib.ListN.{length, get_or}
use lib.Dec.{eqb}
use borrow.Author.Tests.{eqb-false, eq-eqb, ne_eqb}
use Rattle.lists.specs.Lists.{member}
use Rattle.lists.specs.Every.{count}
use Rattle.lists.proofs.Tests.{test}
use Rattle.lists.proofs.Every.{count-more}
use Rattle.lists.proofs.Keep.{none_pass, all-at, all-make, count-keep}
use Rattle.lists.proofs.Ordered.{Distinct, ordered-pairs, distinct-le}
use Rattle.model.specs.Index.{Index}
use Rattle.model.specs.Calls.{Sizes}
use Rattle.model.specs.Sound.{is_dead, Sound}

module _ (w : ℕ) (z : Sizes) (x : Index) (h : Sound w z x) where
  pub vacant-distinct : Distinct x.vacant
  vacant-distinct = ordered-pairs (λ a b. a ≡ b → ⊥) x.vacant 0 (λ i j lt le e. let same = h.once i j (omega arith) le e in omega arith)

  pub dead-named : (j : ℕ) → j < length x.rows → get_or x.rows j none ≡ none → member j x.vacant ≡ true
  dead-named j lt e = test (member j x.vacant) (λ d. d) (λ d. absurd (omega (arith, few d, all-dead, one_more)))
    where
      dead : ℕ → Bool
      dead i = is_dead (get_or x.rows i none)

      others : ℕ → Bool
      others i = dead i && not (eqb i j)

      all-dead : count (length x.rows) dead ≡ length x.vacant
      all-dead = count-keep is_dead x.rows none ∙ h.as_many

      one_more : count (length x.rows) dead ≡ count (length x.rows) others + 1
      one_more = count-more others dead j (rw (eq-eqb j j refl, and-false)) (rw e) (λ i ne. rw (ne_eqb i j ne, and-true)) (length x.rows) lt

      few : member j x.vacant ≡ false → length x.vacant ≤ count (length x.rows) others
      few d = distinct-le x.vacant (length x.rows) others vacant-distinct
          (all-make (λ i. (i < length x.rows) × (others i ≡ true)) x.vacant 0 (λ i le.
          let ne = eqb-false (get_or x.vacant i 0) j (all-at (λ k. eqb k j ≡ false) x.vacant 0 (none_pass (λ k. eqb k j) x.vacant d) i le) in
          (h.within i le, rw (h.dead i le, ne_eqb (get_or x.vacant i 0) j ne))))
