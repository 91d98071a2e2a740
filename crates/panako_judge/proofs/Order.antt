-- The (scale, offset) order of votes is strict and total, and it is that of codes. Assumes nothing.
use mathlib.Core.Path.{◌≡◌, refl, sym, ap, ◌∙◌}
use mathlib.Core.Bool.{Bool, true, false, ◌&&◌}
use Prim.Native.Nat.{ℕ, ◌/◌, ◌%◌, ◌^◌, ◌≤◌, ◌<◌}
use native.Mathlib.Omega.{arith}
use native.Mathlib.Decide.{dec_lt}
use lib.IntN.{ℤ, pos, negsuc, neg_ℤ, nat_abs, ◌+ℤ◌, ◌-ℤ◌, +ℤ_idl, +ℤ_invr, -ℤ-+ℤ_cancel}
use lib.Signed.{lt_z}
use lib.Dec.{eqb, ltb}
use borrow.Author.Tests.{ltb-true, ltb-false, eqb-true, lt-ltb, le-ltb, lt-leb, eq-eqb}
use Rattle.lists.proofs.Tests.{test, not-both, both_ways, and_left, and_right, yes_and, both_true, or-false-left, or-false-right, or_left, or_right, or_else}
use Rattle.maps.proofs.Tests.{is_true}
use Rattle.signed.proofs.Order.{le_z-lt_z, never}
use Rattle.consolidate.proofs.Spans.{le-shift}
use Rattle.hough.specs.Hough.{gap}
use Rattle.panako_vote.specs.declared.Vote.{Vote}
use Rattle.panako_vote.specs.Words.{middle, code_of, vote_of_code}
use Rattle.panako_vote.proofs.Words.{code-back}
use Rattle.panako_judge.specs.Judge.{same_bin, before}

-- ---- offsets

below_irrefl : (a : ℤ) → lt_z a a ≡ false
below_irrefl (pos a) = le-ltb a a (omega arith)
below_irrefl (negsuc a) = le-ltb a a (omega arith)

below-trans : (a b c : ℤ) → lt_z a b ≡ true → lt_z b c ≡ true → lt_z a c ≡ true
below-trans (pos a) (pos b) (pos c) h k = lt-ltb a c (omega (arith, ltb-true a b h, ltb-true b c k))
below-trans (pos a) (pos b) (negsuc c) h k = k
below-trans (pos a) (negsuc b) c h k = never h
below-trans (negsuc a) b (pos c) h k = refl
below-trans (negsuc a) (pos b) (negsuc c) h k = never k
below-trans (negsuc a) (negsuc b) (negsuc c) h k = lt-ltb c a (omega (arith, ltb-true b a h, ltb-true c b k))

below_total : (a b : ℤ) → lt_z a b ≡ false → lt_z b a ≡ false → a ≡ b
below_total (pos a) (pos b) h k = let e : a ≡ b = omega (arith, ltb-false a b h, ltb-false b a k) in ap pos e
below_total (pos a) (negsuc b) h k = never (sym k)
below_total (negsuc a) (pos b) h k = never (sym h)
below_total (negsuc a) (negsuc b) h k = let e : a ≡ b = omega (arith, ltb-false b a h, ltb-false a b k) in ap negsuc e

no_size : (z : ℤ) → nat_abs z ≡ 0 → z ≡ pos 0
no_size (pos n) h = ap pos h
no_size (negsuc n) h = absurd (omega arith)

no_gap : (a b : ℤ) → gap a b ≡ 0 → a ≡ b
no_gap a b h = sym (-ℤ-+ℤ_cancel a b) ∙ ap (λ (z : ℤ). z +ℤ b) (no_size (a -ℤ b) h) ∙ +ℤ_idl b

-- ---- votes

vote-is : (v u : Vote) → v.bin ≡ u.bin → v.offset ≡ u.offset → v ≡ u
vote-is v u b o = λ i. record { bin = b i; offset = o i }

pub same-is : (v u : Vote) → same_bin v u ≡ true → v ≡ u
same-is v u h =
    let bins = eqb v.bin u.bin in
    let offsets = eqb (gap v.offset u.offset) 0 in
    vote-is v u (eqb-true v.bin u.bin (and_left bins offsets h)) (no_gap v.offset u.offset (eqb-true (gap v.offset u.offset) 0 (and_right bins offsets h)))

pub is_same : (v : Vote) → same_bin v v ≡ true
is_same v = both_true (eqb v.bin v.bin) (eqb (gap v.offset v.offset) 0) (eq-eqb v.bin v.bin refl) (eq-eqb (gap v.offset v.offset) 0 (ap nat_abs (+ℤ_invr v.offset)))

-- u stands after v
abbrev pub Before : Vote → Vote → Type 0
Before v u = before v u ≡ true

module _ (v u : Vote) where
  abbrev lower : Bool
  lower = ltb v.bin u.bin

  abbrev level : Bool
  level = eqb v.bin u.bin

  abbrev under : Bool
  under = lt_z v.offset u.offset

  by-bin : v.bin < u.bin → Before v u
  by-bin h = or_left lower (level && under) (lt-ltb v.bin u.bin h)

  by-offset : v.bin ≡ u.bin → under ≡ true → Before v u
  by-offset e h = or_right lower (level && under) (both_true level under (eq-eqb v.bin u.bin e) h)

  by-either : {C : Type 0} → Before v u → (v.bin < u.bin → C) → (v.bin ≡ u.bin → under ≡ true → C) → C
  by-either h f g =
      test lower (λ e. f (ltb-true v.bin u.bin e))
      (λ e. let k = or_else lower (level && under) h e in g (eqb-true v.bin u.bin (and_left level under k)) (and_right level under k))

  not_lower : before v u ≡ false → u.bin ≤ v.bin
  not_lower h = ltb-false v.bin u.bin (or-false-left lower (level && under) h)

  not-under : before v u ≡ false → v.bin ≡ u.bin → under ≡ false
  not-under h e = sym (yes_and level under (eq-eqb v.bin u.bin e)) ∙ or-false-right lower (level && under) h

pub before-irrefl : (v : Vote) → before v v ≡ false
before-irrefl v = test (before v v) (λ h. by-either v v h (λ l. absurd (omega arith)) (λ e l. absurd (not-both l (below_irrefl v.offset)))) (λ h. h)

pub before-trans : (v u w : Vote) → Before v u → Before u w → Before v w
before-trans v u w h k =
    by-either v u h
    (λ a. by-either u w k (λ b. by-bin v w (omega arith)) (λ b o. by-bin v w (omega arith)))
    (λ a o. by-either u w k (λ b. by-bin v w (omega arith)) (λ b p. by-offset v w (a ∙ b) (below-trans v.offset u.offset w.offset o p)))

before-asym : (v u : Vote) → Before v u → before u v ≡ false
before-asym v u h = test (before u v) (λ k. absurd (not-both (before-trans v u v h k) (before-irrefl v))) (λ k. k)

pub before-total : (v u : Vote) → before v u ≡ false → before u v ≡ false → v ≡ u
before-total v u h k =
    let same : v.bin ≡ u.bin = omega (arith, not_lower v u h, not_lower u v k) in
    vote-is v u same (below_total v.offset u.offset (not-under v u h same) (not-under u v k (sym same)))

-- ---- codes

-- the votes of ascending codes ascend
pub codes-before : (j k : ℕ) → j < k → Before (vote_of_code j) (vote_of_code k)
codes-before j k h = go (dec_lt (j / 2 ^ 40) (k / 2 ^ 40))
  where
    go : Dec (j / 2 ^ 40 < k / 2 ^ 40) → Before (vote_of_code j) (vote_of_code k)
    go (yes p) = by-bin (vote_of_code j) (vote_of_code k) p
    go (no p) =
        let a = (vote_of_code j).offset in
        let b = (vote_of_code k).offset in
        let e = le-shift (neg_ℤ (pos middle)) (k % 2 ^ 40) (j % 2 ^ 40) ∙ lt-leb (k % 2 ^ 40) (j % 2 ^ 40) (omega arith) in
        by-offset (vote_of_code j) (vote_of_code k) (omega arith) (is_true (lt_z a b) (le_z-lt_z a b e))

-- and no others do
pub before-codes : (j k : ℕ) → before (vote_of_code j) (vote_of_code k) ≡ ltb j k
before-codes j k = test (ltb j k) (λ e. codes-before j k (ltb-true j k e) ∙ sym e) (λ e. go (dec_lt k j) (ltb-false j k e) ∙ sym e)
  where
    go : Dec (k < j) → k ≤ j → before (vote_of_code j) (vote_of_code k) ≡ false
    go (yes p) l = before-asym (vote_of_code k) (vote_of_code j) (codes-before k j p)
    go (no p) l = let e : k ≡ j = omega arith in rw e (before-irrefl (vote_of_code j))

pub same_codes : (j k : ℕ) → same_bin (vote_of_code j) (vote_of_code k) ≡ eqb j k
same_codes j k =
    both_ways (same_bin (vote_of_code j) (vote_of_code k)) (eqb j k)
    (λ h. eq-eqb j k (sym (code-back j) ∙ ap code_of (same-is (vote_of_code j) (vote_of_code k) h) ∙ code-back k))
    (λ e. rw (eqb-true j k e) (is_same (vote_of_code k)))
