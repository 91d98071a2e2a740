-- Laws of entries: a search among ascending keys, and the part of the words under a key. Assumes nothing.
use mathlib.Core.Path.{◌≡◌, sym, ap, ◌∙◌, subst}
use mathlib.Core.Logic.{◌⊎◌, inl, inr, ⊎_elim}
use mathlib.Core.Bool.{Bool, true}
use mathlib.Core.List.{List, [], append-nil}
use Prim.Native.Nat.{ℕ, zero, suc, ◌+◌, ◌*◌, ◌-◌, ◌≤◌, ◌<◌, min}
use native.Mathlib.Nat.{eq-or-lt_of_le, lt_of_lt_of_le, mul-sub, mul-le-mul_right, one-mul}
use native.Mathlib.Omega.{arith}
use lib.ListN.{length, take, drop}
use lib.Dec.{leb, ltb, eqb}
use borrow.Author.Tests.{lt-ltb, le-ltb, eq-eqb, ne_eqb}
use Rattle.lists.specs.Lists.{flat, All}
use Rattle.lists.specs.Keys.{under}
use Rattle.lists.specs.Entries.{entries, entry_at, key_of, key_at, keys_ascend}
use Rattle.lists.proofs.Tests.{le-or-lt}
use Rattle.lists.proofs.Every.{every-at, every-make}
use Rattle.lists.proofs.Keep.{length-flat, all_keep}
use Rattle.lists.proofs.Entries.{keys-le, entry_key, wide-entries, entries-flat, kept-range}
use Rattle.maps.specs.Sums.{when}
use Rattle.maps.specs.Entries.{first_at, Split}
use Rattle.maps.proofs.Sums.{sum-zero, sum-flat}

-- a number is at most its multiple
pub scale-le : (w n : ℕ) → 1 ≤ w → n ≤ w * n
scale-le w n h = rw one-mul at (mul-le-mul_right n h)

-- is the key of entry i at most the next?
abbrev pub key_step : List ℕ → ℕ → ℕ → Bool
key_step ps w i = leb (key_at ps w i) (key_at ps w (i + 1))

-- ---- a search among ascending keys
module _ (ps : List ℕ) (w : ℕ) where
  pub ascend-prefix : (q p : ℕ) → q ≤ p → keys_ascend ps w p ≡ true → keys_ascend ps w q ≡ true
  unfolding keys_ascend
  ascend-prefix q p h t = every-make step (q - 1) (λ i l. every-at step (p - 1) i t (omega arith))
    where
      step : ℕ → Bool
      step i = leb (key_at ps w i) (key_at ps w (i + 1))

  -- what parts the first p entries is the first entry at the key
  pub split-first : (p key r : ℕ) → Split ps w 0 p key r → first_at ps w p key ≡ r
  unfolding first_at
  split-first p key r s =
      let f : ℕ → ℕ = λ i. when (ltb (key_at ps w i) key) 1 in
      let a = sum-flat f 0 r 1 s.since (λ i u l. ap (λ (b : Bool). when b 1) (lt-ltb (key_at ps w i) key (s.below i u l))) in
      let b = sum-flat f r p 0 s.within (λ i u l. ap (λ (b : Bool). when b 1) (le-ltb (key_at ps w i) key (s.above i u l))) in
      omega (arith, a, b, sum-zero f)

  splits : (p key : ℕ) → ((i j : ℕ) → i ≤ j → j < p → key_at ps w i ≤ key_at ps w j) → (r : ℕ) × Split ps w 0 p key r
  splits zero key up = (0, record { since = omega arith; within = omega arith; below = λ i u h. absurd (omega arith); above = λ i h l. absurd (omega arith) })
  splits (suc p) key up = go (splits p key (λ i j h l. up i j h (omega arith))) (le-or-lt key (key_at ps w p))
    where
      go : (r : ℕ) × Split ps w 0 p key r → (key ≤ key_at ps w p) ⊎ (key_at ps w p < key) → (r : ℕ) × Split ps w 0 (suc p) key r
      go s (inl k) = (
        s.0,
        record {
          since = s.1.since;
          within = omega (arith, s.1.within);
          below = s.1.below;
          above = λ i h l. ⊎_elim (λ (e : i ≡ p). rw e k) (λ (m : i < p). s.1.above i h m) (eq-or-lt_of_le (omega arith));
        },
      )
      go s (inr k) = (
        suc p,
        record {
          since = omega arith;
          within = omega arith;
          below = λ i u h. omega (arith, up i p (omega arith) (omega arith));
          above = λ i h l. absurd (omega arith);
        },
      )

  -- where keys ascend, the first entry at a key parts the entries
  pub first-splits : (p key : ℕ) → keys_ascend ps w p ≡ true → Split ps w 0 p key (first_at ps w p key)
  first-splits p key t =
      let s = splits p key (keys-le w p ps t) in
      subst (Split ps w 0 p key) (sym (split-first p key s.0 s.1)) s.1

  -- what parts entries among which the first at the key stands is that entry
  pub first-among : (p key from to r : ℕ) → keys_ascend ps w p ≡ true → from ≤ first_at ps w p key → first_at ps w p key ≤ to → to ≤ p
      → Split ps w from to key r → r ≡ first_at ps w p key
  first-among p key from to r t lo hi top s = go (le-or-lt r (first_at ps w p key)) (le-or-lt (first_at ps w p key) r)
    where
      f : Split ps w 0 p key (first_at ps w p key)
      f = first-splits p key t

      go : (r ≤ first_at ps w p key) ⊎ (first_at ps w p key < r) → (first_at ps w p key ≤ r) ⊎ (r < first_at ps w p key) → r ≡ first_at ps w p key
      go (inl a) (inl b) = omega arith
      go (inr a) b = absurd (omega (arith, s.below (first_at ps w p key) lo a, f.above (first_at ps w p key) (omega arith) (omega (arith, s.within))))
      go (inl a) (inr b) = absurd (omega (arith, f.below r (omega arith) b, s.above r (omega arith) (omega arith)))

  -- the first entry at a key stands after an entry below the key, and not after one at the key or above
  module _ (p key at : ℕ) (t : keys_ascend ps w p ≡ true) (h : at < p) where
    pub first-after : key_at ps w at < key → at < first_at ps w p key
    first-after k = go (le-or-lt (first_at ps w p key) at)
      where
        go : (first_at ps w p key ≤ at) ⊎ (at < first_at ps w p key) → at < first_at ps w p key
        go (inl l) = absurd (omega (arith, (first-splits p key t).above at l h))
        go (inr l) = l

    pub first-upto : key ≤ key_at ps w at → first_at ps w p key ≤ at
    first-upto k = go (le-or-lt (first_at ps w p key) at)
      where
        go : (first_at ps w p key ≤ at) ⊎ (at < first_at ps w p key) → first_at ps w p key ≤ at
        go (inl l) = l
        go (inr l) = absurd (omega (arith, (first-splits p key t).below at (omega arith) l))

  -- the first entry at a key comes no later than the first above it
  pub first-le : (p key : ℕ) → keys_ascend ps w p ≡ true → first_at ps w p key ≤ first_at ps w p (key + 1)
  first-le p key t =
      let s = first-splits p key t in
      let u = first-splits p (key + 1) t in
      ⊎_elim (λ (h : first_at ps w p key ≤ first_at ps w p (key + 1)). h)
      (λ (h : first_at ps w p (key + 1) < first_at ps w p key).
      absurd (omega (arith, s.below (first_at ps w p (key + 1)) (omega arith) h, u.above (first_at ps w p (key + 1)) (omega arith) (lt_of_lt_of_le h s.within))))
      (le-or-lt (first_at ps w p key) (first_at ps w p (key + 1)))

  -- the entries under a key are a part of the words
  pub under-part : (p key a b : ℕ) → 1 ≤ w → keys_ascend ps w p ≡ true → a ≡ first_at ps w p key → b ≡ first_at ps w p (key + 1)
      → flat (under key_of key (entries w p ps)) ≡ take (w * b - w * a) (drop (w * a) ps)
  under-part p key a b w1 t ea eb =
      let s = subst (Split ps w 0 p key) (sym ea) (first-splits p key t) in
      let u = subst (Split ps w 0 p (key + 1)) (sym eb) (first-splits p (key + 1) t) in
      let e : min p b ≡ b = omega (arith, u.within) in
      kept-range (λ e. eqb (key_of e) key) w ps a b (omega (arith, first-le p key t))
      (λ i h. ne_eqb (key_of (entry_at w i ps)) key (λ q. omega (arith, entry_key w i ps w1, s.below i (omega arith) h)))
      (λ i h h'. eq-eqb (key_of (entry_at w i ps)) key (omega (arith, entry_key w i ps w1, s.above i h (omega (arith, u.within)), u.below i (omega arith) h')))
      p (λ i h h'. ne_eqb (key_of (entry_at w i ps)) key (λ q. omega (arith, entry_key w i ps w1, u.above i h h')))
      ∙ rw (e, mul-sub)

-- ---- what is read of the part under a key
module _ (ps : List ℕ) (w p key : ℕ) (fits : w * p ≤ length ps) where
  pub under-wide : All (λ e. length e ≡ w) (under key_of key (entries w p ps))
  under-wide = all_keep (λ e. length e ≡ w) (λ e. eqb (key_of e) key) (entries w p ps) (wide-entries w p ps fits)

  pub part_length : length (flat (under key_of key (entries w p ps))) ≡ w * length (under key_of key (entries w p ps))
  part_length = length-flat w (under key_of key (entries w p ps)) under-wide

  -- its entries are those under the key
  pub part-entries : entries w (length (under key_of key (entries w p ps))) (flat (under key_of key (entries w p ps))) ≡ under key_of key (entries w p ps)
  part-entries = rw append-nil at (entries-flat w (under key_of key (entries w p ps)) [] under-wide)
