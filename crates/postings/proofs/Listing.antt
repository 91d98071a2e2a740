-- Entries that a list names: noted one by one, and found again while entries in front of them move. Assumes nothing.
use mathlib.Core.Path.{◌≡◌, refl}
use mathlib.Core.Logic.{⊎_elim}
use mathlib.Core.Bool.{Bool, true, false}
use mathlib.Core.List.{List, [], ◌∷◌}
use Prim.Native.Nat.{ℕ, zero, suc, ◌+◌, ◌*◌, ◌≤◌, ◌<◌, min}
use native.Mathlib.Numerals.{add-one}
use native.Mathlib.Omega.{arith}
use lib.ListN.{length, get_or, take, set, length-set}
use lib.Seq.{get_or-set_same, get_or-set_other, get_or-take, length-take-le}
use lib.Dec.{eqb}
use Rattle.lists.proofs.Tests.{le-or-lt}
use Rattle.postings.specs.Retain.{staying, Within, Until, behind_listed, Listed, Noted}
use Rattle.postings.proofs.Compact.{Done, same_word, others-none, others-more}
use Rattle.postings.proofs.Search.{until-same}

-- ---- a list that is used

pub listed-none : (t : ℕ → Bool) (w p f : ℕ) (s l : List ℕ) → Listed t w p f s l 0
listed-none t w p f s l = record { room = omega arith; next = λ k h. absurd (omega arith); within = λ k h. absurd (omega arith) }

pub listed_same : (t u : ℕ → Bool) (w p f : ℕ) (s l : List ℕ) (c : ℕ) → ((x : ℕ) → t x ≡ u x) → Listed u w p f s l c → Listed t w p f s l c
listed_same t u w p f s l c h d = record {
  room = d.room;
  next = λ k lt. until-same t u w p f s (behind_listed l k) (get_or l k 0) h (d.next k lt);
  within = d.within;
}

-- the first c places that a list names, cut off
behind-front : (l : List ℕ) (c k : ℕ) → c ≤ length l → k ≤ c → behind_listed (take c l) k ≡ behind_listed l k
unfolding behind_listed
behind-front l c zero h a = refl
behind-front l c (suc k) h a = rw (get_or-take c l k 0 (omega arith))

pub listed-front : (t : ℕ → Bool) (w p f : ℕ) (s l : List ℕ) (c : ℕ) → Listed t w p f s l c → Listed t w p f s (take c l) (length (take c l))
listed-front t w p f s l c d =
    let n = length-take-le c l d.room in
    record {
      room = omega arith;
      next = λ k h. let a : k < c = omega arith in rw (behind-front l c k d.room (omega arith), get_or-take c l k 0 a) (d.next k a);
      within = λ k h. let a : k < c = omega arith in rw (get_or-take c l k 0 a) (d.within k a);
    }

pub behind-none : (l : List ℕ) → behind_listed l 0 ≡ 0
unfolding behind_listed
behind-none l = refl

pub behind_more : (l : List ℕ) (k : ℕ) → behind_listed l (k + 1) ≡ get_or l k 0 + 1
unfolding behind_listed
behind_more l k = rw (add-one k) refl

-- the entries from i on are as they were
pub until-carried : (t : ℕ → Bool) (w f : ℕ) (xs s₀ s : List ℕ) (p i q : ℕ) → Within w p f s₀ 0 → i < p → Done w f xs s₀ s i q → (e : ℕ) → Until t w p f s₀ i e → Until t w p f s i e
until-carried t w f xs s₀ s p i q within ip d e u = record {
  since = u.since;
  within = u.within;
  before = λ j a l. rw (same_word w f xs s₀ s p i q within ip d j a) (u.before j a l);
  stop = λ l. rw (same_word w f xs s₀ s p i q within ip d e u.since) (u.stop l);
}

-- ---- a list that is made

pub noted-none : (w p f x : ℕ) (s l : List ℕ) → Noted w p f x s 0 l 0
noted-none w p f x s l = record {
  many = omega (arith, others-none w f x s);
  listed = let z : min 0 (length l) ≡ 0 = omega arith in rw z (listed-none (eqb x) w p f s l);
  since = λ h. omega (arith, behind-none l);
  rest = λ h j a lt. absurd (omega arith);
}

module _ (w p f x : ℕ) (s : List ℕ) (i : ℕ) (l : List ℕ) (c : ℕ) (field : f < w) (ip : i < p) (d : Noted w p f x s i l c) where
  -- another word
  pub noted_other : eqb x (get_or s (w * i + f) 0) ≡ false → Noted w p f x s (i + 1) l c
  noted_other e = record {
    many = omega (arith, d.many, rw e at (others-more w f x s i field));
    listed = d.listed;
    since = λ h. omega (arith, d.since h);
    rest = λ h j a lt. ⊎_elim
        (λ (g : i ≤ j). let m : j ≡ i = omega arith in rw m e)
        (λ (g : j < i). d.rest h j a g)
        (le-or-lt i j);
  }

  module _ (e : eqb x (get_or s (w * i + f) 0) ≡ true) where
    counted : (c + 1) + length (staying w (i + 1) f (x ∷ []) s) ≡ i + 1
    counted = omega (arith, d.many, rw e at (others-more w f x s i field))

    -- the word, where the list is full
    pub noted-full : length l ≤ c → Noted w p f x s (i + 1) l (c + 1)
    noted-full h = record {
      many = counted;
      listed = let z : min (c + 1) (length l) ≡ min c (length l) = omega arith in rw z d.listed;
      since = λ g. absurd (omega arith);
      rest = λ g. absurd (omega arith);
    }

    -- and where it has room
    module _ (h : c < length l) where
      abbrev l' : List ℕ
      l' = set l c i

      held : min c (length l) ≡ c
      held = omega arith

      before : Listed (eqb x) w p f s l c
      before = rw held at d.listed

      earlier : (k : ℕ) → k < c → get_or (set l c i) k 0 ≡ get_or l k 0
      earlier k lt = get_or-set_other l c k i 0 (λ z. omega arith)

      behind-same : (k : ℕ) → k ≤ c → behind_listed (set l c i) k ≡ behind_listed l k
      unfolding behind_listed
      behind-same zero lt = refl
      behind-same (suc k) lt = rw (earlier k (omega arith))

      last : Until (eqb x) w p f s (behind_listed l c) i
      last = record { since = d.since (omega arith); within = omega arith; before = λ j a b. d.rest h j a b; stop = λ _. e }

      next-all : (k : ℕ) → k < c + 1 → Until (eqb x) w p f s (behind_listed (set l c i) k) (get_or (set l c i) k 0)
      next-all k lt = ⊎_elim
          (λ (g : c ≤ k). let m : k ≡ c = omega arith in rw (m, behind-same c (omega arith), get_or-set_same l c i 0 h) last)
          (λ (g : k < c). rw (behind-same k (omega arith), earlier k g) (before.next k g))
          (le-or-lt c k)

      pub noted-put : Noted w p f x s (i + 1) (set l c i) (c + 1)
      noted-put = record {
        many = counted;
        listed = let z : min (c + 1) (length (set l c i)) ≡ c + 1 = simp length-set (omega arith) in rw z (record {
          room = simp length-set (omega arith);
          next = next-all;
          within = λ k lt. ⊎_elim
              (λ (g : c ≤ k). let m : k ≡ c = omega arith in rw (m, get_or-set_same l c i 0 h) ip)
              (λ (g : k < c). rw (earlier k g) (before.within k g))
              (le-or-lt c k);
        });
        since = λ g. rw (behind_more (set l c i) c, get_or-set_same l c i 0 h) (omega arith);
        rest = λ g j a lt. absurd (omega (arith, rw (behind_more (set l c i) c, get_or-set_same l c i 0 h) at a));
      }
