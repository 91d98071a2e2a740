-- Stopped keys, looked for among the postings one after the other. Assumes nothing.
use mathlib.Core.Path.{◌≡◌, sym, ◌∙◌}
use mathlib.Core.Logic.{⊎_elim}
use mathlib.Core.Bool.{true, false, ◌&&◌}
use mathlib.Core.List.{List}
use Prim.Native.Nat.{ℕ, ◌+◌, ◌-◌, ◌≤◌, ◌<◌}
use native.Mathlib.Omega.{arith}
use Rattle.std.proofs.lemmas.List.{get_or-take, length-take-le}
use lib.ListN.{length, get_or, take}
use lib.Dec.{ltb, eqb}
use borrow.Author.Tests.{ltb-true, lt-ltb, le-ltb, eq-eqb, ne_eqb, eqb-true, eqb-false}
use Rattle.lists.specs.Every.{every}
use Rattle.lists.specs.Entries.{key_at, keys_ascend, zero_from}
use Rattle.lists.proofs.Tests.{le-or-lt, and_left, and_right, yes_and}
use Rattle.lists.proofs.Every.{every-at, every-make, every-fail, every-same}
use Rattle.lists.proofs.Entries.{keys-le}
use Rattle.model.specs.Soundness.{stopped_step, other_key, key_unstopped}
use Rattle.maps.specs.Entries.{first_at, Split}
use Rattle.maps.proofs.Entries.{first-splits}
use Rattle.soundness.specs.Scan.{stops_ascend, stopped_sound}

module _ (ss : List ℕ) (i : ℕ) where
  pub step-yes : get_or ss i 0 < get_or ss (i + 1) 0 → stopped_step ss i ≡ true
  unfolding stopped_step
  step-yes h = lt-ltb (get_or ss i 0) (get_or ss (i + 1) 0) h

  pub step-no : get_or ss (i + 1) 0 ≤ get_or ss i 0 → stopped_step ss i ≡ false
  unfolding stopped_step
  step-no h = le-ltb (get_or ss i 0) (get_or ss (i + 1) 0) h

  step-lt : stopped_step ss i ≡ true → get_or ss i 0 < get_or ss (i + 1) 0
  unfolding stopped_step
  step-lt e = ltb-true (get_or ss i 0) (get_or ss (i + 1) 0) e

stops-lt : (ss : List ℕ) (k : ℕ) → stops_ascend ss k ≡ true → (i : ℕ) → i + 1 < k → get_or ss i 0 < get_or ss (i + 1) 0
unfolding stops_ascend
stops-lt ss k t i h = step-lt ss i (every-at (stopped_step ss) (k - 1) i t (omega arith))

other-yes : (ss : List ℕ) (x j : ℕ) → (get_or ss j 0 ≡ x → ⊥) → other_key ss x j ≡ true
unfolding other_key
other-yes ss x j h = rw (ne_eqb (get_or ss j 0) x h)

other-no : (ss : List ℕ) (x j : ℕ) → get_or ss j 0 ≡ x → other_key ss x j ≡ false
unfolding other_key
other-no ss x j h = rw (eq-eqb (get_or ss j 0) x h)

-- the first j stopped keys are no posting's, and the first i postings' keys are below the next one
pub record Walked (w : ℕ) (ss : List ℕ) (k : ℕ) (ps : List ℕ) (p i j : ℕ) : Type 0 where
  pub none : (a b : ℕ) → a < j → b < p → get_or ss a 0 ≡ key_at ps w b → ⊥
  pub past : (b : ℕ) → b < i → j < k → key_at ps w b < get_or ss j 0

pub walked_none : (w : ℕ) (ss : List ℕ) (k : ℕ) (ps : List ℕ) (p : ℕ) → Walked w ss k ps p 0 0
walked_none w ss k ps p = record { none = λ a b h. absurd (omega arith); past = λ b h. absurd (omega arith) }

module _ (w : ℕ) (ss : List ℕ) (k : ℕ) (ps : List ℕ) (p i j : ℕ) (w1 : 1 ≤ w) (up : keys_ascend ps w p ≡ true) (sa : stops_ascend ss k ≡ true) (hj : j < k)
    (within : i ≤ p) (s : Walked w ss k ps p i j) where
  abbrev key : ℕ
  key = get_or ss j 0

  split : Split ps w 0 p key (first_at ps w p key)
  split = first-splits ps w p key (up)

  -- the search may start at i
  pub since : i ≤ first_at ps w p key
  since = ⊎_elim
      (λ (h : i ≤ first_at ps w p key). h)
      (λ (h : first_at ps w p key < i). absurd (omega (arith, s.past (first_at ps w p key) h hj, split.above (first_at ps w p key) (omega arith) (omega arith))))
      (le-or-lt i (first_at ps w p key))

  module _ {r : ℕ} (e : r ≡ first_at ps w p key) where
    found : Split ps w 0 p key r
    found = rw e split

    pub inside : r ≤ p
    inside = found.within

    pub walked-hit : ltb r p && eqb (key_at ps w r) key ≡ true → every p (key_unstopped w ss k ps) ≡ false
    unfolding key_unstopped
    walked-hit t =
        every-fail (key_unstopped w ss k ps) p r (ltb-true r p (and_left (ltb r p) (eqb (key_at ps w r) key) t))
        (every-fail (other_key ss (key_at ps w r)) k j hj (other-no ss (key_at ps w r) j (sym (eqb-true (key_at ps w r) key (and_right (ltb r p) (eqb (key_at ps w r) key) t)))))

    -- no posting has this key
    differs : ltb r p && eqb (key_at ps w r) key ≡ false → (b : ℕ) → b < p → key ≡ key_at ps w b → ⊥
    differs t b hb q = ⊎_elim
        (λ (h : r ≤ b).
        let rp : r < p = omega arith in
        eqb-false (key_at ps w r) key (sym (yes_and (ltb r p) (eqb (key_at ps w r) key) (lt-ltb r p rp)) ∙ t)
        (omega (arith, found.above r (omega arith) rp, keys-le w p ps up r b h hb)))
        (λ (h : b < r). omega (arith, found.below b (omega arith) h))
        (le-or-lt r b)

    pub walked_more : ltb r p && eqb (key_at ps w r) key ≡ false → Walked w ss k ps p r (j + 1)
    walked_more t = record {
      none = λ a b ha hb q. ⊎_elim
          (λ (h : j ≤ a). let z : a ≡ j = omega arith in differs t b hb (rw z at q))
          (λ (h : a < j). s.none a b h hb q)
          (le-or-lt j a);
      past = λ b hb h. omega (arith, found.below b (omega arith) hb, stops-lt ss k sa j h);
    }

pub walked-out : (w : ℕ) (ss : List ℕ) (k : ℕ) (ps : List ℕ) (p i : ℕ) → Walked w ss k ps p i k → every p (key_unstopped w ss k ps) ≡ true
unfolding key_unstopped
walked-out w ss k ps p i s =
    every-make (key_unstopped w ss k ps) p (λ b hb. every-make (other_key ss (key_at ps w b)) k (λ a ha. other-yes ss (key_at ps w b) a (λ e. s.none a b ha hb e)))

-- the first k stopped keys alone say the same
module _ (ss : List ℕ) (k : ℕ) (h : k ≤ length ss) where
  long : length (take k ss) ≡ k
  long = length-take-le k ss h

  pub stops-front : stops_ascend (take k ss) (length (take k ss)) ≡ stops_ascend ss k
  unfolding stops_ascend stopped_step
  stops-front = rw long (every-same (stopped_step (take k ss)) (stopped_step ss) (k - 1) (λ i l.
      let a : i < k = omega arith in
      let b : i + 1 < k = omega arith in
      rw (get_or-take k ss i 0 a, get_or-take k ss (i + 1) 0 b)))

  pub none-front : (w : ℕ) (ps : List ℕ) (p : ℕ) → every p (key_unstopped w (take k ss) (length (take k ss)) ps) ≡ every p (key_unstopped w ss k ps)
  unfolding key_unstopped other_key
  none-front w ps p = rw long (every-same (key_unstopped w (take k ss) k ps) (key_unstopped w ss k ps) p (λ i l.
      every-same (other_key (take k ss) (key_at ps w i)) (other_key ss (key_at ps w i)) k (λ j m. rw (get_or-take k ss j 0 m))))

  -- so the stopped keys are sound exactly if the first k ascend, no posting has one of them, and the rest are zero
  pub stops-yes : (w : ℕ) (ps : List ℕ) (p : ℕ) → stops_ascend (take k ss) (length (take k ss)) ≡ true
      → every p (key_unstopped w (take k ss) (length (take k ss)) ps) ≡ true → stopped_sound w ss k ps p ≡ zero_from ss k
  unfolding stopped_sound
  stops-yes w ps p a b = rw (sym stops-front ∙ a, sym (none-front w ps p) ∙ b)

  pub stops-none : (w : ℕ) (ps : List ℕ) (p : ℕ) → stops_ascend (take k ss) (length (take k ss)) ≡ true
      → every p (key_unstopped w (take k ss) (length (take k ss)) ps) ≡ false → stopped_sound w ss k ps p ≡ false
  unfolding stopped_sound
  stops-none w ps p a b = rw (sym stops-front ∙ a, sym (none-front w ps p) ∙ b)

  pub stops-no : (w : ℕ) (ps : List ℕ) (p : ℕ) → stops_ascend (take k ss) (length (take k ss)) ≡ false → stopped_sound w ss k ps p ≡ false
  unfolding stopped_sound
  stops-no w ps p a = rw (sym stops-front ∙ a)

pub ruleset stops = (stops-yes, stops-none, stops-no)
