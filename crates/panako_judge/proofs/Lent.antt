-- The part of the scratch that is lent for a candidate's bins and sums. Assumes nothing.
use mathlib.Core.Path.{◌≡◌, sym, ap, ◌∙◌}
use mathlib.Core.List.{List}
use Prim.Native.Nat.{ℕ, ◌+◌, ◌-◌, ◌*◌, ◌≤◌}
use native.Mathlib.Omega.{arith}
use lib.IntN.{ℤ, pos}
use lib.ListN.{length, get_or, take, drop}
use lib.Seq.{get_or-take, get_or-drop, take-take}
use borrow.Rule.Slice.PartMut.{mid_of, put_mid, mid_len, take_put, drop_put}
use Rattle.maps.specs.Words.{SameOutside}
use Rattle.hough.specs.Limits.{Bins, Roomy}

module _ (s : List ℤ) (at n : ℕ) (room : at + 4 * n ≤ length s) where
  abbrev pub lent : List ℤ
  lent = mid_of at (at + 4 * n - at) s

  pub lent-bins : take (3 * n) lent ≡ take (3 * n) (drop at s)
  lent-bins = take-take (3 * n) (at + 4 * n - at) (drop at s) (omega arith)

  pub lent-roomy : Bins (take (3 * n) (drop at s)) n → Roomy lent n
  lent-roomy b = record { bins = rw lent-bins b; room = omega (arith, mid_len at (at + 4 * n) s room) }

  -- what was written to it
  pub lent_back : (s₀ ys : List ℤ) (e : ℕ) → length ys ≡ length lent → at + 4 * n ≤ e → SameOutside s₀ s at e → SameOutside s₀ (put_mid at (at + 4 * n - at) s ys) at e
  lent_back s₀ ys e len le S = record {
    before = λ t h.
        sym (get_or-take at back t (pos 0) h) ∙ ap (λ (l : List ℤ). get_or l t (pos 0)) (take_put at (at + 4 * n - at) s ys (omega arith)) ∙ get_or-take at s t (pos 0) h ∙ S.before t h;
    after = λ t h.
        let k : at + 4 * n + (t - (at + 4 * n)) ≡ t = omega arith in
        behind back t k
        ∙ ap (λ (l : List ℤ). get_or l (t - (at + 4 * n)) (pos 0)) (drop_put at (at + 4 * n) s ys (omega arith) room (len ∙ mid_len at (at + 4 * n) s room))
        ∙ sym (behind s t k) ∙ S.after t h;
  }
    where
      back : List ℤ
      back = put_mid at (at + 4 * n - at) s ys

      behind : (l : List ℤ) (t : ℕ) → at + 4 * n + (t - (at + 4 * n)) ≡ t → get_or l t (pos 0) ≡ get_or (drop (at + 4 * n) l) (t - (at + 4 * n)) (pos 0)
      behind l t k = sym (get_or-drop (at + 4 * n) l (t - (at + 4 * n)) (pos 0) ∙ ap (λ (i : ℕ). get_or l i (pos 0)) k)
