-- A walk that retains: what stands in the slice when i of its words were looked at and n of them kept. Assumes nothing.
use mathlib.Core.Path.{◌≡◌, refl, sym, ap, ◌∙◌}
use mathlib.Core.Bool.{Bool, true, false, cond}
use mathlib.Core.List.{List, [], ◌∷◌, ◌++◌, append-nil}
use Prim.Native.Nat.{ℕ, suc, ◌+◌, ◌≤◌, ◌<◌}
use native.Mathlib.Omega.{arith}
use lib.IntN.{ℤ, pos}
use lib.ListN.{length, get_or, take, set, length-set}
use lib.Seq.{take-suc-set, take-set-le, get_or-set_other}
use Rattle.lists.specs.Lists.{keep}
use Rattle.lists.proofs.Keep.{keep-nil, keep-more}
use Rattle.lists.proofs.Tests.{test}
use Rattle.maps.specs.Sums.{when}

module _ (p : ℤ → Bool) where
  pub record Kept (l₀ l : List ℤ) (n i : ℕ) : Type 0 where
    pub below : n ≤ i
    pub size : length l ≡ length l₀
    pub held : take n l ≡ keep p (take i l₀)
    pub rest : (t : ℕ) → i ≤ t → get_or l t (pos 0) ≡ get_or l₀ t (pos 0)

  pub kept-none : (l : List ℤ) → Kept l l 0 0
  kept-none l = record { below = omega arith; size = refl; held = sym (keep-nil p); rest = λ t h. refl }

  pub kept_more : (l₀ l : List ℤ) (n i more : ℕ) (w : ℤ) → i < length l₀ → w ≡ get_or l i (pos 0) → more ≡ when (p (get_or l i (pos 0))) 1 → Kept l₀ l n i → Kept l₀ (set l n w) (n + more) (i + 1)
  kept_more l₀ l n i more w h we e k = test (p x) yes no
    where
      x : ℤ
      x = get_or l₀ i (pos 0)

      same : get_or l i (pos 0) ≡ x
      same = k.rest i (omega arith)

      is : w ≡ x
      is = we ∙ same

      next : i + 1 ≡ suc i
      next = omega arith

      rest : (t : ℕ) → i + 1 ≤ t → get_or (set l n w) t (pos 0) ≡ get_or l₀ t (pos 0)
      rest t u = get_or-set_other l n t w (pos 0) (λ z. omega (arith, k.below)) ∙ k.rest t (omega arith)

      yes : p x ≡ true → Kept l₀ (set l n w) (n + more) (i + 1)
      yes t =
          let one : more ≡ 1 = e ∙ ap (λ (z : ℤ). when (p z) 1) same ∙ ap (λ (b : Bool). when b 1) t in
          let m : n + more ≡ suc n = omega arith in
          record {
            below = omega (arith, k.below);
            size = length-set l n w ∙ k.size;
            held = rw (m, next) (take-suc-set l n w (omega (arith, k.below, k.size)) ∙ ap (λ (a : List ℤ). a ++ w ∷ []) k.held ∙ ap (λ (z : ℤ). keep p (take i l₀) ++ z ∷ []) is ∙ sym (keep-more p l₀ i (pos 0) h ∙ ap (λ (b : Bool). keep p (take i l₀) ++ cond b (x ∷ []) []) t));
            rest = rest;
          }

      no : p x ≡ false → Kept l₀ (set l n w) (n + more) (i + 1)
      no t =
          let none : more ≡ 0 = e ∙ ap (λ (z : ℤ). when (p z) 1) same ∙ ap (λ (b : Bool). when b 1) t in
          let m : n + more ≡ n = omega arith in
          record {
            below = omega (arith, k.below);
            size = length-set l n w ∙ k.size;
            held = rw (m, next) (take-set-le n l n w (omega arith) ∙ k.held ∙ sym (keep-more p l₀ i (pos 0) h ∙ ap (λ (b : Bool). keep p (take i l₀) ++ cond b (x ∷ []) []) t ∙ append-nil (keep p (take i l₀))));
            rest = rest;
          }
