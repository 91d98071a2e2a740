-- The words that are kept, by what the code finds. Assumes nothing.
use mathlib.Core.Path.{◌≡◌, refl, sym, ap, ◌∙◌}
use mathlib.Core.Bool.{Bool, cond, ◌&&◌}
use mathlib.Core.List.{List, [], ◌∷◌}
use native.Mathlib.Omega.{arith}
use Prim.Native.Nat.{ℕ, ◌-◌, ◌≤◌, ◌<◌}
use lib.IntN.{ℤ, pos}
use lib.ListN.{length, get_or, take}
use lib.Seq.{get_or-take, length-take-le}
use lib.Dec.{ltb}
use Rattle.lists.specs.Lists.{keep, All}
use Rattle.lists.proofs.Keep.{all_keep}
use Rattle.lists.proofs.Tests.{test}
use Rattle.maps.specs.Lists.{count_if}
use Rattle.bins.specs.Votes.{lead_of}
use Rattle.main_votes.specs.Main.{has_lead, main_lead, others, main_of}

module _ (low bits least : ℕ) (s : List ℤ) where
  pub main-none : take 0 s ≡ main_of low bits least (take 0 s)
  unfolding main_of count_if
  main-none = refl

  pub main-is : (v : ℕ) → 0 < v → v ≤ length s → (lead n : ℕ) → lead ≡ lead_of low bits (get_or s 0 (pos 0)) → n ≡ count_if (has_lead low bits lead) (take v s)
      → (t : Bool) → (ltb 0 (v - n) && ltb (v - n) least) ≡ t → cond t (keep (has_lead low bits lead) (take v s)) (take v s) ≡ main_of low bits least (take v s)
  unfolding main_of
  main-is v some h lead n e c t et =
      let m : main_lead low bits (take v s) ≡ lead = ap (lead_of low bits) (get_or-take v s 0 (pos 0) some) ∙ sym e in
      rw (m, ← c, length-take-le v s h, et) refl

  -- the same of all words
  pub main-whole : (lead n : ℕ) → lead ≡ lead_of low bits (get_or s 0 (pos 0)) → n ≡ count_if (has_lead low bits lead) s
      → (t : Bool) → (ltb 0 (length s - n) && ltb (length s - n) least) ≡ t → cond t (keep (has_lead low bits lead) s) s ≡ main_of low bits least s
  unfolding main_of
  main-whole lead n e c t et = rw (← e, ← c, et) refl

  pub main-empty : length s ≡ 0 → ◌≡◌ {A = List ℤ} [] (main_of low bits least s)
  unfolding main_of count_if
  main-empty h = rw (nil s h) refl
    where
      nil : (l : List ℤ) → length l ≡ 0 → l ≡ []
      nil [] h = refl
      nil (x ∷ xs) h = absurd (omega arith)

  -- what holds of all words holds of those that are kept
  pub main-all : (P : ℤ → Type 0) → All P s → All P (main_of low bits least s)
  unfolding main_of
  main-all P h =
      let o = others low bits s in
      test (ltb 0 o && ltb o least) (λ e. rw e (all_keep P (has_lead low bits (main_lead low bits s)) s h)) (λ e. rw e h)
