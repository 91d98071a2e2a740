-- Laws of words that are stored one after the other. Assumes nothing.
use mathlib.Core.Path.{◌≡◌, refl, sym, ap, ◌∙◌}
use mathlib.Core.List.{List, [], ◌∷◌, ◌++◌, append_assoc}
use Prim.Native.Nat.{ℕ, suc, ◌+◌, ◌≤◌}
use native.Mathlib.Omega.{arith}
use lib.IntN.{ℤ}
use lib.ListN.{length, set, take, drop, length-set}
use lib.Seq.{take-add, take-set-le, take-suc-set, drop-append_seam, length-take-le}
use Rattle.maps.specs.Words.{SameOutside}
use Rattle.maps.proofs.Words.{outside_set}
use Rattle.bins.specs.Codes.{stored}

pub stored-length : (s : List ℤ) (j : ℕ) (ws : List ℤ) → length (stored s j ws) ≡ length s
stored-length s j [] = refl
stored-length s j (w ∷ ws) = stored-length (set s j w) (j + 1) ws ∙ length-set s j w

-- words behind those that were stored
pub stored_more : (s : List ℤ) (j : ℕ) (xs ys : List ℤ) → stored (stored s j xs) (j + length xs) ys ≡ stored s j (xs ++ ys)
stored_more s j [] ys = let e : j + 0 ≡ j = omega arith in rw e refl
stored_more s j (x ∷ xs) ys =
    let ih = stored_more (set s j x) (j + 1) xs ys in
    let e : j + suc (length xs) ≡ j + 1 + length xs = omega arith in
    rw e ih

-- words before those that were stored
pub stored-before : (s : List ℤ) (j : ℕ) (ws : List ℤ) (k : ℕ) → k ≤ j → take k (stored s j ws) ≡ take k s
stored-before s j [] k h = refl
stored-before s j (w ∷ ws) k h = stored-before (set s j w) (j + 1) ws k (omega arith) ∙ take-set-le k s j w h

pub stored-outside : (s₀ s : List ℤ) (d e j : ℕ) (ws : List ℤ) → SameOutside s₀ s d e → d ≤ j → j + length ws ≤ e → SameOutside s₀ (stored s j ws) d e
stored-outside s₀ s d e j [] S h k = S
stored-outside s₀ s d e j (w ∷ ws) S h k = stored-outside s₀ (set s j w) d e (j + 1) ws (outside_set s₀ s d e j w S h (omega arith)) (omega arith) (omega arith)

stored-take : (s : List ℤ) (j : ℕ) (ws : List ℤ) → j + length ws ≤ length s → take (j + length ws) (stored s j ws) ≡ take j s ++ ws
stored-take s j [] h = let e : j + 0 ≡ j = omega arith in rw e (sym (mathlib.Core.List.append-nil (take j s)))
stored-take s j (w ∷ ws) h =
    let e : j + suc (length ws) ≡ j + 1 + length ws = omega arith in
    let f : j + 1 ≡ suc j = omega arith in
    let ih = stored-take (set s j w) (j + 1) ws (omega (arith, length-set s j w)) in
    rw e (ih ∙ ap (λ (k : ℕ). take k (set s j w) ++ ws) f ∙ ap (λ (l : List ℤ). l ++ ws) (take-suc-set s j w (omega arith)) ∙ append_assoc (take j s) (w ∷ []) ws)

-- the words that were stored are there
pub stored-read : (s : List ℤ) (j : ℕ) (ws : List ℤ) → j + length ws ≤ length s → take (length ws) (drop j (stored s j ws)) ≡ ws
stored-read s j ws h =
    let l = stored s j ws in
    let X = take (length ws) (drop j l) in
    let n = length-take-le j l (omega (arith, stored-length s j ws)) in
    let m = length-take-le j s (omega arith) in
    sym (drop-append_seam (take j l) X)
    ∙ ap (λ (k : ℕ). drop k (take j l ++ X)) n
    ∙ ap (drop j) (sym (take-add j (length ws) l) ∙ stored-take s j ws h)
    ∙ ap (λ (k : ℕ). drop k (take j s ++ ws)) (sym m)
    ∙ drop-append_seam (take j s) ws
