-- Laws for the walk that counts: the words of a buffer, and prefixes of what is sorted. Assumes nothing.
use mathlib.Core.Path.{◌≡◌, sym, ap, ◌∙◌}
use mathlib.Core.Bool.{Bool, true, false, cond}
use mathlib.Core.List.{List, [], ◌∷◌, ◌++◌, map, map-append, append_assoc}
use Prim.Native.Nat.{ℕ, suc, ◌+◌, ◌≤◌, ◌<◌}
use native.Mathlib.Numerals.{add-one}
use native.Mathlib.Omega.{arith}
use lib.Dec.{eqb}
use lib.IntN.{ℤ, pos}
use lib.ListN.{length, get_or, take, drop, length-map, take-append-drop}
use lib.Seq.{take-suc, drop-cons}
use Rattle.lists.specs.Lists.{All}
use Rattle.lists.specs.Keys.{Sorted}
use Rattle.maps.specs.Words.{nat_of}
use Rattle.maps.proofs.Words.{word-pos}
use Rattle.build_stops.specs.Over.{key_in, Counted}
use Rattle.build_stops.proofs.Over.{counted-more}

-- word t of a buffer
pub word-is : (buf : List ℤ) (cs : List ℕ) (t : ℕ) → buf ≡ map pos cs → nat_of (get_or buf t (pos 0)) ≡ get_or cs t 0
word-is buf cs t e = ap (λ l. nat_of (get_or l t (pos 0))) e ∙ word-pos cs t

pub words-many : (buf : List ℤ) (cs : List ℕ) → buf ≡ map pos cs → length cs ≡ length buf
words-many buf cs e = sym (length-map cs pos) ∙ ap length (sym e)

sorted_before : (a : List ℕ) (x : ℕ) (b : List ℕ) → Sorted (λ k. k) (a ++ x ∷ b) → All (λ y. y ≤ x) a
sorted_before [] x b h = tt
sorted_before (y ∷ a) x b h = (first a h.0, sorted_before a x b h.1)
  where
    first : (a : List ℕ) → All (λ z. y ≤ z) (a ++ x ∷ b) → y ≤ x
    first [] g = g.0
    first (z ∷ a) g = first a g.1

module _ (l cs : List ℕ) (t : ℕ) (h : t < length cs) where
  abbrev x : ℕ
  x = key_in (get_or cs t 0)

  -- one key more of the walk
  pub keys-more : l ++ map key_in (take (t + 1) cs) ≡ (l ++ map key_in (take t cs)) ++ x ∷ []
  keys-more =
      rw (add-one, take-suc cs t 0 h, map-append key_in (take t cs) (get_or cs t 0 ∷ []))
      (sym (append_assoc l (map key_in (take t cs)) (x ∷ [])))

  pub keys-before : Sorted (λ k. k) (l ++ map key_in cs) → All (λ y. y ≤ key_in (get_or cs t 0)) (l ++ map key_in (take t cs))
  keys-before s =
      let split : map key_in cs ≡ map key_in (take t cs) ++ x ∷ map key_in (drop (suc t) cs) =
      ap (map key_in) (sym (take-append-drop t cs)) ∙ map-append key_in (take t cs) (drop t cs) ∙ rw (drop-cons cs t 0 h) in
      sorted_before (l ++ map key_in (take t cs)) x (map key_in (drop (suc t) cs)) (rw (append_assoc l (map key_in (take t cs)) (x ∷ map key_in (drop (suc t) cs)), ← split) s)

-- a turn of the walk
pub count_turn : (limit : ℕ) (buf : List ℤ) (l cs : List ℕ) (t key run many k run' hit : ℕ) → buf ≡ map pos cs → t < length buf
    → Sorted (λ k. k) (l ++ map key_in cs) → k ≡ key_in (nat_of (get_or buf t (pos 0)))
    → run' ≡ cond (eqb k key) (run + 1) 1 → hit ≡ cond (eqb run' (limit + 1)) 1 0
    → Counted limit (l ++ map key_in (take t cs)) key run many → Counted limit (l ++ map key_in (take (t + 1) cs)) k run' (many + hit)
count_turn limit buf l cs t key run many k run' hit e h s ek er eh c =
    let lt : t < length cs = omega (arith, words-many buf cs e) in
    let kk : k ≡ key_in (get_or cs t 0) = ek ∙ ap key_in (word-is buf cs t e) in
    rw (keys-more l cs t lt, ← kk)
    (counted-more limit (l ++ map key_in (take t cs)) key run many k run' (many + hit) c (rw (← kk) at (keys-before l cs t lt s)) er (ap (λ n. many + n) eh))

pub next_le : (run : ℕ) (b : Bool) → cond b (run + 1) 1 ≤ run + 1
next_le run true = omega arith
next_le run false = omega arith

pub hit_le : (b : Bool) → cond b 1 0 ≤ 1
hit_le true = omega arith
hit_le false = omega arith
