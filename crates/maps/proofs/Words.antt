-- Signed words. A signed local holds bits: what is read of it is `word z`, which is z where z fits. Assumes nothing.
use mathlib.Core.Path.{◌≡◌, refl, ap, ◌∙◌}
use mathlib.Core.Bool.{true}
use mathlib.Core.List.{List, [], ◌∷◌, map}
use Prim.Native.Nat.{ℕ, zero, suc, ◌<◌, ◌≤◌, ◌^◌}
use native.Mathlib.Omega.{arith}
use lib.Dec.{T}
use lib.IntN.{ℤ, pos, negsuc, nat_abs}
use lib.Signed.{le_z, mag, non_neg}
use lib.ListN.{get_or, set}
use lib.Seq.{get_or-set_other}
use mir.Syntax.{w64}
use mir.Val.{SFits, Fits, to_z, of_z}
use mir.Facts.{to_z-of_z}
use Rattle.maps.specs.Words.{nat_of, SameOutside}

-- what the machine reads back of the 64 bits of z
abbrev pub word : ℤ → ℤ
word z = to_z w64 (of_z w64 z)

pub word-is : (z : ℤ) → SFits w64 z → word z ≡ z
word-is z h = to_z-of_z h

-- of a word that was read through a reference its bound is known
pub read_is : (z : ℤ) → mag z < 2 ^ 63 → word z ≡ z
read_is z h = word-is z (record { sfits = h })

pub number_is : (v : ℕ) → v < 2 ^ 63 → to_z w64 v ≡ pos v
number_is v h = read_is (pos v) h

-- ---- the natural number in a word

pub natural-fits : (z : ℤ) → mag z < 2 ^ 63 → le_z (pos 0) z ≡ true → T (non_neg z) × Fits w64 (nat_abs z)
natural-fits (pos n) h t = (tt, omega arith)
natural-fits (negsuc n) h t = let e : ◌≡◌ {A = ℕ} 0 1 = cc in absurd (omega arith)

pub natural-is : (z : ℤ) → mag z < 2 ^ 63 → le_z (pos 0) z ≡ true → (nat_abs z ≡ nat_of z) × (nat_abs z < 2 ^ 63)
natural-is (pos n) h t = (refl, h)
natural-is (negsuc n) h t = let e : ◌≡◌ {A = ℕ} 0 1 = cc in absurd (omega arith)

-- words that hold numbers: what `word_at` reads of them, and what `put_word` leaves
pub word-pos : (ns : List ℕ) (i : ℕ) → nat_of (get_or (map pos ns) i (pos 0)) ≡ get_or ns i 0
word-pos [] i = refl
word-pos (x ∷ xs) zero = refl
word-pos (x ∷ xs) (suc i) = word-pos xs i

pub put-pos : (ns : List ℕ) (i v : ℕ) → set (map pos ns) i (pos v) ≡ map pos (set ns i v)
put-pos [] i v = refl
put-pos (x ∷ xs) zero v = refl
put-pos (x ∷ xs) (suc i) v = ap (λ (l : List ℤ). pos x ∷ l) (put-pos xs i v)

-- ---- words that are not changed

pub outside-none : (w : List ℤ) (d e : ℕ) → SameOutside w w d e
outside-none w d e = record { before = λ t h. refl; after = λ t h. refl }

pub outside_set : (w₀ w : List ℤ) (d e i : ℕ) (v : ℤ) → SameOutside w₀ w d e → d ≤ i → i < e → SameOutside w₀ (set w i v) d e
outside_set w₀ w d e i v S a b = record {
  before = λ t h. get_or-set_other w i t v (pos 0) (λ q. omega arith) ∙ S.before t h;
  after = λ t h. get_or-set_other w i t v (pos 0) (λ q. omega arith) ∙ S.after t h;
}

pub outside-widen : (w₀ w : List ℤ) (d e f : ℕ) → SameOutside w₀ w d e → e ≤ f → SameOutside w₀ w d f
outside-widen w₀ w d e f S h = record { before = S.before; after = λ t k. S.after t (omega arith) }
