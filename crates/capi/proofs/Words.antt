-- Signed numbers as 64-bit words: what the proof of `word_of` cites. Assumes nothing.
use Rattle.std.proofs.Common.{◌≡◌, ℕ, suc, ◌-◌, ◌^◌, ◌<◌, ◌≤◌, true, false, T, ltb, ℤ, pos, negsuc, ◌-ℤ◌, nat_abs, sym, refl, ap, ◌∙◌, subst, arith, w64, Fits, SFits, to_z, of_z, le-ltb}
use lib.Signed.{lt_z, mag, non_neg}
use mir.ValLaws.{to_z-of_z}
use Rattle.capi.specs.Codes.{twos_complement}

-- what the machine reads back of the 64 bits of z
abbrev pub word : ℤ → ℤ
word z = to_z w64 (of_z w64 z)

pub word-is : (z : ℤ) → mag z < 2 ^ 63 → word z ≡ z
word-is z h = to_z-of_z w64 z (record { sfits = h })

-- a call's signed result, handed on
pub handed : (z y : ℤ) → mag z < 2 ^ 63 → z ≡ y → word z ≡ y
handed z y h e = word-is z h ∙ e

minus_one : (n : ℕ) → negsuc 0 -ℤ negsuc n ≡ pos n
minus_one n = rw (le-ltb (suc n) 1 (omega arith)) (ap pos (less n))
  where
    less : (n : ℕ) → suc n - 1 ≡ n
    less n = omega arith

-- below zero: -1 - z is a natural number
pub record Below (z y : ℤ) : Type 0 where
  pub fits : SFits w64 y
  pub natural : T (non_neg (word y)) × Fits w64 (nat_abs (word y))
  pub small : nat_abs (word y) ≤ 18446744073709551615
  pub complement : 18446744073709551615 - nat_abs (word y) ≡ twos_complement z

below_at : (n : ℕ) (y : ℤ) → n < 2 ^ 63 → y ≡ pos n → Below (negsuc n) y
below_at n y h e = subst (Below (negsuc n)) (sym e) (made (word-is (pos n) h))
  where
    made : word (pos n) ≡ pos n → Below (negsuc n) (pos n)
    made w = record {
      fits = record { sfits = h };
      natural = rw w (tt, record { fits = omega arith });
      small = rw w (omega arith);
      complement = rw w;
    }

pub below : (z : ℤ) → mag z < 2 ^ 63 → lt_z (word z) (pos 0) ≡ true → Below z (negsuc 0 -ℤ word z)
below z h t = go z h (ap (λ (y : ℤ). lt_z y (pos 0)) (sym (word-is z h)) ∙ t) (word z) (word-is z h)
  where
    go : (z : ℤ) → mag z < 2 ^ 63 → lt_z z (pos 0) ≡ true → (y : ℤ) → y ≡ z → Below z (negsuc 0 -ℤ y)
    go (pos n) h t y e = let k : ltb n 0 ≡ false = le-ltb n 0 (omega arith) in let q : true ≡ false = sym t ∙ k in absurd (let z : ◌≡◌ {A = ℕ} 0 1 = cc in omega arith)
    go (negsuc n) h t y e = below_at n (negsuc 0 -ℤ y) h (ap (λ (x : ℤ). negsuc 0 -ℤ x) e ∙ minus_one n)

-- from zero on
pub above : (z : ℤ) → mag z < 2 ^ 63 → lt_z (word z) (pos 0) ≡ false → (T (non_neg (word z)) × Fits w64 (nat_abs (word z))) × (nat_abs (word z) ≡ twos_complement z)
above z h t = go z h (ap (λ (y : ℤ). lt_z y (pos 0)) (sym (word-is z h)) ∙ t) (word z) (word-is z h)
  where
    go : (z : ℤ) → mag z < 2 ^ 63 → lt_z z (pos 0) ≡ false → (y : ℤ) → y ≡ z → (T (non_neg y) × Fits w64 (nat_abs y)) × (nat_abs y ≡ twos_complement z)
    go (pos n) h t y e = rw e ((tt, record { fits = omega arith }), refl)
    go (negsuc n) h t y e = absurd (let z : ◌≡◌ {A = ℕ} 0 1 = cc in omega arith)

-- what `word_of` yields of a number that went through a local or a field
pub written : (z : ℤ) (r : ℕ) → mag z < 2 ^ 63 → r ≡ twos_complement (word z) → r ≡ twos_complement z
written z r h e = e ∙ ap twos_complement (word-is z h)
