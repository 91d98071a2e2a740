-- Laws of votes as codes: what is packed is read again. Assumes nothing.
use Rattle.std.proofs.Common.{◌≡◌, ℕ, zero, suc, ◌+◌, ◌-◌, ◌/◌, ◌%◌, ◌^◌, ◌<◌, ◌≤◌, T, ℤ, pos, negsuc, ◌+ℤ◌, ◌-ℤ◌, neg_ℤ, nat_abs, refl, ap, ◌∙◌, arith, w64, Fits, SFits, le-ltb, lt-ltb}
use lib.IntN.{+ℤ_comm, +ℤ-neg_ℤ_cancel, -ℤ-+ℤ_cancel}
use lib.Signed.{non_neg, pos-nat_abs}
use Rattle.panako_vote.specs.Votes.{InRange}
use Rattle.panako_vote.specs.declared.Vote.{Vote}
use Rattle.panako_vote.specs.Words.{middle, code_of, vote_of_code}
use Rattle.panako_vote.proofs.Bounds.{shifted}

-- ---- an offset's place

pub place-fits : (z : ℤ) → InRange z → SFits w64 (z +ℤ pos middle)
place-fits z h = let e = shifted z h in rw e.1.0 (record { sfits = omega (arith, e.1.1) })

pub place-word : (z : ℤ) → InRange z → T (non_neg (z +ℤ pos middle)) × Fits w64 (nat_abs (z +ℤ pos middle))
place-word z h = let e = shifted z h in rw e.1.0 (tt, record { fits = omega (arith, e.1.1) })

pub place-small : (z : ℤ) → InRange z → nat_abs (z +ℤ pos middle) < 2 ^ 40
place-small z h = let e = shifted z h in rw e.1.0 e.1.1

-- ---- a number less 2^63

pub under_one : (m : ℕ) → negsuc 0 -ℤ pos m ≡ negsuc m
under_one zero = refl
under_one (suc m) = let e : suc (0 + m) ≡ suc m = omega arith in ap negsuc e

-- below L, and from L on
pub less-below : (x L m : ℕ) → x < L → m ≡ L - 1 - x → pos x -ℤ pos L ≡ negsuc m
less-below x zero m h e = absurd (omega arith)
less-below x (suc L) m h e = let d : suc L - suc x ≡ m = omega arith in rw (lt-ltb x (suc L) h) (ap negsuc d)

pub less-from : (x L : ℕ) → L ≤ x → pos x -ℤ pos L ≡ pos (x - L)
less-from x zero h = let d : x + 0 ≡ x - 0 = omega arith in ap pos d
less-from x (suc L) h = rw (le-ltb x (suc L) h) refl

-- ---- the code of a vote

-- what was counted from −2^39
pub middle-back : (z : ℤ) → InRange z → neg_ℤ (pos middle) +ℤ pos (nat_abs (z +ℤ pos middle)) ≡ z
middle-back z h = ap (λ (y : ℤ). neg_ℤ (pos middle) +ℤ y) (pos-nat_abs (z +ℤ pos middle) (place-word z h).0) ∙ +ℤ_comm (neg_ℤ (pos middle)) (z +ℤ pos middle) ∙ +ℤ-neg_ℤ_cancel z (pos middle)

pub place-back : (p : ℕ) → nat_abs ((neg_ℤ (pos middle) +ℤ pos p) +ℤ pos middle) ≡ p
place-back p = ap (λ (y : ℤ). nat_abs (y +ℤ pos middle)) (+ℤ_comm (neg_ℤ (pos middle)) (pos p)) ∙ ap nat_abs (-ℤ-+ℤ_cancel (pos p) (pos middle))

pub code-back : (k : ℕ) → code_of (vote_of_code k) ≡ k
code-back k = omega (arith, place-back (k % 2 ^ 40))

module _ (v : Vote) (low : v.bin < 2 ^ 12) (near : InRange v.offset) where
  pub code-small : code_of v < 2 ^ 52
  code-small = omega (arith, place-small v.offset near)

  pub vote-back : vote_of_code (code_of v) ≡ v
  vote-back = λ i. record { bin = bin i; offset = offset i }
    where
      bin : code_of v / 2 ^ 40 ≡ v.bin
      bin = omega (arith, place-small v.offset near)

      place : code_of v % 2 ^ 40 ≡ nat_abs (v.offset +ℤ pos middle)
      place = omega (arith, place-small v.offset near)

      offset : neg_ℤ (pos middle) +ℤ pos (code_of v % 2 ^ 40) ≡ v.offset
      offset = ap (λ (n : ℕ). neg_ℤ (pos middle) +ℤ pos n) place ∙ middle-back v.offset near
