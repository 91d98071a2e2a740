-- Laws of decimal and hexadecimal digits. Assumes nothing.
use mathlib.Core.Path.{◌≡◌, refl, ap, ◌∙◌}
use mathlib.Core.List.{List, [], ◌∷◌, ◌++◌}
use Prim.Native.Nat.{ℕ, zero, suc, ◌+◌, ◌*◌, ◌-◌, ◌/◌, ◌%◌, ◌^◌, ◌≤◌, ◌<◌}
use native.Mathlib.Omega.{arith}
use lib.ListN.{length, length-append}
use lib.Dec.{ltb}
use borrow.Author.Tests.{lt-ltb, le-ltb, ltb-true, ltb-false}
use Rattle.lists.proofs.Tests.{test}
use Rattle.sheet_text.specs.Bytes.{decimal_in, decimal, hex_digits, hex_digit}

-- a step more than enough changes nothing
steady : (f n : ℕ) → n ≤ f → decimal_in (suc f) n ≡ decimal_in f n
unfolding decimal_in
steady zero n h = let z : n ≡ 0 = omega arith in rw z
steady (suc f) n h = let ih = steady f (n / 10) (omega arith) in rw ih

further : (d n : ℕ) → decimal_in (d + n) n ≡ decimal_in n n
further zero n = let e : 0 + n ≡ n = omega arith in rw e
further (suc d) n = let ih = further d n in let s : decimal_in (suc (d + n)) n ≡ decimal_in (d + n) n = steady (d + n) n (omega arith) in let e : suc d + n ≡ suc (d + n) = omega arith in rw e (s ∙ ih)

enough : (f n : ℕ) → n ≤ f → decimal_in f n ≡ decimal_in n n
enough f n h = let e : f ≡ (f - n) + n = omega arith in ap (λ (k : ℕ). decimal_in k n) e ∙ further (f - n) n

pub decimal-small : (n : ℕ) → n < 10 → decimal n ≡ (48 + n) ∷ []
unfolding decimal decimal_in
decimal-small zero h = refl
decimal-small (suc n) h = rw (lt-ltb (suc n) 10 h)

pub decimal-more : (n : ℕ) → 10 ≤ n → decimal n ≡ decimal (n / 10) ++ (48 + n % 10) ∷ []
unfolding decimal decimal_in
decimal-more zero h = absurd (omega arith)
decimal-more (suc n) h = rw (le-ltb (suc n) 10 h, enough n (suc n / 10) (omega arith))

-- the first number with more than k + 1 digits
abbrev tens : ℕ → ℕ
tens zero = 10
tens (suc k) = 10 * tens k

pub length_more : (n : ℕ) → 10 ≤ n → length (decimal n) ≡ length (decimal (n / 10)) + 1
length_more n h = ap (λ (l : List ℕ). length l) (decimal-more n h) ∙ simp length-append

length-under : (k n : ℕ) → n < tens k → length (decimal n) ≤ suc k
length-under zero n h = rw (decimal-small n h) (omega arith)
length-under (suc k) n h =
    let ih = length-under k (n / 10) (omega arith) in
    test (ltb n 10) (λ t. rw (decimal-small n (omega (arith, ltb-true))) (omega arith)) (λ t. omega (arith, length_more n (omega (arith, ltb-false))))

pub length-u64 : (n : ℕ) → n < 2 ^ 64 → length (decimal n) ≤ 20
length-u64 n h = length-under 19 n (omega arith)

pub hex-none : (n : ℕ) → hex_digits 0 n ≡ []
unfolding hex_digits
hex-none n = refl

pub hex-more : (k n : ℕ) → 0 < k → hex_digits k n ≡ hex_digits (k - 1) (n / 16) ++ hex_digit (n % 16) ∷ []
unfolding hex_digits
hex-more zero n h = absurd (omega arith)
hex-more (suc k) n h = let e : suc k - 1 ≡ k = omega arith in rw e

pub length-hex : (k n : ℕ) → length (hex_digits k n) ≡ k
unfolding hex_digits
length-hex zero n = refl
length-hex (suc k) n = let ih = length-hex k (n / 16) in simp length-append (omega arith)
