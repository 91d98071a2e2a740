-- Where lines end: in no number, and once in a line. Assumes nothing.
use mathlib.Core.Path.{◌≡◌, refl, ap, ◌∙◌}
use mathlib.Core.Bool.{Bool, true, false, cond}
use mathlib.Core.List.{List, [], ◌∷◌, ◌++◌}
use Prim.Native.Nat.{ℕ, zero, suc, ◌+◌, ◌/◌, ◌%◌, ◌<◌}
use native.Mathlib.Omega.{arith}
use lib.IntN.{ℤ, nat_abs}
use lib.Signed.{non_neg}
use lib.Dec.{ltb}
use lib.ListN.{length, length-append}
use borrow.Author.Tests.{ne_eqb}
use Rattle.lists.specs.Lists.{keep}
use Rattle.lists.proofs.Tests.{test}
use Rattle.lists.proofs.Keep.{keep_append, keep-none, all_append}
use Rattle.sheet_text.specs.Bytes.{decimal_in, decimal, sign, signed, hex_digit, hex_digits, newline, is_newline, newlines, Plain}

pub join-plain : (s t : List ℕ) → Plain s → Plain t → Plain (s ++ t)
join-plain s t a b = all_append (λ (b : ℕ). is_newline b ≡ false) s t a b

either-plain : (b : Bool) (s t : List ℕ) → Plain s → Plain t → Plain (cond b s t)
either-plain true s t a b = a
either-plain false s t a b = b

-- digits and letters
above : (b : ℕ) → 10 < b → is_newline b ≡ false
above b h = ne_eqb b 10 (λ e. omega arith)

decimal-in-plain : (k n : ℕ) → Plain (decimal_in k n)
unfolding decimal_in
decimal-in-plain zero n = (above (48 + n % 10) (omega arith), tt)
decimal-in-plain (suc k) n =
    either-plain (ltb n 10) ((48 + n) ∷ []) (decimal_in k (n / 10) ++ (48 + n % 10) ∷ [])
    (above (48 + n) (omega arith), tt)
    (join-plain (decimal_in k (n / 10)) ((48 + n % 10) ∷ []) (decimal-in-plain k (n / 10)) (above (48 + n % 10) (omega arith), tt))

pub decimal-plain : (n : ℕ) → Plain (decimal n)
unfolding decimal
decimal-plain n = decimal-in-plain n n

sign-plain : (z : ℤ) → Plain (sign z)
sign-plain z = either-plain (non_neg z) [] (45 ∷ []) tt (refl, tt)

pub signed-plain : (z : ℤ) → Plain (signed z)
signed-plain z = join-plain (sign z) (decimal (nat_abs z)) (sign-plain z) (decimal-plain (nat_abs z))

hex-digit-plain : (d : ℕ) → is_newline (hex_digit d) ≡ false
hex-digit-plain d = test (ltb d 10) (λ h. rw h (above (48 + d) (omega arith))) (λ h. rw h (above (55 + d) (omega arith)))

pub hex-plain : (k n : ℕ) → Plain (hex_digits k n)
unfolding hex_digits
hex-plain zero n = tt
hex-plain (suc k) n = join-plain (hex_digits k (n / 16)) (hex_digit (n % 16) ∷ []) (hex-plain k (n / 16)) (hex-digit-plain (n % 16), tt)

pub newlines-append : (s t : List ℕ) → newlines (s ++ t) ≡ newlines s + newlines t
newlines-append s t = ap (λ (l : List ℕ). length l) (keep_append is_newline s t) ∙ length-append (keep is_newline s) (keep is_newline t)

-- one line ends in a line
pub newlines-line : (s : List ℕ) → Plain s → newlines (s ++ newline) ≡ 1
unfolding keep
newlines-line s h = newlines-append s newline ∙ ap (λ (l : List ℕ). length l + 1) (keep-none is_newline s h)
