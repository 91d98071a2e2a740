-- Laws of a record's length, for every kind together. Assumes nothing.
use mathlib.Core.Path.{◌≡◌, sym, ap, ◌∙◌}
use mathlib.Core.Bool.{Bool, true, ◌&&◌, ◌||◌}
use mathlib.Core.Option.{some}
use Prim.Native.Nat.{ℕ, ◌+◌, ◌*◌, ◌-◌, ◌/◌, ◌%◌, ◌≤◌}
use native.Mathlib.Omega.{arith}
use lib.Dec.{eqb, leb}
use borrow.Author.Tests.{eqb-true, leb-true}
use Rattle.lists.proofs.Tests.{maybe, not-both, and_left, and_right}
use Rattle.sheet_kinds.specs.Kinds.{Kind, kind_of, least, fits_kind, fits, good_length}

-- what a good length says
pub record Long (len n : ℕ) : Type 0 where
  pub some_byte : 1 ≤ len
  pub short : len ≤ 8192
  pub words : len ≡ 4 * ((len - 1) / 4) + 1
  pub fixed : n ≤ (len - 1) / 4

four : (a b c d e : Bool) → a && (b && (c && (d && e))) ≡ true → (a ≡ true) × (b ≡ true) × (c ≡ true) × (d ≡ true)
four a b c d e h =
    let h1 = and_right a (b && (c && (d && e))) h in
    let h2 = and_right b (c && (d && e)) h1 in
    (and_left a (b && (c && (d && e))) h, and_left b (c && (d && e)) h1, and_left c (d && e) h2, and_left d e (and_right c (d && e) h2))

fits-long : (len : ℕ) (k : Kind) → fits_kind len k ≡ true → Long len k.fields
fits-long len k h =
    let t = four (leb 1 len) (leb len 8192) (eqb (len % 4) 1) (leb (least k) len) (k.hashes || eqb len (least k)) h in
    let a = leb-true 1 len t.0 in
    let b = leb-true len 8192 t.1 in
    let c = eqb-true (len % 4) 1 t.2 in
    let d = leb-true (least k) len t.3 in
    record { some_byte = a; short = b; words = omega arith; fixed = omega arith }

-- ---- of any kind of the table

-- a length that is good is that of a known kind
pub good-kind : (len b : ℕ) → good_length len b ≡ true → (k : Kind) × (kind_of b ≡ some k)
unfolding good_length
good-kind len b h = maybe (kind_of b) (λ e. absurd (not-both h (ap (fits len) e))) (λ k e. (k, e))

pub good-by : (len b : ℕ) (k : Kind) → kind_of b ≡ some k → fits_kind len k ≡ good_length len b
unfolding good_length
good-by len b k e = sym (ap (fits len) e)

-- what every good length says
pub good-long : (len b : ℕ) → good_length len b ≡ true → Long len 0
good-long len b h =
    let k = good-kind len b h in
    let l = fits-long len k.0 (good-by len b k.0 k.1 ∙ h) in
    record { some_byte = l.some_byte; short = l.short; words = l.words; fixed = omega arith }

-- the words of a record whose length is good
pub good-words : (len b n : ℕ) → good_length len b ≡ true → n ≡ (len - 1) / 4 → good_length (4 * n + 1) b ≡ true
good-words len b n h e = let l = good-long len b h in let f : 4 * n + 1 ≡ len = omega (arith, l.words) in rw f h

-- the fixed fields of a record of a kind are among its words
pub fits-fields : (n : ℕ) (k : Kind) → fits_kind (4 * n + 1) k ≡ true → k.fields ≤ n
fits-fields n k h = omega (arith, (fits-long (4 * n + 1) k h).fixed)
