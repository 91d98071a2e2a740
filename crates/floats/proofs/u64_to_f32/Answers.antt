-- `floats::u64_to_f32` meets its contract. `proofs/Cut.antt` says what the count of leading zeros tells of n, and `proofs/Assembled.antt` that the exponent's field
-- and the digits kept are n rounded once. Assumes nothing.
use Rattle.std.proofs.Common.{◌≡◌, ℕ, ◌-◌, ◌*◌, ◌^◌, ◌<◌, ◌≤◌, not, T, pos, sym, ap, ◌∙◌, subst, zero-lt-suc, one-mul, arith, le→leb}
use lib.Count.{count_leading_zeros}
use lib.Ieee.{binary32, in_float, of_int, of_bits, nan_bits}
use lib.Ieee.Nearest.{closest}
use Rattle.floats.proofs.Cut.{small-of-zeros, digits-of-zeros}
use Rattle.floats.proofs.Round.{of_int_is, few-digits}
use Rattle.floats.proofs.Assembled.{pattern, assembled, assembled-number}
use Rattle.floats.proofs.u64_to_f32.Goals as goal

in-float : (n : ℕ) → n ≤ 2 ^ 24 → T (in_float binary32 (pos n))
unfolding in_float
in-float n h = le→leb n (2 ^ 24) h

-- n has 24 + k digits, of which q is what is kept
module _ (n k q : ℕ) (few : k ≤ 40) (is : q ≡ closest n (2 ^ k)) (d : (2 ^ 23 * 2 ^ k ≤ n) × (n < 2 ^ 24 * 2 ^ k)) where
  kept : q ≤ 2 ^ 24
  kept = subst (λ (x : ℕ). x ≤ 2 ^ 24) (sym is) (few-digits binary32 n 1 k (2 ^ k) (zero-lt-suc 0) (sym (one-mul (2 ^ k))) d.0 d.1)

  number : T (not (nan_bits binary32 (pattern binary32 k q)))
  number = subst (λ (x : ℕ). T (not (nan_bits binary32 (pattern binary32 k x)))) (sym is) (assembled-number binary32 n 1 k (2 ^ k) (zero-lt-suc 0) (sym (one-mul (2 ^ k))) d.0 d.1 (omega arith))

  value : of_bits binary32 (pattern binary32 k q) ≡ of_int binary32 (pos n)
  value =
      ap (λ (x : ℕ). of_bits binary32 (pattern binary32 k x)) is
      ∙ assembled binary32 n 1 k (2 ^ k) (zero-lt-suc 0) (sym (one-mul (2 ^ k))) d.0 d.1 (omega arith)
      ∙ sym (of_int_is binary32 n)

pub overflow_cast-result : goal.overflow_cast-result
overflow_cast-result c = let e = small-of-zeros c.args.n c.ranges.n.fits c.if-zeros-ge40.true in omega (arith, e)

pub int_to_float-result : goal.int_to_float-result
int_to_float-result c = in-float c.args.n (small-of-zeros c.args.n c.ranges.n.fits c.if-zeros-ge40.true)

pub overflow_cast-result-2 : goal.overflow_cast-result-2
overflow_cast-result-2 c =
    let k = 40 - count_leading_zeros 64 c.args.n in
    let e = kept c.args.n k _ (omega arith) c.nearest_part-digits.ensures (digits-of-zeros c.args.n c.ranges.n.fits c.if-zeros-ge40.false) in
    omega (arith, e)

pub overflow_add-result-2 : goal.overflow_add-result-2
overflow_add-result-2 c =
    let k = 40 - count_leading_zeros 64 c.args.n in
    let e = kept c.args.n k _ (omega arith) c.nearest_part-digits.ensures (digits-of-zeros c.args.n c.ranges.n.fits c.if-zeros-ge40.false) in
    omega (arith, e)

pub float_from_bits-result : goal.float_from_bits-result
float_from_bits-result c =
    number c.args.n (40 - count_leading_zeros 64 c.args.n) _ (omega arith) c.nearest_part-digits.ensures (digits-of-zeros c.args.n c.ranges.n.fits c.if-zeros-ge40.false)

pub returns : goal.returns
returns c =
    value c.args.n (40 - count_leading_zeros 64 c.args.n) _ (omega arith) c.nearest_part-digits.ensures (digits-of-zeros c.args.n c.ranges.n.fits c.if-zeros-ge40.false)
