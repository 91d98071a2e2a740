-- A mask of `size` ones keeps the rest by 2^size.
use mathlib.Core.Path.{◌≡◌, sym, ap, ◌∙◌, subst}
use Prim.Native.Nat.{ℕ, ◌-◌, ◌*◌, ◌%◌, ◌^◌, ◌≤◌, ◌<◌}
use native.Mathlib.Nat.{one-mul, mod-lt, lt_of_lt_of_le}
use native.Mathlib.Omega.{arith}
use lib.Dec.{lit<}
use lib.Pow.{pow_pos, pow_mono, shl_exact}
use lib.Bits.{bit_and, and_mask}
use Rattle.bins.proofs.last_bits.Goals as goal

unit-is : (k : ℕ) → k ≤ 52 → 1 * 2 ^ k % 2 ^ 64 ≡ 2 ^ k
unit-is k h = shl_exact 1 k 64 (lit< tt) (omega arith) ∙ one-mul (2 ^ k)

rest-is : (n k : ℕ) → k ≤ 52 → (bit_and n (1 * 2 ^ k % 2 ^ 64 - 1) ≡ n % 2 ^ k) × (bit_and n (1 * 2 ^ k % 2 ^ 64 - 1) < 2 ^ 52)
rest-is n k h =
    let e = ap (λ (x : ℕ). bit_and n (x - 1)) (unit-is k h) ∙ and_mask n k in
    (e, subst (λ (x : ℕ). x < 2 ^ 52) (sym e) (lt_of_lt_of_le (mod-lt n (pow_pos k)) (pow_mono h)))

pub returns : goal.returns
returns c = rest-is c.args.x c.args.size c.requires
