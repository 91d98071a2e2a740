-- δ, from a vote's place. Assumes nothing.
use mathlib.Core.Path.{◌≡◌, sym, ap, ◌∙◌}
use Prim.Native.Nat.{ℕ, ◌+◌, ◌-◌, ◌≤◌}
use native.Mathlib.Omega.{arith}
use lib.IntN.{ℤ, pos, neg_ℤ, ◌+ℤ◌, ◌-ℤ◌, +ℤ_comm, +ℤ_assoc, neg_ℤ-+ℤ, +ℤ-neg_ℤ_cancel}

-- a place counts from the low end of the span: t is a posting's anchor, a the query hash's and top the largest
pub delta-is : (top a t : ℕ) → a ≤ top → neg_ℤ (pos top) +ℤ pos (t + (top - a)) ≡ pos t -ℤ pos a
delta-is top a t h =
    let d : ℕ = top - a in
    let e : top ≡ d + a = omega arith in
    +ℤ_comm (neg_ℤ (pos top)) (pos (t + (top - a)))
    ∙ ap (λ (n : ℕ). pos (t + (top - a)) +ℤ neg_ℤ (pos n)) e
    ∙ ap (λ (z : ℤ). pos (t + d) +ℤ z) (neg_ℤ-+ℤ (pos d) (pos a))
    ∙ sym (+ℤ_assoc (pos (t + d)) (neg_ℤ (pos d)) (neg_ℤ (pos a)))
    ∙ ap (λ (z : ℤ). z +ℤ neg_ℤ (pos a)) (+ℤ-neg_ℤ_cancel (pos t) (pos d))
