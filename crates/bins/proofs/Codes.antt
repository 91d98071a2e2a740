-- Laws of the codes of one recording's words: they ascend with the words, and a run of words is a run of codes. Assumes nothing.
use mathlib.Core.Path.{◌≡◌, sym, ap, ap₂, ◌∙◌}
use mathlib.Core.List.{List}
use Prim.Native.Nat.{ℕ, ◌+◌, ◌-◌, ◌*◌, ◌/◌, ◌%◌, ◌^◌, ◌≤◌, ◌<◌}
use native.Mathlib.Nat.{div-add-mod, div-mul-le_self, le_trans, le-div_iff_mul-le}
use native.Mathlib.Omega.{arith}
use native.Mathlib.Decide.{dec_lt}
use lib.IntN.{ℤ, pos}
use lib.ListN.{get_or}
use lib.Pow.{pow_pos, shr-shr}
use Rattle.bins.specs.Votes.{above, lead_of, Run}
use Rattle.bins.specs.Codes.{code_in, Group}
use Rattle.bins.specs.declared.Form.{Form}

pub run-cong : (d f : ℕ → ℕ) (i e r : ℕ) → i < e → ((t : ℕ) → t < e → d t ≡ f t) → Run d i e r → Run f i e r
run-cong d f i e r h k U = record {
  since = U.since;
  within = U.within;
  same = λ t a b. sym (k t (omega (arith, U.within))) ∙ U.same t a b ∙ k i h;
  stop = λ l q. U.stop l (k r l ∙ q ∙ sym (k i h));
}

-- what follows a run of ascending numbers lies above it
pub run-above : (d : ℕ → ℕ) (i g r : ℕ) → ((i j : ℕ) → i < j → j < g → d i ≤ d j) → Run d i g r → (t : ℕ) → r ≤ t → t < g → d i < d t
run-above d i g r up U t h k = go (dec_lt (d i) (d t))
  where
    go : Dec (d i < d t) → d i < d t
    go (yes p) = p
    go (no p) = absurd (U.stop (omega arith) (omega (arith, up i r U.since (omega arith), later (dec_lt r t))))
      where
        later : Dec (r < t) → d r ≤ d t
        later (yes q) = up r t q k
        later (no q) = let e : r ≡ t = omega arith in rw e (omega arith)

-- ---- of one recording: the code decides the word without its last bits, and ascends with it

lead-same : (P m n : ℕ) → m / P ≡ n / P → m % P ≡ n % P → m ≡ n
lead-same P m n h k = sym (div-add-mod m P) ∙ ap₂ (λ (q r : ℕ). P * q + r) h k ∙ div-add-mod n P

code-le : (P m n : ℕ) → m / P ≡ n / P → m ≤ n → m % P ≤ n % P
code-le P m n h k = let e = ap (λ (q : ℕ). P * q) h in omega (arith, div-add-mod m P, div-add-mod n P)

lead-le : (b m n : ℕ) → m ≤ n → m / 2 ^ b ≤ n / 2 ^ b
lead-le b m n h = (le-div_iff_mul-le (pow_pos b)).1 (le_trans (div-mul-le_self m (2 ^ b)) h)

-- the code of the vote t words after a
abbrev pub code_at : Form → List ℤ → ℕ → ℕ → ℕ
code_at f s a t = code_in f (get_or s (a + t) (pos 0))

module _ (f : Form) (s : List ℤ) (a g at : ℕ) (G : Group f s a g at) where
  abbrev lead : ℕ → ℕ
  lead t = lead_of f.low f.bits (get_or s (a + t) (pos 0))

  one : (i j : ℕ) → i < g → j < g → lead i / 2 ^ f.size ≡ lead j / 2 ^ f.size
  one i j h k =
      shr-shr (above f.low (get_or s (a + i) (pos 0))) f.bits f.size ∙ G.one i h
      ∙ sym (shr-shr (above f.low (get_or s (a + j) (pos 0))) f.bits f.size ∙ G.one j k)

  pub codes-ascend : (i j : ℕ) → i < j → j < g → code_at f s a i ≤ code_at f s a j
  codes-ascend i j h k = code-le (2 ^ f.size) (lead i) (lead j) (one i j (omega arith) k) (lead-le f.bits (above f.low (get_or s (a + i) (pos 0))) (above f.low (get_or s (a + j) (pos 0))) (G.ascend i j h k))

  pub codes-run : (i r : ℕ) → i < g → Run (λ t. lead_of f.low f.bits (get_or s t (pos 0))) (a + i) (a + g) r → Run (code_at f s a) i g (r - a)
  codes-run i r h U =
      let back : a + (r - a) ≡ r = omega (arith, U.since) in
      record {
        since = omega (arith, U.since);
        within = omega (arith, U.within);
        same = λ t b c. ap (λ (x : ℕ). x % 2 ^ f.size) (U.same (a + t) (omega arith) (omega arith));
        stop = λ l q. U.stop (omega arith) (ap (λ (t : ℕ). lead_of f.low f.bits (get_or s t (pos 0))) (sym back) ∙ lead-same (2 ^ f.size) (lead (r - a)) (lead i) (one (r - a) i l h) q);
      }
