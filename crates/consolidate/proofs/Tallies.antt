-- The mode, one offset at a time. Assumes nothing.
use Prim.Native.Nat.{ℕ, ◌+◌, ◌*◌, ◌≤◌, ◌<◌}
use mathlib.Core.Path.{◌≡◌, refl, sym, ap, ap₂, ◌∙◌, subst}
use mathlib.Core.Bool.{Bool, true, false, cond, ◌&&◌, and-false}
use native.Mathlib.Omega.{arith}
use lib.IntN.{ℤ, nat_abs, ◌+ℤ◌, +ℤ_idl, +ℤ_idr}
use lib.Dec.{ltb, eqb}
use borrow.Author.Tests.{ltb-true, ltb-false, lt-ltb, le-ltb, eqb-true, eqb-false, eq-eqb, ne_eqb}
use Rattle.maps.specs.Sums.{sum_to, sum_to_ℤ, greatest, when, when_ℤ}
use Rattle.consolidate.specs.Modes.{nearest_mean, mode, mode_or}
use Rattle.consolidate.specs.Tallies.{tally_of, no_tally, mode_of}
use Rattle.consolidate.specs.declared.Tally.{Tally}
use Rattle.std.specs.Prelude.{Option, Some, None, unwrap_or}
use Rattle.maps.proofs.Sums.{sum-next, sum-cong, sum_zeros, sum-none, sum-under, keep-le, sum_ℤ-next, sum_ℤ-cong, sum_ℤ-zeros, sum_ℤ-none, sum_ℤ-under, keep_ℤ-abs, greatest-next, greatest-cong, greatest-over, greatest-zeros}

-- offset y has the count best, which is not 0
abbrev pub counts : (ℕ → ℕ) → ℕ → ℕ → Bool
counts m best y = ltb 0 (m y) && eqb (m y) best

-- the tally of the offsets z 0, .., z (x - 1) with the counts m 0, .., m (x - 1)
pub record Tallied (m : ℕ → ℕ) (z : ℕ → ℤ) (x : ℕ) (t : Tally) : Type 0 where
  pub top : t.best ≡ greatest m x
  pub ties : t.count ≡ sum_to (λ y. when (counts m t.best y) 1) x
  pub total : t.sum ≡ sum_to_ℤ (λ y. when_ℤ (counts m t.best y) (z y)) x
  pub some : 0 < t.best → 0 < t.count

module _ (m : ℕ → ℕ) (z : ℕ → ℤ) where
  none-at : (x b y : ℕ) → greatest m x < b → y < x → counts m b y ≡ false
  none-at x b y h u =
      let a : m y ≤ greatest m x = greatest-over m x y u in
      rw (ne_eqb (m y) b (λ e. omega arith)) (and-false (ltb 0 (m y)))

  nothing : (b y : ℕ) → m y ≡ 0 → counts m b y ≡ false
  nothing b y e = rw (le-ltb 0 (m y) (omega arith)) refl

  -- a stretch with no counts
  pub tally-gap : (x x' : ℕ) (t : Tally) → x ≤ x' → ((y : ℕ) → x ≤ y → y < x' → m y ≡ 0) → Tallied m z x t → Tallied m z x' t
  tally-gap x x' t h off T =
      record {
        top = T.top ∙ sym (greatest-zeros m x x' h off);
        ties = T.ties ∙ sym (sum_zeros (λ y. when (counts m t.best y) 1) x x' h (λ y a b. ap (λ (u : Bool). when u 1) (nothing t.best y (off y a b))));
        total = T.total ∙ sym (sum_ℤ-zeros (λ y. when_ℤ (counts m t.best y) (z y)) x x' h (λ y a b. ap (λ (u : Bool). when_ℤ u (z y)) (nothing t.best y (off y a b))));
        some = T.some;
      }

  pub tally-none : Tallied m z 0 no_tally
  unfolding sum_to sum_to_ℤ greatest
  tally-none = record { top = refl; ties = refl; total = refl; some = λ h. h }

  pub tally-more : (x : ℕ) (t : Tally) → Tallied m z x t → Tallied m z (x + 1) (tally_of t (m x) (z x))
  tally-more x t T = go (eqb (m x) 0) refl (ltb t.best (m x)) refl (eqb (m x) t.best) refl
    where
      cs : ℕ → ℕ → ℕ
      cs b y = when (counts m b y) 1

      os : ℕ → ℕ → ℤ
      os b y = when_ℤ (counts m b y) (z y)

      tops : t.best ≡ greatest m x
      tops = T.top

      go : (b₀ : Bool) → eqb (m x) 0 ≡ b₀ → (b : Bool) → ltb t.best (m x) ≡ b → (b₂ : Bool) → eqb (m x) t.best ≡ b₂
          → Tallied m z (x + 1) (cond b₀ t (cond b (record { best = m x; count = 1; sum = z x }) (cond b₂ (record { best = t.best; count = t.count + 1; sum = t.sum +ℤ z x }) t)))
      go true q₀ b q b₂ q₂ = tally-gap x (x + 1) t (omega arith) (λ y a u. (let e : y ≡ x = omega arith in ap m e ∙ eqb-true (m x) 0 q₀)) T
      go false q₀ true q b₂ q₂ =
          let up : t.best < m x = ltb-true t.best (m x) q in
          let self : counts m (m x) x ≡ true = rw (lt-ltb 0 (m x) (omega arith), eq-eqb (m x) (m x) refl) refl in
          let before : (y : ℕ) → y < x → counts m (m x) y ≡ false = λ y u. none-at x (m x) y (omega (arith, tops)) u in
          record {
            top = omega (arith, greatest-next m x, tops, up);
            ties = omega (arith, sum-next (cs (m x)) x, sum-none (cs (m x)) x (λ y u. ap (λ (w : Bool). when w 1) (before y u)), ap (λ (w : Bool). when w 1) self);
            total = sym (sum_ℤ-next (os (m x)) x ∙ ap₂ ◌+ℤ◌ (sum_ℤ-none (os (m x)) x (λ y u. ap (λ (w : Bool). when_ℤ w (z y)) (before y u))) (ap (λ (w : Bool). when_ℤ w (z x)) self) ∙ +ℤ_idl (z x));
            some = λ h. omega arith;
          }
      go false q₀ false q true q₂ =
          let e : m x ≡ t.best = eqb-true (m x) t.best q₂ in
          let n : m x ≡ 0 → ⊥ = eqb-false (m x) 0 q₀ in
          let self : counts m t.best x ≡ true = rw (lt-ltb 0 (m x) (omega arith), q₂) refl in
          record {
            top = omega (arith, greatest-next m x, tops);
            ties = omega (arith, sum-next (cs t.best) x, T.ties, ap (λ (w : Bool). when w 1) self);
            total = sym (sum_ℤ-next (os t.best) x ∙ ap₂ ◌+ℤ◌ (sym T.total) (ap (λ (w : Bool). when_ℤ w (z x)) self));
            some = λ h. omega arith;
          }
      go false q₀ false q false q₂ =
          let down : m x ≤ t.best = ltb-false t.best (m x) q in
          let self : counts m t.best x ≡ false = rw q₂ (and-false (ltb 0 (m x))) in
          record {
            top = omega (arith, greatest-next m x, tops);
            ties = omega (arith, sum-next (cs t.best) x, T.ties, ap (λ (w : Bool). when w 1) self);
            total = sym (sum_ℤ-next (os t.best) x ∙ ap₂ ◌+ℤ◌ (sym T.total) (ap (λ (w : Bool). when_ℤ w (z x)) self) ∙ +ℤ_idr t.sum);
            some = T.some;
          }

  -- x offsets of at most H each
  pub tally-small : (x H : ℕ) (t : Tally) → ((y : ℕ) → y < x → nat_abs (z y) ≤ H) → Tallied m z x t → (t.count ≤ x) × (nat_abs t.sum ≤ x * H)
  tally-small x H t near T = (
    omega (arith, T.ties, sum-under (λ y. when (counts m t.best y) 1) x 1 (λ y u. keep-le (counts m t.best y) 1)),
    subst (λ (w : ℤ). nat_abs w ≤ x * H) (sym T.total) (sum_ℤ-under (λ y. when_ℤ (counts m t.best y) (z y)) x H (λ y u. keep_ℤ-abs (counts m t.best y) (z y) H (near y u))),
  )

  -- of a greatest count above 0 the offsets with it are tallied, and no others
  counts-is : (b y : ℕ) → 0 < b → counts m b y ≡ eqb (m y) b
  counts-is b y h = go (eqb (m y) b) refl
    where
      go : (u : Bool) → eqb (m y) b ≡ u → (ltb 0 (m y) && u) ≡ u
      go true e = let q : m y ≡ b = eqb-true (m y) b e in rw (lt-ltb 0 (m y) (omega arith)) refl
      go false e = and-false (ltb 0 (m y))

  ties-are : (x : ℕ) (t : Tally) → 0 < t.best → Tallied m z x t
      → (sum_to (λ y. when (eqb (m y) (greatest m x)) 1) x ≡ t.count) × (sum_to_ℤ (λ y. when_ℤ (eqb (m y) (greatest m x)) (z y)) x ≡ t.sum)
  ties-are x t h T =
      let e : (y : ℕ) → eqb (m y) (greatest m x) ≡ counts m t.best y = λ y. ap (eqb (m y)) (sym T.top) ∙ sym (counts-is t.best y h) in (
        sum-cong (λ y. when (eqb (m y) (greatest m x)) 1) (λ y. when (counts m t.best y) 1) x (λ y u. ap (λ (w : Bool). when w 1) (e y)) ∙ sym T.ties,
        sum_ℤ-cong (λ y. when_ℤ (eqb (m y) (greatest m x)) (z y)) (λ y. when_ℤ (counts m t.best y) (z y)) x (λ y u. ap (λ (w : Bool). when_ℤ w (z y)) (e y)) ∙ sym T.total,
      )

-- ---- the mode, from the tally

module _ (m : ℕ → ℕ) (z : ℕ → ℤ) (k : ℕ) (t : Tally) (T : Tallied m z k t) where
  mode-none : t.best ≡ 0 → None ≡ mode m z k
  unfolding mode
  mode-none e = rw (eq-eqb (greatest m k) 0 (sym T.top ∙ e)) refl

  mode-some : (t.best ≡ 0 → ⊥) → Some (nearest_mean t.sum t.count) ≡ mode m z k
  unfolding mode
  mode-some h =
      let e = ties-are m z k t (omega arith) T in
      rw (ne_eqb (greatest m k) 0 (λ q. h (T.top ∙ q))) (sym (ap Some (ap₂ nearest_mean e.1 e.0)))

  pub mode-is : mode_of t ≡ mode m z k
  mode-is = go (eqb t.best 0) refl
    where
      go : (b : Bool) → eqb t.best 0 ≡ b → cond b None (Some (nearest_mean t.sum t.count)) ≡ mode m z k
      go true q = mode-none (eqb-true t.best 0 q)
      go false q = mode-some (eqb-false t.best 0 q)

-- the mode, and another offset if there is none
pub unwrap-is : (m : Option ℤ) (other : ℤ) → unwrap_or m other ≡ mode_or other m
unwrap-is None other = refl
unwrap-is (Some d) other = refl

-- counts that agree have one mode
pub mode-cong : (m m' : ℕ → ℕ) (z : ℕ → ℤ) (k : ℕ) → ((x : ℕ) → x < k → m x ≡ m' x) → mode m z k ≡ mode m' z k
unfolding mode
mode-cong m m' z k h =
    let g : greatest m k ≡ greatest m' k = greatest-cong m m' k h in
    let c = sum-cong (λ x. when (eqb (m x) (greatest m' k)) 1) (λ x. when (eqb (m' x) (greatest m' k)) 1) k (λ x u. rw (h x u) refl) in
    let s = sum_ℤ-cong (λ x. when_ℤ (eqb (m x) (greatest m' k)) (z x)) (λ x. when_ℤ (eqb (m' x) (greatest m' k)) (z x)) k (λ x u. rw (h x u) refl) in
    rw (g, c, s) refl
