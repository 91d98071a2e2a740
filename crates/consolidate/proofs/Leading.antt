-- The greatest value, the first index that has it, and its run, one stretch of equal values at a time. Assumes nothing.
use Prim.Native.Nat.{ℕ, ◌-◌, ◌≤◌, ◌<◌}
use mathlib.Core.Path.{◌≡◌, refl, sym, ap, ◌∙◌}
use mathlib.Core.Bool.{Bool, true, false, not, cond, ◌&&◌}
use native.Mathlib.Omega.{arith}
use native.Mathlib.Decide.{dec_lt}
use lib.Dec.{ltb, eqb}
use borrow.Author.Tests.{ltb-true, ltb-false, eqb-true, eqb-false, eq-eqb, ne_eqb}
use Rattle.maps.specs.Sums.{greatest}
use Rattle.consolidate.specs.Runs.{first_greatest, run_end, Leads}
use Rattle.consolidate.specs.Sweeping.{Best, better_of}
use Rattle.consolidate.specs.declared.Run.{Run}
use Rattle.maps.proofs.Sums.{greatest-over, greatest-under, first-is}
use Rattle.lists.proofs.Tests.{and_left, and_right}

loop : (x : ℕ) → x < x → ⊥
loop x h = omega arith

pub leads-none : (f : ℕ → ℕ) → Leads f 0 0 0
leads-none f =
    record {
      below = λ x h. absurd (never x h);
      before = λ x h. absurd (never x h);
      some = λ h. absurd (never 0 h);
      none = λ h. (refl, refl);
    }
  where
    never : (x : ℕ) → x < 0 → ⊥
    never x h = omega arith

-- a stretch from n to before m on which f is v
module _ (f : ℕ → ℕ) (n m peak at v : ℕ) (L : Leads f n peak at) (lt : n < m) (flat : (x : ℕ) → n ≤ x → x < m → f x ≡ v) where
  pub leads-new : peak < v → Leads f m v n
  leads-new up =
      record {
        below = λ x h. elim (dec_lt x n) [ yes u ↦ omega (arith, L.below x u) | no u ↦ omega (arith, flat x (omega arith) h) ];
        before = λ x h. omega (arith, L.below x h);
        some = λ h. (lt, flat n (omega arith) lt);
        none = λ h. absurd (loop n (omega arith));
      }

  pub leads-on : v ≤ peak → Leads f m peak at
  leads-on down =
      record {
        below = λ x h. elim (dec_lt x n) [ yes u ↦ L.below x u | no u ↦ omega (arith, flat x (omega arith) h) ];
        before = L.before;
        some = λ h. elim (dec_lt 0 n) [ yes u ↦ (omega (arith, (L.some u).0), (L.some u).1) | no u ↦ begins (omega arith) ];
        none = λ h. absurd (loop n (omega arith));
      }
    where
      begins : n ≡ 0 → (at < m) × (f at ≡ peak)
      begins z = let o = L.none z in (omega (arith, o.0), omega (arith, flat at (omega (arith, o.0)) (omega (arith, o.0)), o.1))

module _ {f : ℕ → ℕ} {n peak at : ℕ} (L : Leads f n peak at) where
  nought : n ≡ 0 → greatest f n ≡ 0
  unfolding greatest
  nought z = rw z refl

  pub leads-greatest : greatest f n ≡ peak
  leads-greatest = elim (dec_lt 0 n) [
    | yes u ↦ omega (arith, greatest-under f n peak L.below, greatest-over f n at (L.some u).0, (L.some u).1)
    | no u ↦ (let z : n ≡ 0 = omega arith in nought z ∙ sym (L.none z).1)
  ]

  at_most : at ≤ n
  at_most = elim (dec_lt 0 n) [ yes u ↦ omega (arith, (L.some u).0) | no u ↦ omega (arith, (L.none (omega arith)).0) ]

  pub leads-first : first_greatest f n ≡ at
  unfolding first_greatest
  leads-first =
      rw leads-greatest
      (first-is (λ x. eqb (f x) peak) 0 n at (omega arith) (omega (arith, at_most))
      (λ x a h. ne_eqb (f x) peak (λ q. omega (arith, L.before x h)))
      (λ h. eq-eqb (f at) peak (L.some (omega arith)).1))

-- ---- and its run

pub best_none : (f : ℕ → ℕ) → Best f 0 (record { peak = 0; start = 0; end = 0 })
best_none f =
    record {
      leads = leads-none f;
      flat = λ x a h. absurd (never x h);
      some = λ h. h;
      done = omega arith;
      stops = λ h. absurd (never 0 h);
    }
  where
    never : (x : ℕ) → x < 0 → ⊥
    never x h = omega arith

pub best-more : (f : ℕ → ℕ) (r : Run) (n m v : ℕ) → Best f n r → n < m → ((x : ℕ) → n ≤ x → x < m → f x ≡ v) → Best f m (better_of r n m v)
best-more f r n m v B lt flat = go (ltb r.peak v) refl (eqb v r.peak && eqb n r.end) refl
  where
    -- a run that can't go on has ended before a lower value
    neither : (eqb v r.peak && eqb n r.end) ≡ false → v ≡ r.peak → n ≡ r.end → ⊥
    neither h q e = eqb-false n r.end (rw (eq-eqb v r.peak q) at h) e

    low : n ≡ r.end → (v ≡ r.peak → ⊥) → v ≤ r.peak → f r.end < r.peak
    low e ne le = let a : f r.end ≡ v = flat r.end (omega arith) (omega arith) in omega arith

    go : (b : Bool) → ltb r.peak v ≡ b → (b₂ : Bool) → (eqb v r.peak && eqb n r.end) ≡ b₂
        → Best f m (cond b (record { peak = v; start = n; end = m }) (cond b₂ (record { peak = r.peak; start = r.start; end = m }) r))
    go true q b₂ q₂ =
        record {
          leads = leads-new f n m r.peak r.start v B.leads lt flat (ltb-true r.peak v q);
          flat = flat;
          some = λ h. lt;
          done = omega arith;
          stops = λ h. absurd (loop m h);
        }
    go false q true q₂ =
        let e : v ≡ r.peak = eqb-true v r.peak (and_left (eqb v r.peak) (eqb n r.end) q₂) in
        let o : n ≡ r.end = eqb-true n r.end (and_right (eqb v r.peak) (eqb n r.end) q₂) in
        let L = leads-on f n m r.peak r.start v B.leads lt flat (omega arith) in
        record {
          leads = L;
          flat = λ x a h. elim (dec_lt x n) [ yes u ↦ B.flat x a (omega arith) | no u ↦ flat x (omega arith) h ∙ e ];
          some = λ h. (L.some h).0;
          done = omega arith;
          stops = λ h. absurd (loop m h);
        }
    go false q false q₂ =
        let down : v ≤ r.peak = ltb-false r.peak v q in
        record {
          leads = leads-on f n m r.peak r.start v B.leads lt flat down;
          flat = B.flat;
          some = λ h. elim (dec_lt 0 n) [ yes u ↦ B.some u | no u ↦ absurd (neither q₂ (omega (arith, (B.leads.none (omega arith)).1)) (omega (arith, B.done))) ];
          done = omega (arith, B.done);
          stops = λ h. elim (dec_lt r.end n) [ yes u ↦ B.stops u | no u ↦ low (omega (arith, B.done)) (λ g. neither q₂ g (omega (arith, B.done))) down ];
        }

pub best-end : {f : ℕ → ℕ} {n : ℕ} {r : Run} → 0 < n → Best f n r → run_end f n ≡ r.end - 1
unfolding run_end
best-end {f} {n} {r} any B =
    rw (leads-greatest B.leads, leads-first B.leads)
    (ap (λ (e : ℕ). e - 1)
    (first-is (λ x. not (eqb (f x) r.peak)) r.start (n - r.start) r.end (omega (arith, B.some any)) (omega (arith, B.some any, B.done))
    (λ x a h. ap not (eq-eqb (f x) r.peak (B.flat x a h)))
    (λ h. ap not (ne_eqb (f r.end) r.peak (λ q. omega (arith, B.stops (omega (arith, B.some any, B.done))))))))
