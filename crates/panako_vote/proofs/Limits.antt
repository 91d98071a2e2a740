-- Settings that are normalised and within the limits are accepted, and their scale grid is limited. Assumes nothing.
use Rattle.std.proofs.Common.{◌≡◌, ℕ, ◌-◌, ◌*◌, ◌^◌, ◌<◌, ◌≤◌, Bool, true, false, ◌&&◌, ◌||◌, T, eqb, ltb, leb, ℤ, pos, sym, refl, ap, subst, le_trans, le_of_eq, pos_of_ne-zero, one-mul, mul-one, arith, lit<, lit≤, leb→le, ltb-true, le-ltb, eqb-true}
use borrow.Author.Tests.{eqb-false}
use lib.Ieee.{Float, nan, inf, fin, binary64, up, down, add, sub, mul, lt, le, is_nan}
use lib.Ieee.Fits.{and_l, and_r}
use Rattle.floats.specs.Selection.{abs}
use Rattle.floats.proofs.Numbers.{yes}
use Rattle.lists.proofs.Tests.{test}
use Rattle.floats.proofs.Order.{le_of_not_lt}
use Rattle.floats.proofs.Whole.{whole-value}
use Rattle.matching.specs.Scales.{half, per_bin}
use Rattle.panako_vote.specs.Settings.{scale_bins, normalised, sixty_four, within_limits, Accepted}
use Rattle.panako_vote.specs.Grids.{whole, per, grid_of, Limited}
use Rattle.panako_vote.specs.declared.PanakoMatchConfig.{PanakoMatchConfig}
use Rattle.panako_vote.specs.declared.ScaleGrid.{ScaleGrid}
use Rattle.panako_vote.proofs.Sizes.{Small, small-add, small-sub, small-half, small-div}

-- ---- a comparison with a power of two

pub at_most : (k m : ℕ) (e : ℤ) → T (le (fin false m e) (fin false 1 (pos k))) → m * up e ≤ 2 ^ k * down e
unfolding le
at_most k m e t = tidy (m * up e) (2 ^ k) (down e) (reach (m * up e * 1) (1 * 2 ^ k * down e) t)
  where
    reach : (a b : ℕ) → T (ltb a b || (eqb a b && true)) → a ≤ b
    reach a b t =
        test (ltb a b) (λ h. let l = ltb-true a b h in omega arith)
        (λ h. test (eqb a b) (λ g. le_of_eq (eqb-true a b g)) (λ g. absurd (rw (h, g) at t)))

    tidy : (n p d : ℕ) → n * 1 ≤ 1 * p * d → n ≤ p * d
    tidy n p d h = le_trans (le_of_eq (sym (mul-one n))) (le_trans h (le_of_eq (ap (λ (z : ℕ). z * d) (one-mul p))))

abs-small : (x : Float) → T (le (abs x) sixty_four) → Small 6 x
unfolding le abs
abs-small nan t = t
abs-small (inf s) t = t
abs-small (fin s m e) t = at_most 6 m e t

small-le : (k : ℕ) (x : Float) → Small k x → T (le x (fin false 1 (pos k)))
unfolding is_nan lt
small-le k nan h = elim h [ ]
small-le k (inf _) h = elim h [ ]
small-le k (fin s m e) h = yes (le_of_not_lt (fin false 1 (pos k)) (fin s m e) tt tt (not-above s))
  where
    not-above : (s : Bool) → lt (fin false 1 (pos k)) (fin s m e) ≡ false
    not-above true = refl
    not-above false = le-ltb (1 * 2 ^ k * down e) (m * up e * 1) (le_trans (le_of_eq (mul-one (m * up e))) (le_trans h (le_of_eq (ap (λ (z : ℕ). z * down e) (sym (one-mul (2 ^ k)))))))

-- ---- the grid

module _ (cfg : PanakoMatchConfig) (A : Accepted cfg) where
  small-max : Small 6 cfg.scale_max
  small-max = abs-small cfg.scale_max A.max_size

  small-per : Small 7 (per cfg)
  unfolding per_bin
  small-per =
      small-div binary64 7 (sub binary64 cfg.scale_max cfg.scale_min) (whole cfg.scale_bins) cfg.scale_bins (lit< tt)
      (small-sub binary64 6 cfg.scale_max cfg.scale_min (lit< tt) small-max (abs-small cfg.scale_min A.min_size))
      (whole-value binary64 cfg.scale_bins (le_trans A.few_bins (lit≤ tt))) A.some_bins

  pub limited : Limited (grid_of cfg)
  unfolding grid_of
  limited =
      record {
        high =
            small-le 7 (add binary64 cfg.scale_max (mul binary64 (per cfg) half))
            (small-add binary64 6 cfg.scale_max (mul binary64 (per cfg) half) (lit< tt) small-max (small-half binary64 6 (per cfg) (lit< tt) small-per));
        last = below cfg.scale_bins A.few_bins;
        unit_bin = refl;
        unit_votes = refl;
      }
    where
      below : (n : ℕ) → n ≤ 4096 → n - 1 < 4096
      below n h = omega arith

-- what `scale_grid` promises of its result
pub grid-limited : (g : ScaleGrid) (cfg : PanakoMatchConfig) → g ≡ grid_of cfg → (g ≡ grid_of cfg) × (Accepted cfg → Limited g)
grid-limited g cfg e = (e, λ A. subst Limited (sym e) (limited cfg A))

-- ---- settings that are accepted

some-bins : (n : ℕ) → 0 < scale_bins n
some-bins n = test (eqb n 0) (λ h. rw h (lit< tt)) (λ h. rw h (pos_of_ne-zero (eqb-false n 0 h)))

some-normalised : (cfg : PanakoMatchConfig) → 0 < (normalised cfg).scale_bins
unfolding normalised
some-normalised cfg = some-bins cfg.scale_bins

pub accepted : (cfg : PanakoMatchConfig) → within_limits (normalised cfg) ≡ true → Accepted (normalised cfg)
unfolding within_limits
accepted cfg h =
    let n = normalised cfg in
    let a = le (abs n.scale_min) sixty_four in
    let b = le (abs n.scale_max) sixty_four in
    let c = leb n.scale_bins 4096 in
    let d = leb n.offset_tolerance_frames 65535 in
    let t : T (a && b && c && d) = yes h in
    let u = and_l (a && b && c) d t in
    let v = and_l (a && b) c u in
    record {
      min_size = and_l a b v;
      max_size = and_r a b v;
      some_bins = some-normalised cfg;
      few_bins = leb→le n.scale_bins 4096 (and_r (a && b) c u);
      tolerance = leb→le n.offset_tolerance_frames 65535 (and_r (a && b && c) d t);
    }
