-- `better` is a strict weak order on all results, and `match_result_compare_desc` says Less exactly by it. Assumes nothing.
use Rattle.std.proofs.Common.{◌≡◌, Bool, true, false, not, ◌&&◌, ◌||◌, refl, unwrap_or}
use lib.Ieee.{Float, is_nan, lt, eq}
use Rattle.std.specs.Ordering.{is_lt, ordering_then, float_partial_cmp}
use Rattle.std.proofs.lemmas.Float.{eq-not_lt, eq_flip}
use Rattle.lists.proofs.Tests.{test, not-both}
use Rattle.floats.proofs.Numbers.{yes}
use Rattle.floats.proofs.Order.{lt-asymmetric, lt-transitive}
use Rattle.matching.specs.declared.MatchResult.{MatchResult}
use Rattle.std.specs.declared.cmp.Ordering.TheVariants.{Less, Equal, Greater}
use Rattle.matching.specs.Results.{higher, pick, compare_desc, result_compare, better}

-- ---- one float, a NaN last

pub higher-asymmetric : (x y : Float) → higher x y ≡ true → higher y x ≡ false
higher-asymmetric x y h = test (is_nan x)
    (λ e. absurd (not-both h (rw e)))
    (λ e. test (is_nan y) (λ d. rw d) (λ d. rw (d, e) (lt-asymmetric y x (rw (e, d) at h))))

pub higher-transitive : (x y z : Float) → higher x y ≡ false → higher y z ≡ false → higher x z ≡ false
higher-transitive x y z h k = test (is_nan x)
    (λ e. rw e)
    (λ e. test (is_nan y)
    (λ d. absurd (not-both (rw (e, d)) h))
    (λ d. test (is_nan z)
    (λ f. absurd (not-both (rw (d, f)) k))
    (λ f. rw (e, f) (lt-transitive x y z d (rw (e, d) at h) (rw (d, f) at k)))))

-- ---- one, then the other

module _ (s p s' p' : Float) where
  abbrev Both : Bool
  Both = higher s s' || (not (higher s' s) && higher p p')

  -- what it is not to be better
  data Not : Type 0 where
    lower : higher s s' ≡ false → higher s' s ≡ true → Not
    tied : higher s s' ≡ false → higher p p' ≡ false → Not

  not-better : Both ≡ false → Not
  not-better h = test (higher s s')
      (λ e. absurd (not-both (rw e) h))
      (λ e. test (higher s' s) (λ d. lower e d) (λ d. tied e (rw (e, d) at h)))

  is-lower : higher s s' ≡ false → higher s' s ≡ true → Both ≡ false
  is-lower e d = rw (e, d)

  is_tied : higher s s' ≡ false → higher p p' ≡ false → Both ≡ false
  is_tied e d = rw (e, d) (test (higher s' s) (λ f. rw f) (λ f. rw f))

pub better-asymmetric : (a b : MatchResult) → better a b ≡ true → better b a ≡ false
unfolding better
better-asymmetric a b h =
    let s = a.score in
    let p = a.prominence in
    let s' = b.score in
    let p' = b.prominence in
    test (higher s s')
    (λ e. is-lower s' p' s p (higher-asymmetric s s' e) e)
    (λ e. test (higher s' s)
    (λ d. absurd (not-both h (rw (e, d))))
    (λ d. is_tied s' p' s p d (higher-asymmetric p p' (rw (e, d) at h))))

pub better-transitive : (a b c : MatchResult) → better a b ≡ false → better b c ≡ false → better a c ≡ false
unfolding better
better-transitive a b c h k = go a.score a.prominence b.score b.prominence c.score c.prominence (not-better _ _ _ _ h) (not-better _ _ _ _ k)
  where
    go : (s p s' p' t u : Float) → Not s p s' p' → Not s' p' t u → Both s p t u ≡ false
    go s p s' p' t u (lower a b) (lower c d) = is-lower s p t u (higher-transitive s s' t a c)
        (test (higher t s) (λ e. e) (λ e. absurd (not-both b (higher-transitive s' t s c e))))
    go s p s' p' t u (lower a b) (tied c d) = is-lower s p t u (higher-transitive s s' t a c)
        (test (higher t s) (λ e. e) (λ e. absurd (not-both b (higher-transitive s' t s c e))))
    go s p s' p' t u (tied a b) (lower c d) = is-lower s p t u (higher-transitive s s' t a c)
        (test (higher t s) (λ e. e) (λ e. absurd (not-both d (higher-transitive t s s' e a))))
    go s p s' p' t u (tied a b) (tied c d) = is_tied s p t u (higher-transitive s s' t a c) (higher-transitive p p' u b d)

-- ---- what the comparison says of it

pub less-is-better : (a b : MatchResult) → is_lt (result_compare a b) ≡ better a b
unfolding result_compare compare_desc better
less-is-better a b = go (higher a.score b.score) (higher b.score a.score) (higher a.prominence b.prominence) (higher b.prominence a.prominence)
  where
    go : (x y u v : Bool) → is_lt (ordering_then (pick x Less (pick y Greater Equal)) (pick u Less (pick v Greater Equal))) ≡ (x || (not y && u))
    go true y u v = refl
    go false true u v = refl
    go false false true v = refl
    go false false false true = refl
    go false false false false = refl

-- ---- of two numbers, the answer of `partial_cmp`, the other way round, is the descending order

module _ (x y : Float) (p : is_nan x ≡ false) (q : is_nan y ≡ false) where
  -- equal numbers are in no order
  tied-eq : eq y x ≡ true → lt x y ≡ false
  tied-eq d = test (lt x y) (λ e. absurd (eq-not_lt x y (eq_flip y x (yes d)) (yes e))) (λ e. e)

  pub partial-is : unwrap_or (float_partial_cmp y x) Equal ≡ compare_desc x y
  unfolding compare_desc
  partial-is = rw (p, q) (test (lt y x)
      (λ e. rw e)
      (λ e. test (eq y x)
      (λ d. rw (e, d, tied-eq d))
      (λ d. rw (e, d) (test (lt x y) (λ f. rw f) (λ f. rw f)))))
