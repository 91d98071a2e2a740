-- What the proofs of `has_vote` and `pair_vote` cite: which way the tests of a pair go. Assumes nothing.
use Rattle.std.proofs.Common.{Option, Some, None, ◌≡◌, ℕ, ◌-◌, ◌<◌, ◌≤◌, Bool, true, false, not, ◌&&◌, ◌||◌, eqb, ltb, sym, refl, true≢false, arith, ltb-false, ltb-true, eq-eqb, ne_eqb}
use mathlib.Core.Bool.{false≢true}
use Rattle.lists.proofs.Tests.{test}
use Rattle.panako_vote.specs.Grids.{outside, scale_bin}
use Rattle.panako_vote.specs.Votes.{offset_at, none_if, vote_at_scale, span, span_ratio, vote_on, is_vote}
use Rattle.panako_vote.specs.declared.ScaleGrid.{ScaleGrid}
use Rattle.panako_vote.specs.declared.Vote.{Vote}

-- a span is 0 unless its end lies above the anchor
zero-span : (anchor end : ℕ) → eqb (span anchor end) 0 ≡ not (ltb anchor end)
zero-span anchor end =
    test (ltb anchor end) (λ h. rw (h, ne_eqb (end - anchor) 0 (some anchor end (ltb-true anchor end h))))
    (λ h. rw (h, eq-eqb (end - anchor) 0 (none anchor end (ltb-false anchor end h))))
  where
    some : (a e : ℕ) → a < e → e - a ≡ 0 → ⊥
    some a e h z = omega arith

    none : (a e : ℕ) → e ≤ a → e - a ≡ 0
    none a e h = omega arith

counted : (p q o : Bool) (v : Option Vote) → is_vote v ≡ true → (p && q && not o) ≡ is_vote (none_if (not p || not q) (none_if o v))
counted false q o v h = refl
counted true false o v h = refl
counted true true true v h = refl
counted true true false v h = sym h

module _ (g : ScaleGrid) (qa qc ra rc : ℕ) where
  pub counts : (ltb qa qc && ltb ra rc && not (outside g (span_ratio (span ra rc) (span qa qc)))) ≡ is_vote (vote_on g qa qc ra rc)
  unfolding vote_on vote_at_scale
  counts =
      let s = span_ratio (span ra rc) (span qa qc) in
      rw (zero-span qa qc, zero-span ra rc) (counted (ltb qa qc) (ltb ra rc) (outside g s) (Some (record { bin = scale_bin g s; offset = offset_at s qa ra })) refl)

  pub votes : is_vote (vote_on g qa qc ra rc) ≡ true → Some (record { bin = scale_bin g (span_ratio (span ra rc) (span qa qc)); offset = offset_at (span_ratio (span ra rc) (span qa qc)) qa ra }) ≡ vote_on g qa qc ra rc
  unfolding vote_on vote_at_scale
  votes = go (eqb (span qa qc) 0 || eqb (span ra rc) 0) (outside g (span_ratio (span ra rc) (span qa qc)))
    where
      go : {v : Option Vote} (a b : Bool) → is_vote (none_if a (none_if b v)) ≡ true → v ≡ none_if a (none_if b v)
      go true b h = absurd (false≢true h)
      go false true h = absurd (false≢true h)
      go false false h = refl

pub no-vote : (v : Option Vote) → is_vote v ≡ false → None ≡ v
no-vote None h = refl
no-vote (Some v) h = absurd (true≢false h)
