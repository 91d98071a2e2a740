-- The occupied bins ascend, are those that a vote has, and don't depend on the votes' order; of votes that stand in words, they are
-- those of the codes. Assumes nothing.
use mathlib.Core.Path.{◌≡◌, refl, sym, ap, ap₂, ◌∙◌, fun_ext}
use mathlib.Core.Bool.{Bool, true, false, not, ◌&&◌, ◌||◌}
use mathlib.Core.List.{List, [], ◌∷◌, map}
use Prim.Native.Nat.{ℕ, ◌+◌}
use native.Mathlib.Omega.{arith}
use lib.IntN.{ℤ, pos}
use lib.ListN.{length}
use lib.Dec.{eqb, ltb}
use borrow.Author.Tests.{lt-ltb}
use Rattle.lists.specs.Lists.{some?, flat, insert_key, All}
use Rattle.lists.specs.Keys.{Ordered}
use Rattle.lists.proofs.Tests.{test, not-both}
use Rattle.lists.proofs.Keep.{all-imp, all_of, some-none, map-map, map_same}
use Rattle.signed.proofs.Order.{never}
use Rattle.maps.specs.Lists.{count_if}
use Rattle.bins.specs.Codes.{occupied, how_often, bin_words, bins_of}
use Rattle.bins.proofs.Binned.{count_map}
use Rattle.panako_vote.specs.declared.Vote.{Vote}
use Rattle.panako_vote.specs.Words.{middle, vote_of_code}
use Rattle.panako_judge.specs.Judge.{same_bin, before, with_bin, occupied_bins, counted_bin, hough_bins, bin_count}
use Rattle.panako_judge.specs.Candidates.{panako_form}
use Rattle.panako_judge.proofs.Order.{Before, same-is, is_same, before-irrefl, before-trans, before-total, before-codes, same_codes}

-- ---- a bin put in

-- it is there, and so are the others
with-has : (p : Vote → Bool) (v : Vote) (l : List Vote) → some? p (with_bin v l) ≡ p v || some? p l
unfolding with_bin some?
with-has p v [] = refl
with-has p v (u ∷ us) =
    let ih = with-has p v us in
    test (same_bin u v)
    (λ e. let h : u ≡ v = same-is u v e in rw e (rw h (test (p v) (λ d. rw d refl) (λ d. rw d refl))))
    (λ e. test (before v u)
    (λ d. rw (e, d) refl)
    (λ d. rw (e, d, ih) (test (p u) (λ g. rw g (test (p v) (λ i. rw i refl) (λ i. rw i refl))) (λ g. rw g refl))))

with_all : (P : Vote → Type 0) (v : Vote) (l : List Vote) → P v → All P l → All P (with_bin v l)
unfolding with_bin
with_all P v [] h k = (h, tt)
with_all P v (u ∷ us) h k =
    test (same_bin u v) (λ e. rw e k)
    (λ e. test (before v u) (λ d. rw (e, d) (h, k)) (λ d. rw (e, d) (k.0, with_all P v us h k.1)))

with-ordered : (v : Vote) (l : List Vote) → Ordered Before l → Ordered Before (with_bin v l)
unfolding with_bin
with-ordered v [] h = (tt, tt)
with-ordered v (u ∷ us) h =
    test (same_bin u v) (λ e. rw e h)
    (λ e. test (before v u)
    (λ d. rw (e, d) ((d, all-imp (Before u) (Before v) (λ w k. before-trans v u w d k) us h.0), h))
    (λ d. rw (e, d) (with_all (Before u) v us (after e d) h.0, with-ordered v us h.1)))
  where
    after : same_bin u v ≡ false → before v u ≡ false → Before u v
    after e d = test (before u v) (λ k. k) (λ k. let q : u ≡ v = before-total u v k d in absurd (not-both (rw q (is_same v)) e))

-- ---- the bins

pub occupied-has : (p : Vote → Bool) (vs : List Vote) → some? p (occupied_bins vs) ≡ some? p vs
unfolding occupied_bins some?
occupied-has p [] = refl
occupied-has p (v ∷ vs) = with-has p v (occupied_bins vs) ∙ ap (λ (b : Bool). p v || b) (occupied-has p vs)

pub occupied-ordered : (vs : List Vote) → Ordered Before (occupied_bins vs)
unfolding occupied_bins
occupied-ordered [] = tt
occupied-ordered (v ∷ vs) = with-ordered v (occupied_bins vs) (occupied-ordered vs)

-- ---- bins in order are known by what they have

-- a bin before all of the others is not among them
not_first : (x y : Vote) (xs ys : List Vote) → Before x y → All (Before y) ys → ((p : Vote → Bool) → some? p (x ∷ xs) ≡ some? p (y ∷ ys)) → ⊥
unfolding some?
not_first x y xs ys h a same = not-both here there
  where
    p : Vote → Bool
    p z = not (before x z)

    here : some? p (x ∷ xs) ≡ true
    here = rw (before-irrefl x) refl

    there : some? p (x ∷ xs) ≡ false
    there = same p ∙ some-none p (y ∷ ys) (all-imp (Before x) (λ z. p z ≡ false) (λ z k. ap not k) (y ∷ ys) (h, all-imp (Before y) (Before x) (λ z k. before-trans x y z h k) ys a))

-- what the bins after x have
behind : (x : Vote) (p : Vote → Bool) (xs : List Vote) → All (Before x) xs → some? (λ z. before x z && p z) (x ∷ xs) ≡ some? p xs
unfolding some?
behind x p xs a = rw (before-irrefl x) (go xs a)
  where
    go : (l : List Vote) → All (Before x) l → some? (λ z. before x z && p z) l ≡ some? p l
    go [] h = refl
    go (z ∷ zs) h = rw h.0 (ap (λ (b : Bool). p z || b) (go zs h.1))

ordered-known : (l m : List Vote) → Ordered Before l → Ordered Before m → ((p : Vote → Bool) → some? p l ≡ some? p m) → l ≡ m
unfolding some?
ordered-known [] [] a b same = refl
ordered-known [] (y ∷ ys) a b same = never (same (λ z. true))
ordered-known (x ∷ xs) [] a b same = never (sym (same (λ z. true)))
ordered-known (x ∷ xs) (y ∷ ys) a b same =
    test (before x y)
    (λ h. absurd (not_first x y xs ys h b.0 same))
    (λ h. test (before y x)
    (λ k. absurd (not_first y x ys xs k a.0 (λ p. sym (same p))))
    (λ k. let e : x ≡ y = before-total x y h k in ap (λ (z : Vote). z ∷ xs) e ∙ ap (λ (l : List Vote). y ∷ l) (ordered-known xs ys a.1 b.1 (λ p. tails p e))))
  where
    tails : (p : Vote → Bool) → x ≡ y → some? p xs ≡ some? p ys
    tails p e = sym (behind x p xs a.0) ∙ same (λ z. before x z && p z) ∙ ap (λ (w : Vote). some? (λ z. before w z && p z) (y ∷ ys)) e ∙ behind y p ys b.0

-- ---- votes with the same counts

some-counts : (p : Vote → Bool) (vs : List Vote) → some? p vs ≡ ltb 0 (count_if p vs)
unfolding some? count_if
some-counts p [] = refl
some-counts p (v ∷ vs) =
    let ih = some-counts p vs in
    test (p v)
    (λ e. rw e (sym (lt-ltb 0 (1 + count_if p vs) (omega arith))))
    (λ e. let z : 0 + count_if p vs ≡ count_if p vs = omega arith in rw (e, z) ih)

module _ (vs us : List Vote) (same : (p : Vote → Bool) → count_if p vs ≡ count_if p us) where
  pub occupied-same : occupied_bins vs ≡ occupied_bins us
  occupied-same =
      ordered-known (occupied_bins vs) (occupied_bins us) (occupied-ordered vs) (occupied-ordered us)
      (λ p. occupied-has p vs ∙ some-counts p vs ∙ ap (ltb 0) (same p) ∙ sym (occupied-has p us ∙ some-counts p us))

  pub bins-same : hough_bins vs ≡ hough_bins us
  unfolding hough_bins
  bins-same =
      ap₂ (λ (b : Vote → List ℤ) (l : List Vote). flat (map b l))
      (fun_ext (λ b. ap (λ (n : ℕ). pos b.bin ∷ b.offset ∷ pos n ∷ []) (same (λ v. same_bin v b)))) occupied-same

-- ---- votes by their codes

with_code : (k : ℕ) (l : List ℕ) → with_bin (vote_of_code k) (map vote_of_code l) ≡ map vote_of_code (insert_key k l)
unfolding with_bin insert_key
with_code k [] = refl
with_code k (x ∷ xs) =
    let ih = with_code k xs in
    test (eqb x k) (λ e. rw (same_codes x k, e) refl)
    (λ e. test (ltb k x) (λ d. rw (same_codes x k, before-codes k x, e, d) refl) (λ d. rw (same_codes x k, before-codes k x, e, d, ih) refl))

occupied-codes : (ks : List ℕ) → occupied_bins (map vote_of_code ks) ≡ map vote_of_code (occupied ks)
unfolding occupied_bins occupied
occupied-codes [] = refl
occupied-codes (k ∷ ks) = ap (with_bin (vote_of_code k)) (occupied-codes ks) ∙ with_code k (occupied ks)

pub count-codes : (ks : List ℕ) → bin_count (map vote_of_code ks) ≡ length (occupied ks)
count-codes ks = ap length (occupied-codes ks) ∙ lib.ListN.length-map (occupied ks) vote_of_code

often-codes : (ks : List ℕ) (k : ℕ) → count_if (λ v. same_bin v (vote_of_code k)) (map vote_of_code ks) ≡ how_often ks k
often-codes ks k = count_map vote_of_code (λ v. same_bin v (vote_of_code k)) ks ∙ ap (λ (p : ℕ → Bool). count_if p ks) (fun_ext (λ x. same_codes x k))

pub bins-codes : (ks : List ℕ) → hough_bins (map vote_of_code ks) ≡ bins_of panako_form middle ks
unfolding hough_bins bins_of
bins-codes ks =
    let vs = map vote_of_code ks in
    let f : ℕ → List ℤ = λ k. counted_bin vs (vote_of_code k) in
    let g : ℕ → List ℤ = λ k. bin_words panako_form middle k (how_often ks k) in
    ap (λ (l : List Vote). flat (map (counted_bin vs) l)) (occupied-codes ks)
    ∙ ap flat
    (map-map (counted_bin vs) vote_of_code (occupied ks)
    ∙ map_same f g (occupied ks) (all_of (λ k. f k ≡ g k) (λ k. ap (bin_words panako_form middle k) (often-codes ks k)) (occupied ks)))
