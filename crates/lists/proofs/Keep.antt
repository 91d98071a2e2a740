-- Laws of `keep`, `All`, `some?`, `flat`. Assumes nothing.
use mathlib.Core.Path.{◌≡◌, refl, sym, ap, ◌∙◌}
use mathlib.Core.Bool.{Bool, true, false, cond, ◌||◌}
use mathlib.Core.List.{List, [], ◌∷◌, ◌++◌, map, append_assoc, append-nil}
use Prim.Native.Nat.{ℕ, zero, suc, ◌*◌, ◌≤◌, ◌<◌}
use native.Mathlib.Nat.{mul-zero, mul-suc, add_comm}
use native.Mathlib.Omega.{arith}
use lib.ListN.{length, get_or, take, drop, set, length-append}
use lib.Seq.{take-suc}
use lib.Dec.{eqb}
use borrow.Author.Tests.{eqb-true, eq-eqb}
use Rattle.lists.specs.Lists.{keep, some?, All, flat}
use Rattle.lists.specs.Every.{count}
use Rattle.lists.specs.Entries.{Wide}
use Rattle.lists.proofs.Tests.{test, not-both, or_right, or-false-left, or-false-right}
use Rattle.lists.proofs.Every.{count_none, count-first}

-- ---- what passes a test

module _ {A : Type 0} where
  pub keep_append : (t : A → Bool) (l m : List A) → keep t (l ++ m) ≡ keep t l ++ keep t m
  unfolding keep
  keep_append t [] m = refl
  keep_append t (x ∷ xs) m = test (t x) (λ e. rw (e, keep_append t xs m)) (λ e. rw (e, keep_append t xs m))

  pub keep_one : (t : A → Bool) (x : A) → keep t (x ∷ []) ≡ cond (t x) (x ∷ []) []
  unfolding keep
  keep_one t x = refl

  pub keep-nil : (t : A → Bool) → keep t [] ≡ []
  unfolding keep
  keep-nil t = refl

  pub keep-yes : (t : A → Bool) (x : A) (xs : List A) → t x ≡ true → keep t (x ∷ xs) ≡ x ∷ keep t xs
  unfolding keep
  keep-yes t x xs e = rw e

  pub keep-no : (t : A → Bool) (x : A) (xs : List A) → t x ≡ false → keep t (x ∷ xs) ≡ keep t xs
  unfolding keep
  keep-no t x xs e = rw e

  pub keep-comm : (t u : A → Bool) (l : List A) → keep t (keep u l) ≡ keep u (keep t l)
  unfolding keep
  keep-comm t u [] = refl
  keep-comm t u (x ∷ xs) =
      test (t x)
      (λ e. test (u x) (λ f. rw (f, e, f, keep-comm t u xs)) (λ f. rw (f, e, f, keep-comm t u xs)))
      (λ e. test (u x) (λ f. rw (f, e, keep-comm t u xs)) (λ f. rw (f, e, keep-comm t u xs)))

  pub keep-ext : (t u : A → Bool) → ((x : A) → t x ≡ u x) → (l : List A) → keep t l ≡ keep u l
  unfolding keep
  keep-ext t u h [] = refl
  keep-ext t u h (x ∷ xs) = rw (h x, keep-ext t u h xs)

  -- tests that agree on every element of the list
  pub keep_same : (t u : A → Bool) (l : List A) → All (λ x. t x ≡ u x) l → keep t l ≡ keep u l
  unfolding keep
  keep_same t u [] a = refl
  keep_same t u (x ∷ l) a = rw (a.0, keep_same t u l a.1)

  -- of those that pass u, t keeps those that v does, where the two agree on them
  pub keep-both : (t v u : A → Bool) → ((x : A) → u x ≡ true → t x ≡ v x) → (l : List A) → keep t (keep u l) ≡ keep u (keep v l)
  unfolding keep
  keep-both t v u h [] = refl
  keep-both t v u h (x ∷ xs) =
      let ih = keep-both t v u h xs in
      test (u x)
      (λ e. test (v x) (λ d. rw (e, h x e, d, e, ih)) (λ d. rw (e, h x e, d, ih)))
      (λ e. test (v x) (λ d. rw (e, d, e, ih)) (λ d. rw (e, d, ih)))

  pub keep_all : (t : A → Bool) (l : List A) → All (λ x. t x ≡ true) l → keep t l ≡ l
  unfolding keep
  keep_all t [] h = refl
  keep_all t (x ∷ xs) h = rw (h.0, keep_all t xs h.1)

  pub keep-none : (t : A → Bool) (l : List A) → All (λ x. t x ≡ false) l → keep t l ≡ []
  unfolding keep
  keep-none t [] h = refl
  keep-none t (x ∷ xs) h = rw (h.0, keep-none t xs h.1)

  pub length-keep : (t : A → Bool) (l : List A) → length (keep t l) ≤ length l
  unfolding keep
  length-keep t [] = omega arith
  length-keep t (x ∷ xs) = let ih = length-keep t xs in test (t x) (λ e. rw e (omega arith)) (λ e. rw e (omega arith))

  -- a loop that retains: one element more
  pub keep-more : (t : A → Bool) (l : List A) (i : ℕ) (d : A) → i < length l
      → keep t (take (suc i) l) ≡ keep t (take i l) ++ cond (t (get_or l i d)) (get_or l i d ∷ []) []
  keep-more t l i d h = rw (take-suc l i d, keep_append t (take i l) (get_or l i d ∷ []), keep_one t (get_or l i d))

  -- ---- each element

  pub all_keep : (P : A → Type 0) (t : A → Bool) (l : List A) → All P l → All P (keep t l)
  unfolding keep
  all_keep P t [] h = tt
  all_keep P t (x ∷ xs) h = test (t x) (λ e. rw e (h.0, all_keep P t xs h.1)) (λ e. rw e (all_keep P t xs h.1))

  -- what is kept passes
  pub all-kept : (t : A → Bool) (l : List A) → All (λ x. t x ≡ true) (keep t l)
  unfolding keep
  all-kept t [] = tt
  all-kept t (x ∷ xs) = test (t x) (λ e. rw e (e, all-kept t xs)) (λ e. rw e (all-kept t xs))

  pub all_append : (P : A → Type 0) (l m : List A) → All P l → All P m → All P (l ++ m)
  all_append P [] m h k = k
  all_append P (x ∷ xs) m h k = (h.0, all_append P xs m h.1 k)

  pub all-imp : (P Q : A → Type 0) → ((x : A) → P x → Q x) → (l : List A) → All P l → All Q l
  all-imp P Q f [] h = tt
  all-imp P Q f (x ∷ xs) h = (f x h.0, all-imp P Q f xs h.1)

  pub all_of : (P : A → Type 0) → ((x : A) → P x) → (l : List A) → All P l
  all_of P f [] = tt
  all_of P f (x ∷ xs) = (f x, all_of P f xs)

  pub all_both : (P Q : A → Type 0) (l : List A) → All P l → All Q l → All (λ x. P x × Q x) l
  all_both P Q [] h k = tt
  all_both P Q (x ∷ xs) h k = ((h.0, k.0), all_both P Q xs h.1 k.1)

  pub all_set : (P : A → Type 0) (l : List A) (i : ℕ) (a : A) → P a → All P l → All P (set l i a)
  all_set P [] i a h k = tt
  all_set P (x ∷ xs) zero a h k = (h, k.1)
  all_set P (x ∷ xs) (suc i) a h k = (k.0, all_set P xs i a h k.1)

  pub all_take : (P : A → Type 0) (n : ℕ) (l : List A) → All P l → All P (take n l)
  all_take P zero l h = tt
  all_take P (suc n) [] h = tt
  all_take P (suc n) (x ∷ xs) h = (h.0, all_take P n xs h.1)

  pub all_drop : (P : A → Type 0) (n : ℕ) (l : List A) → All P l → All P (drop n l)
  all_drop P zero l h = h
  all_drop P (suc n) [] h = tt
  all_drop P (suc n) (x ∷ xs) h = all_drop P n xs h.1

  -- by index
  pub all-at : (P : A → Type 0) (l : List A) (d : A) → All P l → (i : ℕ) → i < length l → P (get_or l i d)
  all-at P [] d h i lt = absurd (omega arith)
  all-at P (x ∷ xs) d h zero lt = h.0
  all-at P (x ∷ xs) d h (suc i) lt = all-at P xs d h.1 i (omega arith)

  pub all-make : (P : A → Type 0) (l : List A) (d : A) → ((i : ℕ) → i < length l → P (get_or l i d)) → All P l
  all-make P [] d h = tt
  all-make P (x ∷ xs) d h = (h 0 (omega arith), all-make P xs d (λ i lt. h (suc i) (omega arith)))

  pub count-keep : (t : A → Bool) (l : List A) (d : A) → count (length l) (λ i. t (get_or l i d)) ≡ length (keep t l)
  unfolding keep
  count-keep t [] d = count_none (λ i. t d)
  count-keep t (x ∷ xs) d = count-first (λ i. t (get_or (x ∷ xs) i d)) (length xs) ∙ rw (count-keep t xs d) (test (t x) (λ e. rw e) (λ e. rw e))

  -- no element passes
  pub none_pass : (t : A → Bool) (l : List A) → some? t l ≡ false → All (λ x. t x ≡ false) l
  unfolding some?
  none_pass t [] h = tt
  none_pass t (x ∷ xs) h = (or-false-left (t x) (some? t xs) h, none_pass t xs (or-false-right (t x) (some? t xs) h))

  pub some-none : (t : A → Bool) (l : List A) → All (λ x. t x ≡ false) l → some? t l ≡ false
  unfolding some?
  some-none t [] h = refl
  some-none t (x ∷ xs) h = rw h.0 (some-none t xs h.1)

  -- ---- keys

  -- a fact of each key that is there is one of each element, and the other way round
  pub all-of-key : (f : A → ℕ) (P : ℕ → Type 0) (l : List A) → ((k : ℕ) → some? (λ x. eqb (f x) k) l ≡ true → P k) → All (λ x. P (f x)) l
  unfolding some?
  all-of-key f P [] h = tt
  all-of-key f P (x ∷ xs) h = (
    h (f x) (rw (eq-eqb (f x) (f x) refl)),
    all-of-key f P xs (λ k e. h k (or_right (eqb (f x) k) (some? (λ x. eqb (f x) k) xs) e)),
  )

  pub key-of-all : (f : A → ℕ) (P : ℕ → Type 0) (l : List A) → All (λ x. P (f x)) l → (k : ℕ) → some? (λ x. eqb (f x) k) l ≡ true → P k
  unfolding some?
  key-of-all f P [] h k e = absurd (not-both e refl)
  key-of-all f P (x ∷ xs) h k e =
      test (eqb (f x) k)
      (λ d. rw (eqb-true (f x) k d) at h.0)
      (λ d. key-of-all f P xs h.1 k (rw d at e))

  -- ---- lists, one after the other

  pub flat_append : (l m : List (List A)) → flat (l ++ m) ≡ flat l ++ flat m
  unfolding flat
  flat_append [] m = refl
  flat_append (x ∷ xs) m = ap (λ (r : List A). x ++ r) (flat_append xs m) ∙ sym (append_assoc x (flat xs) (flat m))

  pub flat-one : (x : List A) → flat (x ∷ []) ≡ x
  unfolding flat
  flat-one x = append-nil x

  pub length-flat : (w : ℕ) (l : List (List A)) → Wide w l → length (flat l) ≡ w * length l
  unfolding flat
  length-flat w [] h = sym (mul-zero w)
  length-flat w (x ∷ xs) h = rw (length-append x (flat xs), h.0, length-flat w xs h.1, mul-suc) (add_comm w (w * length xs))

-- ---- images

module _ {A B : Type 0} (f : A → B) where
  pub keep-map : (t : B → Bool) (l : List A) → keep t (map f l) ≡ map f (keep (λ x. t (f x)) l)
  unfolding keep
  keep-map t [] = refl
  keep-map t (x ∷ xs) = test (t (f x)) (λ e. rw (e, keep-map t xs)) (λ e. rw (e, keep-map t xs))

  pub some-map : (t : B → Bool) (l : List A) → some? t (map f l) ≡ some? (λ x. t (f x)) l
  unfolding some?
  some-map t [] = refl
  some-map t (x ∷ xs) = ap (λ (b : Bool). t (f x) || b) (some-map t xs)

  pub all_map : (P : B → Type 0) (l : List A) → All (λ x. P (f x)) l → All P (map f l)
  all_map P [] h = tt
  all_map P (x ∷ xs) h = (h.0, all_map P xs h.1)

  pub all-unmap : (P : B → Type 0) (l : List A) → All P (map f l) → All (λ x. P (f x)) l
  all-unmap P [] h = tt
  all-unmap P (x ∷ xs) h = (h.0, all-unmap P xs h.1)

pub map_same : {A B : Type 0} (f g : A → B) (l : List A) → All (λ x. f x ≡ g x) l → map f l ≡ map g l
map_same f g [] h = refl
map_same f g (x ∷ xs) h = λ i. h.0 i ∷ map_same f g xs h.1 i

pub map-map : {A B C : Type 0} (g : B → C) (f : A → B) (l : List A) → map g (map f l) ≡ map (λ x. g (f x)) l
map-map g f [] = refl
map-map g f (x ∷ xs) = ap (λ (r : List _). g (f x) ∷ r) (map-map g f xs)

pub map-id : {A : Type 0} (l : List A) → map (λ x. x) l ≡ l
map-id [] = refl
map-id (x ∷ xs) = ap (λ (r : List _). x ∷ r) (map-id xs)

-- one list for each element: leaving elements out never makes it longer
pub length-flat-keep : {A B : Type 0} (f : A → List B) (t : A → Bool) (l : List A) → length (flat (map f (keep t l))) ≤ length (flat (map f l))
unfolding keep flat
length-flat-keep f t [] = omega arith
length-flat-keep f t (x ∷ xs) =
    let ih = length-flat-keep f t xs in
    test (t x) (λ e. rw e (simp length-append (omega arith))) (λ e. rw e (simp length-append (omega arith)))
