-- Laws of lists in key order: a sorted list is known by what stands under each key, and to place an element is to append it under its key. Assumes nothing.
use mathlib.Core.Path.{◌≡◌, refl, sym, ap, ◌∙◌}
use mathlib.Core.Logic.{⊎_elim}
use mathlib.Core.Bool.{Bool, false}
use mathlib.Core.List.{List, [], ◌∷◌, ◌++◌, map, append_assoc, append-nil}
use Prim.Native.Nat.{ℕ, suc, ◌+◌, ◌-◌, ◌≤◌, ◌<◌}
use native.Mathlib.Nat.{suc-sub-suc, sub-zero, le_refl, eq-or-lt_of_le}
use native.Mathlib.Omega.{arith}
use lib.ListN.{length, get_or, take, drop}
use lib.Dec.{eqb, leb, ltb}
use borrow.Author.Tests.{ltb-true, ltb-false, leb-true, leb-false, eqb-true, eq-eqb, ne_eqb, le-leb, lt-leb, le-ltb}
use Rattle.lists.specs.Lists.{keep, All}
use Rattle.lists.specs.Keys.{under, has_key, Sorted, place, place_all, lower, upper}
use Rattle.lists.proofs.Ordered.{ordered-keep, ordered-snoc, ordered_at, ordered-make, ordered-map, ordered-unmap}
use Rattle.lists.proofs.Tests.{test}
use Rattle.lists.proofs.Keep.{keep_append, keep-comm, keep-none, keep-no, keep-yes, keep-map, all-imp, none_pass}

module _ {A : Type 0} (key : A → ℕ) where
  -- ---- sorted lists

  pub sorted-keep : (t : A → Bool) (l : List A) → Sorted key l → Sorted key (keep t l)
  sorted-keep t l h = ordered-keep (λ x y. key x ≤ key y) t l h

  pub sorted-snoc : (l : List A) (x : A) → Sorted key l → All (λ y. key y ≤ key x) l → Sorted key (l ++ x ∷ [])
  sorted-snoc l x h a = ordered-snoc (λ x y. key x ≤ key y) l x h a

  pub sorted-at : (l : List A) (d : A) → Sorted key l → (i j : ℕ) → i ≤ j → j < length l → key (get_or l i d) ≤ key (get_or l j d)
  sorted-at l d h i j le lt = ⊎_elim
      (λ (e : i ≡ j). rw e (le_refl (key (get_or l j d))))
      (λ (l' : i < j). ordered_at (λ x y. key x ≤ key y) l d h i j l' lt)
      (eq-or-lt_of_le le)

  pub sorted-make : (l : List A) (d : A) → ((i : ℕ) → suc i < length l → key (get_or l i d) ≤ key (get_or l (suc i) d)) → Sorted key l
  sorted-make l d h = ordered-make (λ x y. key x ≤ key y) (λ x y z a b. omega arith) l d h

  -- ---- what stands under a key

  under-here : (x : A) (xs : List A) → under key (key x) (x ∷ xs) ≡ x ∷ under key (key x) xs
  under-here x xs = keep-yes (λ y. eqb (key y) (key x)) x xs (eq-eqb (key x) (key x) refl)

  -- nothing, where all are above it
  pub under-above : (k : ℕ) (l : List A) → All (λ y. k < key y) l → under key k l ≡ []
  under-above k l h = keep-none (λ y. eqb (key y) k) l (all-imp (λ y. k < key y) (λ y. eqb (key y) k ≡ false) (λ y lt. ne_eqb (key y) k (λ e. omega arith)) l h)

  pub under_none : (k : ℕ) (l : List A) → has_key key k l ≡ false → under key k l ≡ []
  under_none k l h = keep-none (λ y. eqb (key y) k) l (none_pass (λ y. eqb (key y) k) l h)

  above-sorted : (k : ℕ) (x : A) (xs : List A) → k < key x → All (λ y. key x ≤ key y) xs → All (λ y. k < key y) (x ∷ xs)
  above-sorted k x xs lt h = (lt, all-imp (λ y. key x ≤ key y) (λ y. k < key y) (λ y le. omega arith) xs h)

  pub sorted_ext : (l m : List A) → Sorted key l → Sorted key m → ((k : ℕ) → under key k l ≡ under key k m) → l ≡ m
  sorted_ext [] [] a b h = refl
  sorted_ext [] (y ∷ ys) a b h = let e = sym (under-above (key y) [] tt) ∙ h (key y) ∙ under-here y ys in let z : ◌≡◌ {A = ℕ} 0 1 = cc in absurd (omega arith)
  sorted_ext (x ∷ xs) [] a b h = let e = sym (under-above (key x) [] tt) ∙ sym (h (key x)) ∙ under-here x xs in let z : ◌≡◌ {A = ℕ} 0 1 = cc in absurd (omega arith)
  sorted_ext (x ∷ xs) (y ∷ ys) a b h =
      let step = sorted_ext xs ys a.1 b.1 in
      test (ltb (key x) (key y))
      (λ e. let c = sym (under-here x xs) ∙ h (key x) ∙ under-above (key x) (y ∷ ys) (above-sorted (key x) y ys (ltb-true (key x) (key y) e) b.0) in
      let z : ◌≡◌ {A = ℕ} 0 1 = cc in absurd (omega arith))
      (λ e. test (ltb (key y) (key x))
      (λ d. let c = sym (under-here y ys) ∙ sym (h (key y)) ∙ under-above (key y) (x ∷ xs) (above-sorted (key y) x xs (ltb-true (key y) (key x) d) a.0) in
      let z : ◌≡◌ {A = ℕ} 0 1 = cc in absurd (omega arith))
      (λ d. let same : key y ≡ key x = omega (arith, ltb-false (key x) (key y) e, ltb-false (key y) (key x) d) in
      let heads : x ∷ under key (key x) xs ≡ y ∷ under key (key x) ys = sym (under-here x xs) ∙ h (key x) ∙ keep-yes (λ z. eqb (key z) (key x)) y ys (eq-eqb (key y) (key x) same) in
      let first : x ≡ y = cc in
      let rest : under key (key x) xs ≡ under key (key x) ys = cc in
      ap (λ p. p ∷ xs) first ∙ ap (λ l. y ∷ l) (step (λ k. tails k same rest))))
    where
      tails : (k : ℕ) → key y ≡ key x → under key (key x) xs ≡ under key (key x) ys → under key k xs ≡ under key k ys
      tails k same rest = test (eqb (key x) k)
          (λ e. rw (← (eqb-true (key x) k e)) rest)
          (λ e. sym (keep-no (λ z. eqb (key z) k) x xs e) ∙ h k ∙ keep-no (λ z. eqb (key z) k) y ys (rw same e))

  -- leaving elements out keeps two lists alike under each key
  pub under-keep : (t : A → Bool) (l m : List A) → ((k : ℕ) → under key k l ≡ under key k m) → (k : ℕ) → under key k (keep t l) ≡ under key k (keep t m)
  under-keep t l m h k = keep-comm (λ x. eqb (key x) k) t l ∙ ap (keep t) (h k) ∙ keep-comm t (λ x. eqb (key x) k) m

  -- ---- placing

  pub all-place : (P : A → Type 0) (x : A) (l : List A) → P x → All P l → All P (place key x l)
  unfolding place
  all-place P x [] h a = (h, tt)
  all-place P x (y ∷ ys) h a = test (leb (key y) (key x)) (λ e. rw e (a.0, all-place P x ys h a.1)) (λ e. rw e (h, a))

  pub sorted-place : (x : A) (l : List A) → Sorted key l → Sorted key (place key x l)
  unfolding place
  sorted-place x [] h = (tt, tt)
  sorted-place x (y ∷ ys) h =
      test (leb (key y) (key x))
      (λ e. rw e (all-place (λ z. key y ≤ key z) x ys (leb-true (key y) (key x) e) h.0, sorted-place x ys h.1))
      (λ e. let lt = leb-false (key y) (key x) e in
      rw e ((omega arith, all-imp (λ z. key y ≤ key z) (λ z. key x ≤ key z) (λ z le. omega arith) ys h.0), h))

  pub under-place : (k : ℕ) (x : A) (l : List A) → Sorted key l → under key k (place key x l) ≡ under key k l ++ under key k (x ∷ [])
  unfolding place keep
  under-place k x [] h = refl
  under-place k x (y ∷ ys) h =
      test (leb (key y) (key x))
      (λ e. rw e (test (eqb (key y) k) (λ d. rw (d, under-place k x ys h.1)) (λ d. rw (d, under-place k x ys h.1))))
      (λ e. let lt = leb-false (key y) (key x) e in rw e (test (eqb (key x) k)
      (λ d. let same = eqb-true (key x) k d in rw (d, under-above k (y ∷ ys) (above-sorted k y ys (omega arith) h.0)))
      (λ d. rw (d, append-nil))))

  pub length-place : (x : A) (l : List A) → length (place key x l) ≡ suc (length l)
  unfolding place
  length-place x [] = refl
  length-place x (y ∷ ys) = test (leb (key y) (key x)) (λ e. rw (e, length-place x ys)) (λ e. rw e)

  -- to place an element is to make room for it at `upper`
  pub place-split : (x : A) (l : List A) → place key x l ≡ take (upper key (key x) l) l ++ x ∷ drop (upper key (key x) l) l
  unfolding place upper
  place-split x [] = refl
  place-split x (y ∷ ys) = test (leb (key y) (key x)) (λ e. rw e (ap (λ m. y ∷ m) (place-split x ys))) (λ e. rw e)

  -- the last one comes last; one below the last comes before it
  pub place-last : (x : A) (l : List A) → All (λ y. key y ≤ key x) l → place key x l ≡ l ++ x ∷ []
  unfolding place
  place-last x [] a = refl
  place-last x (y ∷ ys) a = rw (le-leb (key y) (key x) a.0) (ap (λ m. y ∷ m) (place-last x ys a.1))

  pub place-before : (x z : A) (l : List A) → key x < key z → place key x (l ++ z ∷ []) ≡ place key x l ++ z ∷ []
  unfolding place
  place-before x z [] h = rw (lt-leb (key z) (key x) h)
  place-before x z (y ∷ ys) h = test (leb (key y) (key x)) (λ e. rw e (ap (λ m. y ∷ m) (place-before x z ys h))) (λ e. rw e)

  -- ---- placing several

  pub place_all-nil : (l : List A) → place_all key [] l ≡ l
  unfolding place_all
  place_all-nil l = refl

  pub place_all-append : (new more l : List A) → place_all key (new ++ more) l ≡ place_all key more (place_all key new l)
  unfolding place_all
  place_all-append [] more l = refl
  place_all-append (x ∷ new) more l = place_all-append new more (place key x l)

  pub place_all-snoc : (new : List A) (x : A) (l : List A) → place_all key (new ++ x ∷ []) l ≡ place key x (place_all key new l)
  unfolding place_all
  place_all-snoc [] x l = refl
  place_all-snoc (y ∷ new) x l = place_all-snoc new x (place key y l)

  pub all-place_all : (P : A → Type 0) (new l : List A) → All P new → All P l → All P (place_all key new l)
  unfolding place_all
  all-place_all P [] l h a = a
  all-place_all P (x ∷ new) l h a = all-place_all P new (place key x l) h.1 (all-place P x l h.0 a)

  pub sorted-place_all : (new l : List A) → Sorted key l → Sorted key (place_all key new l)
  unfolding place_all
  sorted-place_all [] l h = h
  sorted-place_all (x ∷ new) l h = sorted-place_all new (place key x l) (sorted-place x l h)

  pub under-place_all : (k : ℕ) (new l : List A) → Sorted key l → under key k (place_all key new l) ≡ under key k l ++ under key k new
  unfolding place_all keep
  under-place_all k [] l h = sym (append-nil (under key k l))
  under-place_all k (x ∷ new) l h =
      under-place_all k new (place key x l) (sorted-place x l h)
      ∙ rw (under-place k x l h, append_assoc) (ap (λ m. under key k l ++ m) (sym (keep_append (λ y. eqb (key y) k) (x ∷ []) new)))

  pub length-place_all : (new l : List A) → length (place_all key new l) ≡ length l + length new
  unfolding place_all
  length-place_all [] l = omega arith
  length-place_all (x ∷ new) l = length-place_all new (place key x l) ∙ rw (length-place x l) (omega arith)

  pub place_all-before : (new : List A) (z : A) (l : List A) → All (λ y. key y < key z) new → place_all key new (l ++ z ∷ []) ≡ place_all key new l ++ z ∷ []
  unfolding place_all
  place_all-before [] z l a = refl
  place_all-before (x ∷ new) z l a = rw (place-before x z l a.0) (place_all-before new z (place key x l) a.1)

  -- new elements may be put in order first
  pub place_all-sorted : (new m l : List A) → Sorted key m → Sorted key l → place_all key (place_all key new m) l ≡ place_all key new (place_all key m l)
  place_all-sorted new m l h k =
      sorted_ext (place_all key (place_all key new m) l) (place_all key new (place_all key m l))
      (sorted-place_all (place_all key new m) l k) (sorted-place_all new (place_all key m l) (sorted-place_all m l k))
      (λ j. under-place_all j (place_all key new m) l k
      ∙ rw (under-place_all j new m h, under-place_all j new (place_all key m l) (sorted-place_all m l k), under-place_all j m l k) (sym (append_assoc (under key j l) (under key j m) (under key j new))))

  -- ---- the part under a key

  pub lower-le-upper : (k : ℕ) (l : List A) → lower key k l ≤ upper key k l
  unfolding lower upper
  lower-le-upper k [] = omega arith
  lower-le-upper k (x ∷ xs) =
      let ih = lower-le-upper k xs in
      test (ltb (key x) k)
      (λ e. rw (e, le-leb (key x) k (omega (arith, ltb-true (key x) k e))) (omega arith))
      (λ e. rw e (omega arith))

  pub upper-le : (k : ℕ) (l : List A) → upper key k l ≤ length l
  unfolding upper
  upper-le k [] = omega arith
  upper-le k (x ∷ xs) = let ih = upper-le k xs in test (leb (key x) k) (λ e. rw e (omega arith)) (λ e. rw e (omega arith))

  lower-zero : (k : ℕ) (l : List A) → All (λ y. k ≤ key y) l → lower key k l ≡ 0
  unfolding lower
  lower-zero k [] h = refl
  lower-zero k (x ∷ xs) h = rw (le-ltb (key x) k h.0)

  -- what stands under a key is one part, from `lower` to `upper`
  pub under-part : (k : ℕ) (l : List A) → Sorted key l → under key k l ≡ take (upper key k l - lower key k l) (drop (lower key k l) l)
  unfolding keep lower upper
  under-part k [] h = refl
  under-part k (x ∷ xs) h =
      let ih = under-part k xs h.1 in
      test (ltb (key x) k)
      (λ e. let lt = ltb-true (key x) k e in
      rw (e, le-leb (key x) k (omega arith), ne_eqb (key x) k (λ d. omega arith), suc-sub-suc) ih)
      (λ e. let ge = ltb-false (key x) k e in
      rw e (test (leb (key x) k)
      (λ d. let le = leb-true (key x) k d in
      let same : key x ≡ k = omega arith in
      rw (d, eq-eqb (key x) k same, sub-zero) (ap (λ m. x ∷ m) (ih ∙ rest same)))
      (λ d. let gt = leb-false (key x) k d in
      rw d (under-above k (x ∷ xs) (above-sorted k x xs gt h.0)))))
    where
      rest : key x ≡ k → take (upper key k xs - lower key k xs) (drop (lower key k xs) xs) ≡ take (upper key k xs) xs
      rest e = rw (lower-zero k xs (rw e at h.0), sub-zero)

-- ---- images: a list of entries and the list of what is read from them

module _ {A B : Type 0} (key : B → ℕ) (f : A → B) where
  pub under-map : (k : ℕ) (l : List A) → under key k (map f l) ≡ map f (under (λ x. key (f x)) k l)
  under-map k l = keep-map f (λ y. eqb (key y) k) l

  pub sorted-map : (l : List A) → Sorted (λ x. key (f x)) l → Sorted key (map f l)
  sorted-map l h = ordered-map (λ x y. key x ≤ key y) f l h

  pub sorted-unmap : (l : List A) → Sorted key (map f l) → Sorted (λ x. key (f x)) l
  sorted-unmap l h = ordered-unmap (λ x y. key x ≤ key y) f l h

  pub place_map : (x : A) (l : List A) → place key (f x) (map f l) ≡ map f (place (λ y. key (f y)) x l)
  unfolding place
  place_map x [] = refl
  place_map x (y ∷ ys) = test (leb (key (f y)) (key (f x))) (λ e. rw (e, place_map x ys)) (λ e. rw e)

  pub place_all-map : (new l : List A) → place_all key (map f new) (map f l) ≡ map f (place_all (λ y. key (f y)) new l)
  unfolding place_all
  place_all-map [] l = refl
  place_all-map (x ∷ new) l = ap (place_all key (map f new)) (place_map x l) ∙ place_all-map new (place (λ y. key (f y)) x l)
