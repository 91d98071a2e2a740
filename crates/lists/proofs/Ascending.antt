-- Laws of strictly ascending lists of keys: such a list is known by its members. Assumes nothing.
use mathlib.Core.Path.{◌≡◌, refl, sym, ap, ◌∙◌}
use mathlib.Core.Bool.{true, false, ◌||◌}
use mathlib.Core.List.{List, [], ◌∷◌}
use Prim.Native.Nat.{ℕ, suc, ◌≤◌, ◌<◌}
use native.Mathlib.Omega.{arith}
use lib.ListN.{length, get_or}
use lib.Dec.{eqb, ltb}
use borrow.Author.Tests.{ltb-true, ltb-false, eqb-true, eqb-false, eq-eqb, ne_eqb}
use Rattle.lists.specs.Lists.{some?, member, insert_key, All}
use Rattle.lists.specs.Keys.{Sorted, Ascending}
use Rattle.lists.proofs.Ordered.{ordered_at, ordered-make, ordered-imp}
use Rattle.lists.proofs.Tests.{test, not-both}
use Rattle.lists.proofs.Keep.{all-imp}

-- ---- by index

module _ {A : Type 0} (key : A → ℕ) where
  pub ascending-sorted : (l : List A) → Ascending key l → Sorted key l
  ascending-sorted l h = ordered-imp (λ x y. key x < key y) (λ x y. key x ≤ key y) (λ x y lt. omega arith) l h

  pub ascending-at : (l : List A) (d : A) → Ascending key l → (i j : ℕ) → i < j → j < length l → key (get_or l i d) < key (get_or l j d)
  ascending-at l d h i j lt le = ordered_at (λ x y. key x < key y) l d h i j lt le

  pub ascending-make : (l : List A) (d : A) → ((i : ℕ) → suc i < length l → key (get_or l i d) < key (get_or l (suc i) d)) → Ascending key l
  ascending-make l d h = ordered-make (λ x y. key x < key y) (λ x y z a b. omega arith) l d h

-- ---- members

pub member-here : (x : ℕ) (xs : List ℕ) → member x (x ∷ xs) ≡ true
unfolding some?
member-here x xs = rw (eq-eqb x x refl)

pub member-cons : (k x : ℕ) (xs : List ℕ) → member k (x ∷ xs) ≡ eqb x k || member k xs
unfolding some?
member-cons k x xs = refl

not-above : (k : ℕ) (l : List ℕ) → All (λ y. k < y) l → member k l ≡ false
unfolding some?
not-above k [] h = refl
not-above k (y ∷ ys) h = let lt = h.0 in rw (ne_eqb y k (λ e. omega arith), not-above k ys h.1)

not-below : (k y : ℕ) (ys : List ℕ) → k < y → All (λ p. y < p) ys → member k (y ∷ ys) ≡ false
not-below k y ys lt h = not-above k (y ∷ ys) (lt, all-imp (λ p. y < p) (λ p. k < p) (λ p g. omega arith) ys h)

pub ascending-ext : (l m : List ℕ) → Ascending (λ k. k) l → Ascending (λ k. k) m → ((k : ℕ) → member k l ≡ member k m) → l ≡ m
ascending-ext [] [] a b h = refl
ascending-ext [] (y ∷ ys) a b h = absurd (not-both (h y ∙ member-here y ys) (not-above y [] tt))
ascending-ext (x ∷ xs) [] a b h = absurd (not-both (sym (h x) ∙ member-here x xs) (not-above x [] tt))
ascending-ext (x ∷ xs) (y ∷ ys) a b h =
    let step = ascending-ext xs ys a.1 b.1 in
    test (ltb x y)
    (λ e. absurd (not-both (sym (h x) ∙ member-here x xs) (not-below x y ys (ltb-true x y e) b.0)))
    (λ e. test (ltb y x)
    (λ d. absurd (not-both (h y ∙ member-here y ys) (not-below y x xs (ltb-true y x d) a.0)))
    (λ d. let same : x ≡ y = omega (arith, ltb-false x y e, ltb-false y x d) in
    ap (λ p. p ∷ xs) same ∙ ap (λ l. y ∷ l) (step (λ k. tails k same))))
  where
    tails : (k : ℕ) → x ≡ y → member k xs ≡ member k ys
    tails k same = test (eqb x k)
        (λ e. let k-is = eqb-true x k e in not-above k xs (rw k-is at a.0) ∙ sym (not-above k ys (rw (← same, k-is) at b.0)))
        (λ e. let g : eqb x k || member k xs ≡ eqb y k || member k ys = sym (member-cons k x xs) ∙ h k ∙ member-cons k y ys in rw (← same, e) at g)

-- ---- a key put in

pub member-insert_key : (k j : ℕ) (l : List ℕ) → member j (insert_key k l) ≡ eqb k j || member j l
unfolding insert_key some?
member-insert_key k j [] = refl
member-insert_key k j (x ∷ xs) =
    let ih = member-insert_key k j xs in
    test (eqb x k)
    (λ e. let h : x ≡ k = eqb-true x k e in rw (e, h) (test (eqb k j) (λ d. rw d) (λ d. rw d)))
    (λ e. test (ltb k x)
    (λ d. rw (e, d))
    (λ d. rw (e, d, ih) (test (eqb x j) (λ g. rw g (test (eqb k j) (λ i. rw i) (λ i. rw i))) (λ g. rw g))))

all-insert_key : (P : ℕ → Type 0) (k : ℕ) (l : List ℕ) → P k → All P l → All P (insert_key k l)
unfolding insert_key
all-insert_key P k [] h g = (h, tt)
all-insert_key P k (x ∷ xs) h g =
    test (eqb x k)
    (λ e. rw e g)
    (λ e. test (ltb k x) (λ d. rw (e, d) (h, g)) (λ d. rw (e, d) (g.0, all-insert_key P k xs h g.1)))

pub ascending-insert_key : (k : ℕ) (l : List ℕ) → Ascending (λ k. k) l → Ascending (λ k. k) (insert_key k l)
unfolding insert_key
ascending-insert_key k [] h = (tt, tt)
ascending-insert_key k (x ∷ xs) h =
    test (eqb x k)
    (λ e. rw e h)
    (λ e. test (ltb k x)
    (λ d. let lt = ltb-true k x d in rw (e, d) ((lt, all-imp (λ y. x < y) (λ y. k < y) (λ y g. omega arith) xs h.0), h))
    (λ d. rw (e, d) (all-insert_key (λ y. x < y) k xs (further (eqb-false x k e) (ltb-false k x d)) h.0, ascending-insert_key k xs h.1)))
  where
    further : (x ≡ k → ⊥) → x ≤ k → x < k
    further a b = omega arith
