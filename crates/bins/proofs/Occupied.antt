-- The occupied codes of votes: strictly ascending, those that a vote has, with counts that add up to the votes; and their bins.
-- Assumes nothing.
use mathlib.Core.Path.{◌≡◌, refl, sym, ap, ◌∙◌}
use mathlib.Core.Bool.{Bool, true, false, ◌||◌}
use mathlib.Core.List.{List, [], ◌∷◌, ◌++◌, map, map-append}
use Prim.Native.Nat.{ℕ, zero, suc, ◌+◌, ◌*◌, ◌≤◌, ◌<◌}
use native.Mathlib.Nat.{mul-suc}
use native.Mathlib.Omega.{arith}
use lib.IntN.{ℤ, pos}
use lib.ListN.{length, get_or, get_or-append}
use lib.Seq.{get_or-append-add}
use lib.Dec.{eqb, ltb}
use borrow.Author.Tests.{eq-eqb, ne_eqb, lt-ltb, ltb-true, ltb-false}
use Rattle.lists.specs.Lists.{flat, some?, member, insert_key, All}
use Rattle.lists.specs.Keys.{Ascending}
use Rattle.lists.proofs.Tests.{test}
use Rattle.lists.proofs.Keep.{all-imp, all_of, all-at, all-make, all_map, all-of-key, key-of-all, some-none, flat_append, flat-one, length-flat, map_same}
use Rattle.lists.proofs.Ascending.{ascending-at, member-insert_key, ascending-insert_key}
use Rattle.maps.specs.Sums.{sum_to, when}
use Rattle.maps.specs.Lists.{count_if}
use Rattle.maps.proofs.Sums.{sum-add, sum-cong, sum-none}
use Rattle.maps.proofs.Lists.{count-append}
use Rattle.bins.specs.Codes.{width, occupied, how_often, bin_words, bins_of}
use Rattle.bins.specs.declared.Form.{Form}
use Rattle.bins.proofs.Sparse.{Off, sparse-sum, one_of, when-none}

-- ---- counting

module _ {A : Type 0} (p : A → Bool) where
  count_none : (xs : List A) → All (λ x. p x ≡ false) xs → count_if p xs ≡ 0
  unfolding count_if
  count_none [] h = refl
  count_none (x ∷ xs) h = let ih = count_none xs h.1 in rw h.0 (omega arith)

  count-all : (xs : List A) → All (λ x. p x ≡ true) xs → count_if p xs ≡ length xs
  unfolding count_if
  count-all [] h = refl
  count-all (x ∷ xs) h = let ih = count-all xs h.1 in rw h.0 (omega arith)

pub length-counts : {A : Type 0} (xs : List A) → count_if (λ x. true) xs ≡ length xs
length-counts xs = count-all (λ x. true) xs (all_of (λ x. true ≡ true) (λ x. refl) xs)

-- ---- the codes

pub occupied-ascend : (ks : List ℕ) → Ascending (λ k. k) (occupied ks)
unfolding occupied
occupied-ascend [] = tt
occupied-ascend (k ∷ ks) = ascending-insert_key k (occupied ks) (occupied-ascend ks)

pub occupied-member : (k : ℕ) (ks : List ℕ) → member k (occupied ks) ≡ ltb 0 (how_often ks k)
unfolding occupied count_if some?
occupied-member k [] = refl
occupied-member k (x ∷ ks) =
    let ih = occupied-member k ks in
    member-insert_key x k (occupied ks)
    ∙ test (eqb x k)
    (λ e. rw e (sym (lt-ltb 0 (1 + how_often ks k) (omega arith))))
    (λ e. let z : 0 + how_often ks k ≡ how_often ks k = omega arith in rw (e, z) ih)

occupied-has : (k : ℕ) (ks : List ℕ) → member k (occupied ks) ≡ member k ks
unfolding occupied some?
occupied-has k [] = refl
occupied-has k (x ∷ ks) = member-insert_key x k (occupied ks) ∙ ap (λ (b : Bool). eqb x k || b) (occupied-has k ks)

pub occupied-voted : (ks : List ℕ) → All (λ k. 0 < how_often ks k) (occupied ks)
occupied-voted ks = all-of-key (λ k. k) (λ k. 0 < how_often ks k) (occupied ks) (λ k m. ltb-true 0 (how_often ks k) (sym (occupied-member k ks) ∙ m))

pub occupied-all : (P : ℕ → Type 0) (ks : List ℕ) → All P ks → All P (occupied ks)
occupied-all P ks h = all-of-key (λ k. k) P (occupied ks) (λ k m. key-of-all (λ k. k) P ks h k (sym (occupied-has k ks) ∙ m))

length-insert : (k : ℕ) (l : List ℕ) → (0 < length (insert_key k l)) × (length (insert_key k l) ≤ suc (length l)) × (length l ≤ length (insert_key k l))
unfolding insert_key
length-insert k [] = (omega arith, omega arith, omega arith)
length-insert k (x ∷ xs) =
    let ih = length-insert k xs in
    test (eqb x k) (λ e. rw e (omega arith, omega arith, omega arith))
    (λ e. test (ltb k x) (λ d. rw (e, d) (omega arith, omega arith, omega arith)) (λ d. rw (e, d) (omega arith, omega (arith, ih.1), omega (arith, ih.2))))

pub occupied-few : (ks : List ℕ) → length (occupied ks) ≤ length ks
unfolding occupied
occupied-few [] = omega arith
occupied-few (k ∷ ks) = let ih = occupied-few ks in omega (arith, (length-insert k (occupied ks)).1)

-- more votes have no fewer codes
pub occupied-more : (js ks : List ℕ) → length (occupied ks) ≤ length (occupied (js ++ ks))
unfolding occupied
occupied-more [] ks = omega arith
occupied-more (j ∷ js) ks = let ih = occupied-more js ks in omega (arith, (length-insert j (occupied (js ++ ks))).2)

pub occupied-some : (ks : List ℕ) → 0 < length ks → 0 < length (occupied ks)
unfolding occupied
occupied-some [] h = h
occupied-some (k ∷ ks) h = (length-insert k (occupied ks)).0

-- ---- counts add up

when-add : (b : Bool) (m n : ℕ) → when b (m + n) ≡ when b m + when b n
when-add true m n = refl
when-add false m n = refl

-- over all numbers below w
spread : (p : ℕ → Bool) (w : ℕ) (ks : List ℕ) → All (λ k. k < w) ks → sum_to (λ x. when (p x) (how_often ks x)) w ≡ count_if p ks
unfolding count_if
spread p w [] h = sum-none (λ x. when (p x) 0) w (λ x l. when-none (p x))
spread p w (k ∷ ks) h =
    let ih = spread p w ks h.1 in
    let here : ℕ → ℕ = λ x. when (p x) (when (eqb k x) 1) in
    let a = sum-cong (λ x. when (p x) (how_often (k ∷ ks) x)) (λ x. here x + when (p x) (how_often ks x)) w (λ x l. when-add (p x) (when (eqb k x) 1) (how_often ks x)) in
    let b = one_of here w k h.0 (λ x l ne. ap (λ (t : Bool). when (p x) (when t 1)) (ne_eqb k x (λ e. ne (sym e))) ∙ when-none (p x)) in
    let c : here k ≡ when (p k) 1 = ap (λ (t : Bool). when (p k) (when t 1)) (eq-eqb k k refl) in
    omega (arith, a, b, c, ih, sum-add here (λ x. when (p x) (how_often ks x)) w)

module _ (ks : List ℕ) where
  -- code j, and how many there are
  abbrev pub key : ℕ → ℕ
  key j = get_or (occupied ks) j 0

  abbrev keys : ℕ
  keys = length (occupied ks)

  pub keys-up : (i j : ℕ) → i < j → j < keys → key i < key j
  keys-up i j h k = ascending-at (λ k. k) (occupied ks) 0 (occupied-ascend ks) i j h k

  off : (x : ℕ) → Off key keys x → how_often ks x ≡ 0
  off x o =
      let m = some-none (λ k. eqb k x) (occupied ks) (all-make (λ k. eqb k x ≡ false) (occupied ks) 0 (λ j l. ne_eqb (key j) x (o j l))) in
      omega (arith, ltb-false 0 (how_often ks x) (sym (occupied-member x ks) ∙ m))

  -- whatever is asked of a code, as many votes pass
  pub keys-held : (w : ℕ) → All (λ k. k < w) ks → (p : ℕ → Bool) → sum_to (λ j. when (p (key j)) (how_often ks (key j))) keys ≡ count_if p ks
  keys-held w h p =
      sym (sparse-sum key w keys (record { asc = keys-up; top = all-at (λ k. k < w) (occupied ks) 0 (occupied-all (λ k. k < w) ks h) }) (λ x. when (p x) (how_often ks x))
      (λ x l o. ap (when (p x)) (off x o) ∙ when-none (p x)))
      ∙ spread p w ks h

-- ---- the words of the bins

pub words-length : (f : Form) (middle k c : ℕ) → length (bin_words f middle k c) ≡ width f
words-length f middle k c = test f.scaled (λ e. rw e refl) (λ e. rw e refl)

pub bins-length : (f : Form) (middle : ℕ) (ks : List ℕ) → length (bins_of f middle ks) ≡ width f * length (occupied ks)
unfolding bins_of
bins-length f middle ks =
    let b : ℕ → List ℤ = λ k. bin_words f middle k (how_often ks k) in
    length-flat (width f) (map b (occupied ks)) (all_map b (λ e. length e ≡ width f) (occupied ks) (all_of (λ k. length (b k) ≡ width f) (λ k. words-length f middle k (how_often ks k)) (occupied ks)))
    ∙ ap (λ (n : ℕ). width f * n) (lib.ListN.length-map (occupied ks) b)

-- word t of a bin; every bin has w words
flat-at : (w : ℕ) (b : ℕ → List ℤ) → ((k : ℕ) → length (b k) ≡ w) → (ks : List ℕ) (i t : ℕ) → i < length ks → t < w → get_or (flat (map b ks)) (w * i + t) (pos 0) ≡ get_or (b (get_or ks i 0)) t (pos 0)
unfolding flat
flat-at w b wide [] i t h l = absurd (omega arith)
flat-at w b wide (k ∷ ks) zero t h l = let e : w * 0 + t ≡ t = omega arith in rw e (get_or-append (b k) (flat (map b ks)) (pos 0) t (omega (arith, wide k)))
flat-at w b wide (k ∷ ks) (suc i) t h l =
    let ih = flat-at w b wide ks i t (omega arith) l in
    let e : w * suc i + t ≡ length (b k) + (w * i + t) = omega (arith, wide k, mul-suc w i) in
    rw e (get_or-append-add (b k) (flat (map b ks)) (w * i + t) (pos 0) ∙ ih)

pub bins-at : (f : Form) (middle : ℕ) (ks : List ℕ) (i t : ℕ) → i < length (occupied ks) → t < width f
    → get_or (bins_of f middle ks) (width f * i + t) (pos 0) ≡ get_or (bin_words f middle (get_or (occupied ks) i 0) (how_often ks (get_or (occupied ks) i 0))) t (pos 0)
unfolding bins_of
bins-at f middle ks i t h l = flat-at (width f) (λ k. bin_words f middle k (how_often ks k)) (λ k. words-length f middle k (how_often ks k)) (occupied ks) i t h l

-- ---- votes us of one code x behind votes ks of lower codes

insert-before : (k x : ℕ) (l : List ℕ) → k < x → insert_key k (l ++ x ∷ []) ≡ insert_key k l ++ x ∷ []
unfolding insert_key
insert-before k x [] h = rw (ne_eqb x k (λ e. omega arith), lt-ltb k x h) refl
insert-before k x (y ∷ ys) h =
    let ih = insert-before k x ys h in
    test (eqb y k) (λ e. rw e refl) (λ e. test (ltb k y) (λ d. rw (e, d) refl) (λ d. rw (e, d) (ap (λ (m : List ℕ). y ∷ m) ih)))

occupied-one : (x : ℕ) (us : List ℕ) → All (λ k. k ≡ x) us → 0 < length us → occupied us ≡ x ∷ []
unfolding occupied insert_key
occupied-one x [] h s = absurd (omega arith)
occupied-one x (u ∷ []) h s = ap (λ (k : ℕ). k ∷ []) h.0
occupied-one x (u ∷ w ∷ us) h s = rw (occupied-one x (w ∷ us) h.1 (omega arith), eq-eqb x u (sym h.0)) refl

module _ (x : ℕ) (us : List ℕ) (one : All (λ k. k ≡ x) us) (some : 0 < length us) where
  pub occupied-run : (ks : List ℕ) → All (λ k. k < x) ks → occupied (ks ++ us) ≡ occupied ks ++ x ∷ []
  unfolding occupied
  occupied-run [] h = occupied-one x us one some
  occupied-run (k ∷ ks) h = ap (insert_key k) (occupied-run ks h.1) ∙ insert-before k x (occupied ks) h.0

  module _ (ks : List ℕ) (below : All (λ k. k < x) ks) where
    old : (k : ℕ) → k < x → how_often (ks ++ us) k ≡ how_often ks k
    old k h =
        let p : ℕ → Bool = λ y. eqb y k in
        omega (arith, count-append p ks us, count_none p us (all-imp (λ y. y ≡ x) (λ y. p y ≡ false) (λ y c. ne_eqb y k (λ d. omega arith)) us one))

    new : how_often (ks ++ us) x ≡ length us
    new =
        let p : ℕ → Bool = λ y. eqb y x in
        let a = count_none p ks (all-imp (λ y. y < x) (λ y. p y ≡ false) (λ y c. ne_eqb y x (λ d. omega arith)) ks below) in
        let b = count-all p us (all-imp (λ y. y ≡ x) (λ y. p y ≡ true) (λ y c. eq-eqb y x c) us one) in
        omega (arith, count-append p ks us, a, b)

    pub bins-run : (f : Form) (middle : ℕ) → bins_of f middle (ks ++ us) ≡ bins_of f middle ks ++ bin_words f middle x (length us)
    unfolding bins_of
    bins-run f middle =
        let b : ℕ → List ℤ = λ k. bin_words f middle k (how_often (ks ++ us) k) in
        let b₀ : ℕ → List ℤ = λ k. bin_words f middle k (how_often ks k) in
        ap (λ (l : List ℕ). flat (map b l)) (occupied-run ks below)
        ∙ ap flat (map-append b (occupied ks) (x ∷ []))
        ∙ flat_append (map b (occupied ks)) (b x ∷ [])
        ∙ ap (λ (l : List ℤ). flat (map b (occupied ks)) ++ l) (flat-one (b x) ∙ ap (bin_words f middle x) new)
        ∙ ap (λ (l : List (List ℤ)). flat l ++ bin_words f middle x (length us))
        (map_same b b₀ (occupied ks) (all-imp (λ k. k < x) (λ k. b k ≡ b₀ k) (λ k h. ap (bin_words f middle k) (old k h)) (occupied ks) (occupied-all (λ k. k < x) ks below)))
