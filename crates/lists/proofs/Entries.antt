-- Laws of words read as entries. Assumes nothing.
use mathlib.Core.Path.{◌≡◌, refl, sym, ap, ◌∙◌, subst}
use mathlib.Core.Logic.{⊎_elim}
use mathlib.Core.Bool.{Bool, true, false, cond}
use mathlib.Core.List.{List, [], ◌∷◌, ◌++◌, map, append_assoc, append-nil}
use Prim.Native.Nat.{ℕ, zero, suc, ◌+◌, ◌*◌, ◌-◌, ◌≤◌, ◌<◌, min}
use native.Mathlib.Nat.{mul-zero, mul-suc, mul-add, add_comm, add-zero, zero-add, suc-add, le_refl, le_trans, eq-or-lt_of_le, mul-le-mul_left}
use native.Mathlib.Numerals.{add-one}
use native.Mathlib.Omega.{arith}
use lib.ListN.{length, get_or, take, drop, replicate, length-drop, length-append, length-replicate, take-append-drop, get_or-eq_default, replicate-append-replicate}
use lib.Seq.{take_all, take_at, drop_at, take-add, take-take, take-nil, drop-drop, get_or-take, get_or-drop, get_or-append-add, length-take-le, ext_get_or}
use lib.Dec.{leb}
use borrow.Author.Tests.{eqb-true, eq-eqb, leb-true, le-leb}
use Rattle.lists.specs.Lists.{keep, All, flat}
use Rattle.lists.specs.Every.{every}
use Rattle.lists.specs.Keys.{Sorted}
use Rattle.lists.specs.Entries.{entries, entry_at, key_of, key_at, keys_ascend, Wide, zero_word, zero_from, padded}
use Rattle.lists.proofs.Tests.{le-or-lt}
use Rattle.lists.proofs.Every.{every-at, every-make}
use Rattle.lists.proofs.Keep.{keep_append, keep_one, flat_append, flat-one, all-make, all-at}
use Rattle.lists.proofs.Place.{sorted-make, sorted-at}

-- what is left of a list behind its first k words
pub rest_all : (s : List ℕ) (k : ℕ) → take (length s - k) (drop k s) ≡ drop k s
rest_all s k = take_all (length s - k) (drop k s) (simp length-drop (omega arith))

-- ---- strides

-- one entry more
pub stride-more : (w i : ℕ) → w * (i + 1) ≡ w * i + w
stride-more w i = rw (add-one, mul-suc)

-- an entry below n lies within the first w * n words
pub stride : (w i n L : ℕ) → i < n → w * n ≤ L → w * i + w ≤ L
stride w i n L h k = rw (mul-suc) at (le_trans (mul-le-mul_left w h) k)

pub drop-take : {A : Type 0} (n k : ℕ) (l : List A) → drop n (take (n + k) l) ≡ take k (drop n l)
drop-take zero k l = rw zero-add
drop-take (suc n) k [] = rw (suc-add n k) (sym (take-nil k))
drop-take (suc n) k (x ∷ l) = rw (suc-add n k) (drop-take n k l)

-- ---- entries

pub entries_none : (w : ℕ) (s : List ℕ) → entries w 0 s ≡ []
unfolding entries
entries_none w s = refl

pub entries-first : (w n : ℕ) (s : List ℕ) → entries w (suc n) s ≡ take w s ∷ entries w n (drop w s)
unfolding entries
entries-first w n s = refl

pub entries-suc : (w n : ℕ) (s : List ℕ) → entries w (suc n) s ≡ entries w n s ++ entry_at w n s ∷ []
unfolding entries
entries-suc w zero s = rw mul-zero
entries-suc w (suc n) s =
    ap (λ (l : List (List ℕ)). take w s ∷ l) (entries-suc w n (drop w s) ∙ rw (drop-drop (w * n) w s, mul-suc w n, add_comm w (w * n)))

pub length-entries : (w n : ℕ) (s : List ℕ) → length (entries w n s) ≡ n
unfolding entries
length-entries w zero s = refl
length-entries w (suc n) s = ap suc (length-entries w n (drop w s))

pub entries-fewer : (w v n : ℕ) (s : List ℕ) → v ≤ n → entries w v s ≡ take v (entries w n s)
unfolding entries
entries-fewer w zero n s h = refl
entries-fewer w (suc v) zero s h = absurd (omega arith)
entries-fewer w (suc v) (suc n) s h = ap (λ (l : List (List ℕ)). take w s ∷ l) (entries-fewer w v n (drop w s) (omega arith))

pub entries-append : (w a b : ℕ) (s : List ℕ) → entries w (a + b) s ≡ entries w a s ++ entries w b (drop (w * a) s)
unfolding entries
entries-append w zero b s = rw (zero-add b, mul-zero w)
entries-append w (suc a) b s =
    let e : suc a + b ≡ suc (a + b) = omega arith in
    rw (e, entries-append w a b (drop w s)) (rw (drop-drop (w * a) w s, mul-suc w a, add_comm w (w * a)))

pub entries-take : (w n : ℕ) (s : List ℕ) → entries w n (take (w * n) s) ≡ entries w n s
unfolding entries
entries-take w zero s = refl
entries-take w (suc n) s =
    let e : w * suc n ≡ w + w * n = mul-suc w n ∙ add_comm (w * n) w in
    rw (e, take-take w (w + w * n) s (omega arith), drop-take w (w * n) s, entries-take w n (drop w s))

-- entry i, and its words
pub entries_at : (w n : ℕ) (s : List ℕ) (i : ℕ) → i < n → get_or (entries w n s) i [] ≡ entry_at w i s
unfolding entries
entries_at w zero s i h = absurd (omega arith)
entries_at w (suc n) s zero h = rw mul-zero
entries_at w (suc n) s (suc i) h = entries_at w n (drop w s) i (omega arith) ∙ rw (drop-drop (w * i) w s, mul-suc w i, add_comm w (w * i))

pub entry-word : (w i : ℕ) (s : List ℕ) (f : ℕ) → f < w → get_or (entry_at w i s) f 0 ≡ get_or s (w * i + f) 0
entry-word w i s f h = rw (get_or-take, get_or-drop)

pub entry_key : (w i : ℕ) (s : List ℕ) → 1 ≤ w → get_or (entry_at w i s) 0 0 ≡ get_or s (w * i) 0
entry_key w i s h = entry-word w i s 0 h ∙ rw add-zero

pub wide-entries : (w n : ℕ) (s : List ℕ) → w * n ≤ length s → Wide w (entries w n s)
unfolding entries
wide-entries w zero s h = tt
wide-entries w (suc n) s h =
    let h' : w * n + w ≤ length s = rw mul-suc at h in
    (length-take-le w s (omega arith), wide-entries w n (drop w s) (rw length-drop (omega arith)))

-- ---- words and back

pub entries-flat : (w : ℕ) (es : List (List ℕ)) (rest : List ℕ) → Wide w es → entries w (length es) (flat es ++ rest) ≡ es
unfolding entries flat
entries-flat w [] rest h = refl
entries-flat w (e ∷ es) rest h =
    rw (append_assoc e (flat es) rest, take_at e (flat es ++ rest) w h.0, drop_at e (flat es ++ rest) w h.0)
    (ap (λ (l : List (List ℕ)). e ∷ l) (entries-flat w es rest h.1))

pub flat-entries : (w n : ℕ) (s : List ℕ) → flat (entries w n s) ≡ take (w * n) s
unfolding entries flat
flat-entries w zero s = rw mul-zero
flat-entries w (suc n) s =
    ap flat (entries-suc w n s) ∙ flat_append (entries w n s) (entry_at w n s ∷ []) ∙ rw (flat-one, flat-entries w n s, mul-suc w n, take-add (w * n) w s)

-- ---- each entry, by index and by list

module _ {A : Type 0} (f : List ℕ → A) (w n : ℕ) (s : List ℕ) where
  pub length-read : length (map f (entries w n s)) ≡ n
  length-read = lib.ListN.length-map (entries w n s) f ∙ length-entries w n s

  pub read_at : (d : A) (i : ℕ) → i < n → get_or (map f (entries w n s)) i d ≡ f (entry_at w i s)
  read_at d i h = at (entries w n s) i (omega (arith, length-entries w n s)) ∙ ap f (entries_at w n s i h)
    where
      at : (l : List (List ℕ)) (i : ℕ) → i < length l → get_or (map f l) i d ≡ f (get_or l i [])
      at [] i h = absurd (omega arith)
      at (x ∷ xs) zero h = refl
      at (x ∷ xs) (suc i) h = at xs i (omega arith)

module _ (P : List ℕ → Type 0) (w n : ℕ) (s : List ℕ) where
  pub all-entries : ((i : ℕ) → i < n → P (entry_at w i s)) → All P (entries w n s)
  all-entries h = all-make P (entries w n s) [] (λ i lt. let l : i < n = omega (arith, length-entries w n s) in subst P (sym (entries_at w n s i l)) (h i l))

  pub entries-all : All P (entries w n s) → (i : ℕ) → i < n → P (entry_at w i s)
  entries-all h i lt = subst P (entries_at w n s i lt) (all-at P (entries w n s) [] h i (omega (arith, length-entries w n s)))

module _ (t : List ℕ → Bool) (w n : ℕ) (s : List ℕ) where
  pub every-entries : every n (λ (i : ℕ). t (entry_at w i s)) ≡ true → All (λ e. t e ≡ true) (entries w n s)
  every-entries h = all-entries (λ e. t e ≡ true) w n s (λ i lt. every-at (λ (i : ℕ). t (entry_at w i s)) n i h lt)

  pub entries-every : All (λ e. t e ≡ true) (entries w n s) → every n (λ (i : ℕ). t (entry_at w i s)) ≡ true
  entries-every h = every-make (λ (i : ℕ). t (entry_at w i s)) n (entries-all (λ e. t e ≡ true) w n s h)

-- ---- order, by the words and by the entries

-- of any two of the first n entries the earlier has no greater key
pub keys-le : (w n : ℕ) (s : List ℕ) → keys_ascend s w n ≡ true → (i j : ℕ) → i ≤ j → j < n → key_at s w i ≤ key_at s w j
unfolding keys_ascend
keys-le w n s t i zero ij jn = let e : i ≡ 0 = omega arith in rw e (le_refl (key_at s w 0))
keys-le w n s t i (suc j) ij jn =
    let next = leb-true (key_at s w j) (key_at s w (j + 1)) (every-at (λ (i : ℕ). leb (key_at s w i) (key_at s w (i + 1))) (n - 1) j t (omega arith)) in
    ⊎_elim (λ (e : i ≡ suc j). rw e (le_refl (key_at s w (suc j))))
    (λ (l : i < suc j). le_trans (keys-le w n s t i j (omega arith) (omega arith)) (rw add-one at next))
    (eq-or-lt_of_le ij)

module _ (w n : ℕ) (s : List ℕ) (w1 : 1 ≤ w) where
  key-at : (i : ℕ) → i < n → key_of (get_or (entries w n s) i []) ≡ key_at s w i
  key-at i h = ap key_of (entries_at w n s i h) ∙ entry_key w i s w1

  pub sorted_entries : keys_ascend s w n ≡ true → Sorted key_of (entries w n s)
  unfolding keys_ascend
  sorted_entries t = sorted-make key_of (entries w n s) [] (λ i lt.
      let l : suc i < n = omega (arith, length-entries w n s) in
      let le = leb-true (key_at s w i) (key_at s w (i + 1)) (every-at (λ (i : ℕ). leb (key_at s w i) (key_at s w (i + 1))) (n - 1) i t (omega arith)) in
      rw (key-at i (omega arith), key-at (suc i) l) (rw add-one at le))

  pub entries_sorted : Sorted key_of (entries w n s) → keys_ascend s w n ≡ true
  unfolding keys_ascend
  entries_sorted h = every-make (λ (i : ℕ). leb (key_at s w i) (key_at s w (i + 1))) (n - 1) (λ i lt.
      let le : key_at s w i ≤ key_at s w (suc i) = (rw (key-at i (omega arith), key-at (suc i) (omega arith)) at (sorted-at key_of (entries w n s) [] h i (suc i) (omega arith) (omega (arith, length-entries w n s)))) in
      le-leb (key_at s w i) (key_at s w (i + 1)) (rw add-one le))

-- ---- what a loop over entries keeps

-- the words of the entries, among the first n, that pass a test
abbrev pub kept : (List ℕ → Bool) → ℕ → ℕ → List ℕ → List ℕ
kept t w n s = flat (keep t (entries w n s))

module _ (t : List ℕ → Bool) (w : ℕ) (s : List ℕ) where
  pub kept-none : kept t w 0 s ≡ []
  unfolding entries keep flat
  kept-none = refl

  pub keep-suc : (n : ℕ) → keep t (entries w (suc n) s) ≡ keep t (entries w n s) ++ cond (t (entry_at w n s)) (entry_at w n s ∷ []) []
  keep-suc n = ap (keep t) (entries-suc w n s) ∙ keep_append t (entries w n s) (entry_at w n s ∷ []) ∙ ap (λ (l : List (List ℕ)). keep t (entries w n s) ++ l) (keep_one t (entry_at w n s))

  pub kept-yes : (n : ℕ) → t (entry_at w n s) ≡ true → kept t w (suc n) s ≡ kept t w n s ++ entry_at w n s
  kept-yes n e = ap flat (keep-suc n ∙ rw e) ∙ flat_append (keep t (entries w n s)) (entry_at w n s ∷ []) ∙ rw flat-one

  pub kept-no : (n : ℕ) → t (entry_at w n s) ≡ false → kept t w (suc n) s ≡ kept t w n s
  kept-no n e = ap flat (keep-suc n ∙ rw (e, append-nil))

  -- where just the entries from a below b pass, what is kept is a part of the words
  pub kept-range : (a b : ℕ) → a ≤ b → ((k : ℕ) → k < a → t (entry_at w k s) ≡ false) → ((k : ℕ) → a ≤ k → k < b → t (entry_at w k s) ≡ true)
      → (n : ℕ) → ((k : ℕ) → b ≤ k → k < n → t (entry_at w k s) ≡ false) → kept t w n s ≡ take (w * (min n b - a)) (drop (w * a) s)
  kept-range a b ab lo mid zero hi =
      let e : min 0 b - a ≡ 0 = omega arith in
      kept-none ∙ rw (e, mul-zero)
  kept-range a b ab lo mid (suc n) hi =
      let ih = kept-range a b ab lo mid n (λ k h h'. hi k h (omega arith)) in
      ⊎_elim
      (λ (bn : b ≤ n).
      let e : min (suc n) b - a ≡ min n b - a = omega arith in
      kept-no n (hi n bn (omega arith)) ∙ ih ∙ rw e)
      (λ (nb : n < b). ⊎_elim
      (λ (an : a ≤ n).
      let e : min (suc n) b - a ≡ suc (min n b - a) = omega arith in
      let g : a + (min n b - a) ≡ n = omega arith in
      kept-yes n (mid n an nb) ∙ rw (ih, e, mul-suc, take-add) (rw (drop-drop, ← mul-add w a (min n b - a), g)))
      (λ (na : n < a).
      let e : min (suc n) b - a ≡ min n b - a = omega arith in
      kept-no n (lo n na) ∙ ih ∙ rw e)
      (le-or-lt a n))
      (le-or-lt b n)

-- ---- zeros

pub zero-at : (s : List ℕ) (a : ℕ) → zero_from s a ≡ true → (i : ℕ) → a ≤ i → get_or s i 0 ≡ 0
unfolding zero_from zero_word
zero-at s a t i h = ⊎_elim
    (λ (le : length s ≤ i). get_or-eq_default s 0 le)
    (λ (lt : i < length s).
    let e : a + (i - a) ≡ i = omega arith in
    eqb-true (get_or s i 0) 0 (rw e at (every-at (zero_word s a) (length s - a) (i - a) t (omega arith))))
    (le-or-lt (length s) i)

pub zero-make : (s : List ℕ) (a : ℕ) → ((i : ℕ) → get_or s (a + i) 0 ≡ 0) → zero_from s a ≡ true
unfolding zero_from zero_word
zero-make s a h = every-make (zero_word s a) (length s - a) (λ i l. eq-eqb (get_or s (a + i) 0) 0 (h i))

pub length-padded : (n : ℕ) (l : List ℕ) → length l ≤ n → length (padded n l) ≡ n
unfolding padded
length-padded n l h = simp (length-append, length-replicate) (omega arith)

zeros : (n i : ℕ) → get_or (replicate {A = ℕ} n 0) i 0 ≡ 0
zeros zero i = refl
zeros (suc n) zero = refl
zeros (suc n) (suc i) = zeros n i

pub padded-zero : (n : ℕ) (l : List ℕ) → zero_from (padded n l) (length l) ≡ true
unfolding padded
padded-zero n l = zero-make (l ++ replicate (n - length l) 0) (length l) (λ i. get_or-append-add l (replicate (n - length l) 0) i 0 ∙ zeros (n - length l) i)

pub padded-zeros : (n a : ℕ) → a ≤ n → padded n (replicate a 0) ≡ replicate n 0
unfolding padded
padded-zeros n a h =
    let e : a + (n - a) ≡ n = omega arith in
    rw (length-replicate {A = ℕ} a 0) (replicate-append-replicate {A = ℕ} a (n - a) 0 ∙ rw e)

-- a list whose words from a on are zero is its first a words, padded
pub padded-take : (s : List ℕ) (a : ℕ) → a ≤ length s → zero_from s a ≡ true → padded (length s) (take a s) ≡ s
unfolding padded
padded-take s a h t =
    ap (λ (n : ℕ). take a s ++ replicate (length s - n) 0) (length-take-le a s h)
    ∙ ap (λ (r : List ℕ). take a s ++ r) (ext_get_or 0 (replicate (length s - a) 0) (drop a s)
    (length-replicate (length s - a) 0 ∙ sym (length-drop a s))
    (λ i lt. zeros (length s - a) i ∙ sym (get_or-drop a s i 0 ∙ zero-at s a t (a + i) (omega arith))))
    ∙ take-append-drop a s
