-- The bins of Wang votes that `count_sorted` stores are such as `Binned` says. Assumes nothing.
use mathlib.Core.Path.{◌≡◌, refl, sym, ap, ap₂, ◌∙◌}
use mathlib.Core.Bool.{Bool}
use mathlib.Core.List.{List, [], ◌∷◌, map}
use Prim.Native.Nat.{ℕ, ◌+◌, ◌*◌, ◌^◌, ◌≤◌, ◌<◌}
use native.Mathlib.Omega.{arith}
use lib.IntN.{ℤ, pos, neg_ℤ, nat_abs, ◌+ℤ◌, ◌-ℤ◌, +ℤ_comm, +ℤ-neg_ℤ_cancel}
use lib.ListN.{length, get_or, take, drop, length-drop}
use lib.Seq.{get_or-take, get_or-drop}
use Rattle.lists.proofs.Keep.{all-at}
use Rattle.maps.specs.Sums.{sum_to, when}
use Rattle.maps.specs.Lists.{count_if}
use Rattle.maps.specs.Bins.{offset, votes, place}
use Rattle.maps.proofs.Sums.{sum-cong}
use Rattle.maps.proofs.Lists.{sum-count}
use Rattle.bins.specs.Votes.{wang_form, place_of, places}
use Rattle.bins.specs.Codes.{codes_in, occupied, how_often, offset_words, bins_of, stored}
use Rattle.bins.specs.Binned.{Binned}
use Rattle.bins.proofs.Stored.{stored-read}
use Rattle.bins.proofs.Occupied.{occupied-few, occupied-some, occupied-voted, occupied-all, key, keys-up, keys-held, bins-length, bins-at}
use Rattle.bins.proofs.Binning.{codes-length, codes-each}

-- ---- what words say, counted by index

pub count_map : {A B : Type 0} (f : A → B) (p : B → Bool) (xs : List A) → count_if p (map f xs) ≡ count_if (λ x. p (f x)) xs
unfolding count_if
count_map f p [] = refl
count_map f p (x ∷ xs) = ap (λ (n : ℕ). when (p (f x)) 1 + n) (count_map f p xs)

pub count-words : {A : Type 0} (v : ℤ → A) (p : A → Bool) (s : List ℤ) (a g : ℕ) → a + g ≤ length s
    → count_if p (map v (take g (drop a s))) ≡ sum_to (λ t. when (p (v (get_or s (a + t) (pos 0)))) 1) g
count-words v p s a g h =
    count_map v p (take g (drop a s))
    ∙ sym (sum-count (λ z. p (v z)) (pos 0) (drop a s) g (omega (arith, length-drop a s)))
    ∙ sum-cong (λ t. when (p (v (get_or (drop a s) t (pos 0)))) 1) (λ t. when (p (v (get_or s (a + t) (pos 0)))) 1) g
    (λ t l. ap (λ (z : ℤ). when (p (v z)) 1) (get_or-drop a s t (pos 0)))

-- ---- the bins

module _ (middle : ℕ) (ks : List ℕ) (l : List ℤ) (written : take (2 * length (occupied ks)) l ≡ bins_of wang_form middle ks) where
  abbrev n : ℕ
  n = length (occupied ks)

  abbrev low : ℤ
  low = neg_ℤ (pos middle)

  module _ (j : ℕ) (h : j < n) where
    words : (t : ℕ) → t < 2 → get_or l (2 * j + t) (pos 0) ≡ get_or (offset_words middle (key ks j) (how_often ks (key ks j))) t (pos 0)
    words t k = sym (get_or-take (2 * n) l (2 * j + t) (pos 0) (omega arith)) ∙ ap (λ (x : List ℤ). get_or x (2 * j + t) (pos 0)) written ∙ bins-at wang_form middle ks j t h k

    offset-is : offset l j ≡ low +ℤ pos (key ks j)
    offset-is = let e : 2 * j ≡ 2 * j + 0 = omega arith in ap (λ (k : ℕ). get_or l k (pos 0)) e ∙ words 0 (omega arith)

    count-is : get_or l (2 * j + 1) (pos 0) ≡ pos (how_often ks (key ks j))
    count-is = words 1 (omega arith)

    place_is : place l low j ≡ key ks j
    place_is = ap (λ (z : ℤ). nat_abs (z -ℤ low)) (offset-is ∙ +ℤ_comm low (pos (key ks j))) ∙ ap nat_abs (+ℤ-neg_ℤ_cancel (pos (key ks j)) low)

    votes-are : votes l j ≡ how_often ks (key ks j)
    votes-are = ap nat_abs count-is

pub stored-binned : (s : List ℤ) (a g at middle : ℕ) → a + g ≤ at → at + 2 * g ≤ length s
    → Binned (places s a) g (neg_ℤ (pos middle)) (drop at (stored s at (bins_of wang_form middle (codes_in wang_form s a g)))) (length (occupied (codes_in wang_form s a g)))
unfolding places
stored-binned s a g at middle before room =
    record {
      few = omega (arith, occupied-few ks, all);
      some = λ h. occupied-some ks (omega (arith, all));
      offsets = λ j h. offset-is middle ks l written j h ∙ ap (λ (x : ℕ). neg_ℤ (pos middle) +ℤ pos x) (sym (place_is middle ks l written j h));
      counts = λ j h. count-is middle ks l written j h ∙ ap pos (sym (votes-are middle ks l written j h));
      occupied = λ j h. omega (arith, votes-are middle ks l written j h, all-at (λ k. 0 < how_often ks k) (occupied ks) 0 (occupied-voted ks) j h);
      ascend = λ i j h k. omega (arith, place_is middle ks l written i (omega arith), place_is middle ks l written j k, keys-up ks i j h k);
      spanned = λ most m j h. omega (arith, place_is middle ks l written j h, all-at (λ k. k ≤ most) (occupied ks) 0 (occupied-all (λ k. k ≤ most) ks (codes-each wang_form s a g (omega arith) (λ k. k ≤ most) m)) j h);
      held = λ p. sum-cong (λ j. when (p (place l (neg_ℤ (pos middle)) j)) (votes l j)) (λ j. when (p (key ks j)) (how_often ks (key ks j))) (length (occupied ks))
          (λ j h. ap₂ (λ (x v : ℕ). when (p x) v) (place_is middle ks l written j h) (votes-are middle ks l written j h))
          ∙ keys-held ks (2 ^ 33) (codes-each wang_form s a g (omega arith) (λ k. k < 2 ^ 33) (λ t h. omega arith)) p ∙ count-words place_of p s a g (omega arith);
    }
  where
    ks : List ℕ
    ks = codes_in wang_form s a g

    all : length ks ≡ g
    all = codes-length wang_form s a g (omega arith)

    l : List ℤ
    l = drop at (stored s at (bins_of wang_form middle ks))

    written : take (2 * length (occupied ks)) l ≡ bins_of wang_form middle ks
    written = let e = bins-length wang_form middle ks in rw e at (stored-read s at (bins_of wang_form middle ks) (omega (arith, e, occupied-few ks, all)))
