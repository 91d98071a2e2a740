-- Entries that are left out: what stands after i entries have been read and q of them stay. Assumes nothing.
use mathlib.Core.Path.{◌≡◌, refl, sym, ap, ◌∙◌}
use mathlib.Core.Logic.{⊎_elim}
use mathlib.Core.Bool.{Bool, true, false, not, cond, or-false}
use native.Mathlib.Decide.{ℕ_discrete}
use mir.Val.{bool_byte}
use mathlib.Core.List.{List, [], ◌∷◌, ◌++◌, append-nil, append_assoc}
use Prim.Native.Nat.{ℕ, ◌+◌, ◌*◌, ◌-◌, ◌≤◌, ◌<◌, min}
use native.Mathlib.Nat.{mul-le-mul_left, mul-zero, mul-add}
use native.Mathlib.Numerals.{add-one}
use native.Mathlib.Omega.{arith}
use lib.ListN.{length, get_or, take, drop, replicate, length-append, length-drop}
use lib.Seq.{drop-drop, get_or-drop, length-take-le}
use lib.Dec.{eqb}
use borrow.Author.Tests.{eq-eqb, ne_eqb}
use Rattle.lists.specs.Lists.{keep, some?, member, flat}
use Rattle.lists.specs.Entries.{entries, entry_at, padded, Wide}
use Rattle.lists.proofs.Tests.{test, le-or-lt}
use Rattle.lists.proofs.Keep.{keep_append, keep_all, length-keep, flat_append, length-flat, all-make, all_keep}
use Rattle.lists.proofs.Entries.{stride-more, entries-append, entries_at, length-entries, entry-word, flat-entries, all-entries, keep-suc, wide-entries, entries-flat, length-padded}
use Rattle.slices.specs.Parts.{pasted, cleared}
use Rattle.slices.proofs.Moved.{length_moved, take-moved, drop-behind}
use Rattle.postings.specs.Retain.{unnamed, staying, retained, Within, Until}

-- s is s₀ after i of its entries: those that stay stand in front, in q entries, and what stands behind the i is as it was
pub record Done (w f : ℕ) (xs s₀ s : List ℕ) (i q : ℕ) : Type 0 where
  pub len : length s ≡ length s₀
  pub few : q ≤ i
  pub front : take (w * q) s ≡ flat (staying w i f xs s₀)
  pub back : drop (w * i) s ≡ drop (w * i) s₀
  pub many : q ≡ length (staying w i f xs s₀)

pub done_none : (w f : ℕ) (xs s : List ℕ) → Done w f xs s s 0 0
unfolding staying entries keep flat
done_none w f xs s = record { len = refl; few = omega arith; front = rw mul-zero; back = refl; many = refl }

-- an entry's word from the words, and its test
stays : (w f : ℕ) (xs s : List ℕ) (i : ℕ) → f < w → member (get_or s (w * i + f) 0) xs ≡ false → unnamed f xs (entry_at w i s) ≡ true
unfolding unnamed
stays w f xs s i h e = rw (entry-word w i s f h, e)

goes : (w f : ℕ) (xs s : List ℕ) (i : ℕ) → f < w → member (get_or s (w * i + f) 0) xs ≡ true → unnamed f xs (entry_at w i s) ≡ false
unfolding unnamed
goes w f xs s i h e = rw (entry-word w i s f h, e)

-- a run of entries that stay
staying-run : (w f : ℕ) (xs s : List ℕ) (i m : ℕ) → ((j : ℕ) → j < m → unnamed f xs (entry_at w (i + j) s) ≡ true)
    → staying w (i + m) f xs s ≡ staying w i f xs s ++ entries w m (drop (w * i) s)
unfolding staying
staying-run w f xs s i m h =
    let back = drop (w * i) s in
    rw (entries-append w i m s, keep_append (unnamed f xs) (entries w i s) (entries w m back))
    (ap (λ (l : List (List ℕ)). keep (unnamed f xs) (entries w i s) ++ l)
    (keep_all (unnamed f xs) (entries w m back) (all-make (λ e. unnamed f xs e ≡ true) (entries w m back) [] (λ j lt.
    let l : j < m = omega (arith, length-entries w m back) in
    rw (entries_at w m back j l, drop-drop (w * j) (w * i) s, ← mul-add w i j) (h j l)))))

-- an entry that goes
staying-skip : (w f : ℕ) (xs s : List ℕ) (i : ℕ) → unnamed f xs (entry_at w i s) ≡ false → staying w (i + 1) f xs s ≡ staying w i f xs s
unfolding staying
staying-skip w f xs s i e = rw (add-one i) (keep-suc (unnamed f xs) w s i ∙ rw (e, append-nil))

-- how many stay; where one word is named, one entry more
pub staying-few : (w p f : ℕ) (xs s : List ℕ) → length (staying w p f xs s) ≤ p
unfolding staying
staying-few w p f xs s = omega (arith, length-keep (unnamed f xs) (entries w p s), length-entries w p s)

pub staying-all : (w p f x : ℕ) (s : List ℕ) → f < w → ((i : ℕ) → i < p → x ≡ get_or s (w * i + f) 0 → ⊥) → staying w p f (x ∷ []) s ≡ entries w p s
unfolding staying some?
staying-all w p f x s h none_is = keep_all (unnamed f (x ∷ [])) (entries w p s) (all-entries (λ e. unnamed f (x ∷ []) e ≡ true) w p s
    (λ i l. stays w f (x ∷ []) s i h (or-false (eqb x (get_or s (w * i + f) 0)) ∙ ne_eqb x (get_or s (w * i + f) 0) (none_is i l))))

pub others-none : (w f x : ℕ) (s : List ℕ) → length (staying w 0 f (x ∷ []) s) ≡ 0
unfolding staying entries keep
others-none w f x s = refl

-- a flag's number
pub flag-le : (b : Bool) → bool_byte b ≤ 1
flag-le true = omega arith
flag-le false = omega arith

pub flagged : (a x : ℕ) → bool_byte (not (eqb a x)) ≡ cond (eqb x a) 0 1
flagged a x = go (ℕ_discrete a x)
  where
    go : Dec (a ≡ x) → bool_byte (not (eqb a x)) ≡ cond (eqb x a) 0 1
    go (yes e) = rw (eq-eqb a x e, eq-eqb x a (sym e))
    go (no e) = rw (ne_eqb a x e, ne_eqb x a (λ f. e (sym f)))

pub others-more : (w f x : ℕ) (s : List ℕ) (i : ℕ) → f < w → length (staying w (i + 1) f (x ∷ []) s) ≡ length (staying w i f (x ∷ []) s) + cond (eqb x (get_or s (w * i + f) 0)) 0 1
unfolding some?
others-more w f x s i h =
    let one : member (get_or s (w * i + f) 0) (x ∷ []) ≡ eqb x (get_or s (w * i + f) 0) = or-false (eqb x (get_or s (w * i + f) 0)) in
    test (eqb x (get_or s (w * i + f) 0))
    (λ e. rw e (ap length (staying-skip w f (x ∷ []) s i (goes w f (x ∷ []) s i h (one ∙ e))) ∙ omega arith))
    (λ e. rw e (ap length (staying-run w f (x ∷ []) s i 1 (λ j l. let z : i + j ≡ i = omega arith in rw z (stays w f (x ∷ []) s i h (one ∙ e)))) ∙ rw length-append (omega (arith, length-entries w 1 (drop (w * i) s)))))

-- those that stay are what is retained, read again
module _ (w p f : ℕ) (xs s : List ℕ) (room : w * p ≤ length s) where
  pub wide-staying : Wide w (staying w p f xs s)
  unfolding staying
  wide-staying = all_keep (λ (e : List ℕ). length e ≡ w) (unnamed f xs) (entries w p s) (wide-entries w p s room)

  pub retained-entries : entries w (length (staying w p f xs s)) (retained w p f xs s) ≡ staying w p f xs s
  unfolding retained padded
  retained-entries = rw append_assoc (entries-flat w (staying w p f xs s) (replicate (w * p - length (flat (staying w p f xs s))) 0 ++ drop (w * p) s) wide-staying)

  pub length_retained : length (retained w p f xs s) ≡ length s
  unfolding retained
  length_retained =
      let few : length (flat (staying w p f xs s)) ≤ w * p = rw (length-flat w (staying w p f xs s) wide-staying) (mul-le-mul_left w (staying-few w p f xs s)) in
      rw (length-append, length-padded (w * p) (flat (staying w p f xs s)) few, length-drop) (omega arith)

module _ (w f : ℕ) (xs s₀ s : List ℕ) (p i q : ℕ) (within : Within w p f s₀ 0) (ip : i < p) (d : Done w f xs s₀ s i q) where
  -- words behind entry i are as they were
  pub same_word : (j : ℕ) → i ≤ j → get_or s (w * j + f) 0 ≡ get_or s₀ (w * j + f) 0
  same_word j h =
      let m = mul-le-mul_left w h in
      let e : w * j + f ≡ w * i + (w * j + f - w * i) = omega arith in
      rw e (sym (get_or-drop (w * i) s (w * j + f - w * i) 0)
      ∙ ap (λ (l : List ℕ). get_or l (w * j + f - w * i) 0) d.back
      ∙ get_or-drop (w * i) s₀ (w * j + f - w * i) 0)

  module _ (e : ℕ) (u : Until (λ x. member x xs) w p f s i e) where
    abbrev run : ℕ
    run = e - i

    place : i + run ≡ e
    place = omega (arith, u.since)

    words : w * i + w * run ≡ w * e
    words = sym (mul-add w i run) ∙ ap (λ (n : ℕ). w * n) place

    pub low : w * q ≤ w * i
    low = mul-le-mul_left w d.few

    pub high : w * i + w * run ≤ length s
    high = rw (words, d.len) (omega (arith, mul-le-mul_left w u.within, within.room))

    -- the run is moved
    abbrev after : List ℕ
    after = pasted s (w * q) s (w * i) (w * run)

    run-stays : staying w e f xs s₀ ≡ staying w i f xs s₀ ++ entries w run (drop (w * i) s₀)
    run-stays = rw place at (staying-run w f xs s₀ i run (λ j l.
        stays w f xs s₀ (i + j) within.field (sym (ap (λ (x : ℕ). member x xs) (same_word (i + j) (omega arith))) ∙ u.before (i + j) (omega arith) (omega arith))))

    ran : Done w f xs s₀ after e (q + run)
    ran = record {
      len = length_moved s (w * q) (w * i) (w * run) low high (w * run) (omega arith) ∙ d.len;
      few = omega (arith, d.few, u.since);
      front =
          rw (mul-add w q run)
          (take-moved s (w * q) (w * i) (w * run) low high
          ∙ ap (λ (l : List ℕ). l ++ take (w * run) (drop (w * i) s)) d.front
          ∙ ap (λ (l : List ℕ). flat (staying w i f xs s₀) ++ take (w * run) l) d.back
          ∙ sym (ap flat run-stays ∙ flat_append (staying w i f xs s₀) (entries w run (drop (w * i) s₀))
          ∙ ap (λ (l : List ℕ). flat (staying w i f xs s₀) ++ l) (flat-entries w run (drop (w * i) s₀))));
      back = rw (← words) (drop-behind s (w * q) (w * i) (w * run) low high
          ∙ sym (drop-drop (w * run) (w * i) s) ∙ ap (λ (l : List ℕ). drop (w * run) l) d.back ∙ drop-drop (w * run) (w * i) s₀);
      many = omega (arith, d.many, ap length run-stays, length-append (staying w i f xs s₀) (entries w run (drop (w * i) s₀)), length-entries w run (drop (w * i) s₀));
    }

    -- and the entry behind it goes, if there is one
    pub done_more : Done w f xs s₀ after (min (e + 1) p) (q + run)
    done_more = ⊎_elim
        (λ (h : p ≤ e).
        let m : min (e + 1) p ≡ e = omega (arith, u.within) in
        rw m ran)
        (λ (h : e < p).
        let m : min (e + 1) p ≡ e + 1 = omega arith in
        let g = staying-skip w f xs s₀ e (goes w f xs s₀ e within.field (sym (ap (λ (x : ℕ). member x xs) (same_word e u.since)) ∙ u.stop h)) in
        rw m (record {
          len = ran.len;
          few = omega (arith, ran.few);
          front = ran.front ∙ sym (ap flat g);
          back = rw (stride-more w e) (sym (drop-drop w (w * e) after) ∙ ap (λ (l : List ℕ). drop w l) ran.back ∙ drop-drop w (w * e) s₀);
          many = ran.many ∙ sym (ap length g);
        }))
        (le-or-lt p e)

pub done_all : (w f : ℕ) (xs s₀ s : List ℕ) (p q : ℕ) → w * p ≤ length s₀ → Done w f xs s₀ s p q → cleared s (w * q) (w * p) ≡ retained w p f xs s₀
unfolding cleared retained padded
done_all w f xs s₀ s p q room d =
    let qp = mul-le-mul_left w d.few in
    let k : length (flat (staying w p f xs s₀)) ≡ w * q = sym (ap length d.front) ∙ length-take-le (w * q) s (omega (arith, qp, d.len)) in
    rw (d.front, d.back, k, append_assoc)
