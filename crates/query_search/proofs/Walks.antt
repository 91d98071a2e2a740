-- The words of the first query hashes, and of the first postings under a key. Assumes nothing.
use Rattle.std.proofs.Common.{◌≡◌, ℕ, zero, suc, ◌+◌, ◌-◌, ◌*◌, ◌/◌, ◌^◌, ◌<◌, ◌≤◌, eqb, List, [], ◌∷◌, ◌++◌, map, length, get_or, drop, ℤ, sym, refl, ap, ◌∙◌, ap₂, append_assoc, append-nil, zero-add, add-one, arith, length-append}
use mathlib.Core.List.{map-append}
use native.Mathlib.Nat.{mul-div_cancel_left}
use Rattle.lists.specs.Lists.{flat}
use Rattle.lists.specs.Keys.{under}
use Rattle.lists.specs.Entries.{entries, entry_at, key_of}
use Rattle.lists.proofs.Keep.{all_keep, flat_append, flat-one}
use Rattle.lists.proofs.Entries.{entries_none, entries-suc, entries-append, entries-all, entry-word, length-entries}
use Rattle.maps.proofs.Entries.{part_length}
use Rattle.query_search.specs.Gathered.{words_by, Pairing, words_of, words_from, Ids}

pub none_of : {A : Type 0} (l : List A) → length l ≡ 0 → l ≡ []
none_of [] e = refl
none_of (x ∷ l) e = absurd (omega arith)

-- ---- the part under a key

module _ (w : ℕ) (ps : List ℕ) (p : ℕ) (key : ℕ) where
  pub part-many : 0 < w → w * p ≤ length ps → length (flat (under key_of key (entries w p ps))) / w ≡ length (under key_of key (entries w p ps))
  part-many h fits = ap (λ (n : ℕ). n / w) (part_length ps w p key fits) ∙ mul-div_cancel_left (length (under key_of key (entries w p ps))) h

  pub part-ids : Ids (entries w p ps) → Ids (under key_of key (entries w p ps))
  part-ids h = all_keep (λ e. get_or e 1 0 < 2 ^ 12) (λ e. eqb (key_of e) key) (entries w p ps) h

pub id_below : (w : ℕ) → 1 < w → (part : List ℕ) (n j : ℕ) → Ids (entries w n part) → j < n → get_or part (w * j + 1) 0 < 2 ^ 12
id_below w w1 part n j h lt = rw (entry-word w j part 1 w1) at (entries-all (λ e. get_or e 1 0 < 2 ^ 12) w n part h j lt)

-- ---- what the first j entries of a part give

module _ (f : List ℕ → List ℤ) (w : ℕ) (part : List ℕ) where
  abbrev given : ℕ → List ℤ
  given j = words_by f (entries w j part)

  pub given-none : given 0 ≡ []
  unfolding words_by flat
  given-none = rw (entries_none w part)

  given-add : (j d : ℕ) → given (j + d) ≡ given j ++ words_by f (entries w d (drop (w * j) part))
  unfolding words_by
  given-add j d = rw (entries-append w j d part, map-append f (entries w j part) (entries w d (drop (w * j) part))) (flat_append (map f (entries w j part)) (map f (entries w d (drop (w * j) part))))

  pub given-more : (j : ℕ) → given (j + 1) ≡ given j ++ f (entry_at w j part)
  unfolding words_by
  given-more j = rw (add-one j, entries-suc w j part, map-append f (entries w j part) (entry_at w j part ∷ [])) (flat_append (map f (entries w j part)) (f (entry_at w j part) ∷ []) ∙ ap (λ (l : List ℤ). flat (map f (entries w j part)) ++ l) (flat-one (f (entry_at w j part))))

  pub given-count : (j : ℕ) → length (given (j + 1)) ≡ length (given j) + length (f (entry_at w j part))
  given-count j = ap length (given-more j) ∙ length-append (given j) (f (entry_at w j part))

  pub given-longer : (j n : ℕ) → j ≤ n → length (given j) ≤ length (given n)
  given-longer j n h =
      let e : j + (n - j) ≡ n = omega arith in
      let a = given-add j (n - j) in
      let b = rw e at a in
      rw (b, length-append (given j) (words_by f (entries w (n - j) (drop (w * j) part)))) (omega arith)

module _ (pair : Pairing) (es : List (List ℕ)) where
  words_snoc : (q : ℕ) (hs : List (List ℕ)) (h : List ℕ) → words_from pair q es (hs ++ h ∷ []) ≡ words_from pair q es hs ++ words_of pair (q + length hs) es h
  unfolding words_from
  words_snoc q [] h = let e : q + 0 ≡ q = omega arith in rw (e, append-nil)
  words_snoc q (g ∷ hs) h =
      let e : q + suc (length hs) ≡ suc q + length hs = omega arith in
      rw (e, words_snoc (suc q) hs h) (sym (append_assoc (words_of pair q es g) (words_from pair (suc q) es hs) (words_of pair (suc q + length hs) es h)))

  -- ---- the first i of the query hashes in the words hs, u words each

  module _ (u : ℕ) (hs : List ℕ) where
    unfoldable pub firsts : ℕ → List ℤ
    firsts i = words_from pair 0 es (entries u i hs)

    pub firsts-all : (i : ℕ) → firsts i ≡ words_from pair 0 es (entries u i hs)
    unfolding firsts
    firsts-all i = refl

    pub firsts-none : firsts 0 ≡ []
    unfolding firsts words_from
    firsts-none = rw (entries_none u hs)

    pub firsts_more : (i : ℕ) → firsts (i + 1) ≡ firsts i ++ words_of pair i es (entry_at u i hs)
    unfolding firsts
    firsts_more i = rw (add-one i, entries-suc u i hs, words_snoc 0 (entries u i hs) (entry_at u i hs), length-entries u i hs, zero-add i)

    pub firsts-count : (i : ℕ) → length (firsts (i + 1)) ≡ length (firsts i) + length (words_of pair i es (entry_at u i hs))
    firsts-count i = ap length (firsts_more i) ∙ length-append (firsts i) (words_of pair i es (entry_at u i hs))

    longer : (i d : ℕ) → length (firsts i) ≤ length (firsts (i + d))
    longer i zero = let e : i + 0 ≡ i = omega arith in rw e (omega arith)
    longer i (suc d) =
        let ih = longer i d in
        let e : i + suc d ≡ (i + d) + 1 = omega arith in
        rw e (omega (arith, firsts-count (i + d)))

    pub firsts-longer : (i m : ℕ) → i ≤ m → length (firsts i) ≤ length (firsts m)
    firsts-longer i m h = let e : i + (m - i) ≡ m = omega arith in rw e at (longer i (m - i))

    -- hash i's, written behind those before it
    pub put-hash : (i : ℕ) (l a x : List ℤ) → l ≡ firsts i → words_of pair i es (entry_at u i hs) ≡ a → x ≡ l ++ a → x ≡ firsts (i + 1)
    put-hash i l a x e k m = m ∙ ap₂ (λ (y z : List ℤ). y ++ z) e (sym k) ∙ sym (firsts_more i)
